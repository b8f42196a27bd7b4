use Rattle.std.proofs.Common.{◌≡◌, ◌+◌, ◌∷◌, ◌++◌, [], ◌<◌, length, refl, sym, ap, ◌∙◌, arith}
use Rattle.std.proofs.lemmas.Bool.{false≢true}
use Rattle.std.proofs.lemmas.Bool.Decides.{nat_tests}
use Rattle.std.proofs.lemmas.List.{length_push}
use Rattle.op_text.proofs.WriteWords.{all_read, never, none_there, read_more, read_to_end, some_there, stop_there, too_many}
use Rattle.op_text.proofs.writes.are_writes.Goals as goal

pub returns-then-count-eq-MOST_WRITES : goal.returns-then-count-eq-MOST_WRITES
returns-then-count-eq-MOST_WRITES g c =
    let read = c.loop-first.invariant.read in
    never _ (too_many read.0 c.in-Some.first _ _ _ read.1 c.in-Some.ensures.found (omega (arith, read.2, c.if-count-eq-MOST_WRITES.true)))

pub returns-then-not-is_write : goal.returns-then-not-is_write
returns-then-not-is_write g c =
    let read = c.loop-first.invariant.read in
    never _ (stop_there read.0 c.in-Some.first _ _ _ read.1 c.in-Some.ensures.found (λ w. false≢true (sym c.if-not-is_write.true ∙ c.is_write.ensures.1 w)))

pub loop-first-preserved : goal.loop-first-preserved
loop-first-preserved g c =
    let read = c.loop-first.invariant.read in
    let w = c.is_write.ensures.0 c.if-not-is_write.false in
    record {
      few = omega arith;
      read = (
        read.0 ++ w.0 ∷ [],
        read_more read.0 _ w.0 _ _ _ _ read.1 w.1 c.in-Some.ensures.found refl,
        length_push read.0 w.0 ∙ ap (λ n. n + 1) read.2,
      );
    }

pub returns-then-not-is_empty : goal.returns-then-not-is_empty
returns-then-not-is_empty g c =
    let read = c.loop-first.invariant.read in
    let some : 0 < length c.loop-first.rest.now = grind arith in
    never _ (λ h. some_there g.W.AsSlice.items c.loop-first.rest.now some (all_read read.0 _ _ read.1 c.in_default.ensures.none h).1)

pub returns : goal.returns
returns g c =
    let read = c.loop-first.invariant.read in
    let end : length c.loop-first.rest.now ≡ 0 = grind arith in (
      λ test.
          let some : 0 < c.loop-first.count = grind (arith, nat_tests) in
          read_to_end read.0 _ _ read.1 (none_there g.W.AsSlice.items c.loop-first.rest.now end) (omega (arith, some, read.2)) (omega (arith, read.2, c.loop-first.invariant.few)),
      λ h.
          let all = all_read read.0 _ _ read.1 c.in_default.ensures.none h in
          let some : 0 < c.loop-first.count = omega (arith, all.0.in_range.some, read.2) in
          grind (arith, nat_tests),
    )
