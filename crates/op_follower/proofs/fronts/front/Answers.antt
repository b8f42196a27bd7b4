use Rattle.std.proofs.Common.{◌≡◌, ◌≤◌, ◌+◌, ◌-◌, ◌++◌, ◌∷◌, [], ℕ, List, None, Some, sym, ap, ◌∙◌, arith, append_assoc, append-nil}
use Rattle.op_types.specs.Joinings.{Held, held_at, held_with}
use Rattle.op_types.specs.Stages.{front_up_to}
use Rattle.op_types.specs.declared.log.Entry.{Entry}
use Rattle.op_follower.proofs.Gaps.{same_at, front_none, front_more}
use Rattle.op_follower.proofs.fronts.front.Goals as goal

pub returns-in_default : goal.returns-in_default
returns-in_default c =
    let run = c.args.part.now.run in
    let h : Held = held_with c.args.staged.now c.args.part.now.at run in
    let p = c.loop-place.place in
    let left : Held = c.passed_below-rest.result.now in
    let same : held_at left p ≡ held_at c.args.staged.now p = c.passed_below-rest.ensures.same p (omega arith) ∙ c.loop-place.invariant.same p (omega arith) in
    let none : held_at h p ≡ None = sym (same_at left c.args.staged.now c.args.part.now.at run p same) ∙ c.in_default.ensures.none in
    sym (append-nil c.loop-place.entries)
    ∙ ap (λ (es : List Entry). c.loop-place.entries ++ es) (sym (front_none h (c.args.to - p) p none))
    ∙ c.loop-place.invariant.copied

pub loop-place-preserved : goal.loop-place-preserved
loop-place-preserved c =
    let run = c.args.part.now.run in
    let h : Held = held_with c.args.staged.now c.args.part.now.at run in
    let p = c.loop-place.place in
    let left : Held = c.passed_below-rest.result.now in
    let stays : (i : ℕ) → p ≤ i → held_at left i ≡ held_at c.args.staged.now i = λ i le. c.passed_below-rest.ensures.same i le ∙ c.loop-place.invariant.same i le in
    let e : Entry = c.in_ok-copy.field-0 in
    let some : held_at h p ≡ Some e =
    sym (same_at left c.args.staged.now c.args.part.now.at run p (stays p (omega arith))) ∙ c.in-Some.ensures.some ∙ ap (λ (x : Entry). Some x) (sym c.in_ok-copy.ensures) in
    let rest : List Entry = front_up_to (c.args.to - (p + 1)) h (p + 1) in
    record {
      rising = c.passed_below-rest.ensures.rising;
      same = λ i le. stays i (omega arith);
      copied =
          ap (λ (es : List Entry). es ++ rest) c.in_ok-push.ensures.ok
          ∙ append_assoc c.loop-place.entries (e ∷ []) rest
          ∙ ap (λ (es : List Entry). c.loop-place.entries ++ es) (sym (front_more h p c.args.to e c.loop-place-test.true some))
          ∙ c.loop-place.invariant.copied;
    }
