use Rattle.std.proofs.Common.{◌≡◌, ◌<◌, ◌++◌, ◌∷◌, [], length, ◌+◌, refl, ap, ◌∙◌, arith}
use Rattle.std.proofs.lemmas.List.{length_push}
use Rattle.op_text.proofs.DecodedBytes.{read_nothing, read_more, read_all, none_here}
use Rattle.op_text.proofs.decoding.count_of.Goals as goal

pub loop-rest-init : goal.loop-rest-init
loop-rest-init c = record { read = ([], read_nothing _ _ refl, refl); fits = omega arith }

pub loop-rest-preserved : goal.loop-rest-preserved
loop-rest-preserved c =
    let some : 0 < length c.loop-rest.rest.now = grind arith in
    let read = c.loop-rest.invariant.read in
    record {
      read = (read.0 ++ c.in-Some.field-0-0 ∷ [], read_more read.0 _ c.in-Some.field-0-0 _ _ _ read.1 some c.in-Some.ensures.found refl, length_push read.0 _ ∙ ap (λ n. n + 1) read.2);
      fits = omega (arith, c.loop-rest.invariant.fits, c.in-Some.ensures.shorter);
    }

pub returns-in_default : goal.returns-in_default
returns-in_default c = λ n h.
    let some : 0 < length c.loop-rest.rest.now = grind arith in
    c.loop-rest.invariant.read.1.none (none_here _ some c.in_default.ensures.none) h.0 h.1

pub returns : goal.returns
returns c =
    let end : length c.loop-rest.rest.now ≡ 0 = grind arith in
    let read = c.loop-rest.invariant.read in
    (read.0, read_all _ _ _ read.1 end, read.2)
