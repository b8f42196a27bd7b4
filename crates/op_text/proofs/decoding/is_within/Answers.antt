use Rattle.std.proofs.Common.{◌≤◌, refl, arith}
use Rattle.std.proofs.lemmas.Bool.Decides.{nat_tests}
use Rattle.op_text.specs.Percent.{EncodesCount}
use Rattle.op_text.proofs.DecodedBytes.{within_by_count, count_within}
use Rattle.op_text.proofs.decoding.is_within.Goals as goal

pub returns-then-least-count : goal.returns-then-least-count
returns-then-least-count c =
    let found : EncodesCount c.args.word.now c.in-Some.count = rw c.in-Some.is at c.decoded_len.ensures in
    let low : c.args.least ≤ c.in-Some.count = grind (arith, nat_tests) in (
      λ test. within_by_count _ _ _ _ found low (grind (arith, nat_tests)),
      λ h. let within = count_within _ c.args.least c.args.most _ found h in grind (arith, nat_tests),
    )

pub returns-else-least-count : goal.returns-else-least-count
returns-else-least-count c =
    let found : EncodesCount c.args.word.now c.in-Some.count = rw c.in-Some.is at c.decoded_len.ensures in (
      λ test. absurd (grind (arith, nat_tests)),
      λ h. let within = count_within _ c.args.least c.args.most _ found h in grind (arith, nat_tests),
    )

pub returns-in-None : goal.returns-in-None
returns-in-None c =
    let none = rw c.in-None.is at c.decoded_len.ensures in
    (λ test. absurd cc, λ h. absurd (none _ (h.0, h.1.2, refl)))
