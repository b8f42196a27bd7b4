use Rattle.std.proofs.Common.{rules, tests, ◌≡◌, false, eqb, length, sym, ◌∙◌}
use Rattle.op_text.proofs.PlainBytes.{plain_within}
use Rattle.op_text.proofs.decoding.bytes_within.Goals as goal

pub returns-then-all_plain : goal.returns-then-all_plain
returns-then-all_plain c =
    let some : eqb (length c.args.word.now) 0 ≡ false = search (rules, tests) in
    rw c.in_ok-from_slice.ensures
    (plain_within c.args.least c.args.most c.args.word.now some c.if-least-word.true c.if-word-most.true (sym c.all_plain.ensures ∙ c.if-all_plain.true))
