use Rattle.std.proofs.Common.{sym, ◌∙◌}
use Rattle.op_text.proofs.DecodedBytes.{no_prefix_from}
use Rattle.op_text.proofs.decoding.first_byte.Goals as goal

pub returns-clause-none : goal.returns-clause-none
returns-clause-none c =
    no_prefix_from c.escaped_byte.result c.in_ok-first.first.now c.args.word.now c.in_ok-first.after.now (sym c.is_plain.ensures ∙ c.if-is_plain.false) c.in_ok-first.ensures.cases.0 c.escaped_byte.ensures.none
