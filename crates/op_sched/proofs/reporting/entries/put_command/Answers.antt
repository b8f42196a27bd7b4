use Rattle.std.proofs.Common.{refl, ◌∙◌}
use Rattle.std.proofs.lemmas.Result.{on_ok_weaker}
use Rattle.op_sched.proofs.EntryLines.{command_line}
use Rattle.op_sched.proofs.reporting.entries.put_command.Goals as goal

pub returns : goal.returns
returns c =
    on_ok_weaker c.put_operands.result
    (λ whole. command_line _ _ _ _ _ c.args.command.now.client c.args.command.now.seq c.args.command.now.op
    (c.as_slice.ensures ∙ c.put_place.ensures
    ∙ rw (c.word-3.ensures.put, c.op_name.ensures.name, c.word-2.ensures.put, c.number-2.ensures.put, c.word.ensures.put, c.number.ensures.put, c.new-row.ensures) refl)
    c.in_ok-extend_from_slice.ensures.items whole)
    c.put_operands.ensures
