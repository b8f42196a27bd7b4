use Rattle.std.proofs.Common.{◌∙◌}
use Rattle.op_chain.proofs.Joined.{copy_holds}
use Rattle.op_chain.proofs.joining.holding.Goals as goal

pub returns-in-Some : goal.returns-in-Some
returns-in-Some c =
    let holds = copy_holds c.args.joining.now c.args.batch.now c.in_ok-copy.field-0 c.in_ok-copy_batch.field-0 c.in_ok-copy.ensures (c.in_ok-copy_batch.ensures ∙ c.as_slice.ensures) c.requires in
    holds.after c.in-Some.after (rw c.in-Some.is at c.in_ok-after.ensures.applied).1

pub returns-in-None : goal.returns-in-None
returns-in-None c =
    let holds = copy_holds c.args.joining.now c.args.batch.now c.in_ok-copy.field-0 c.in_ok-copy_batch.field-0 c.in_ok-copy.ensures (c.in_ok-copy_batch.ensures ∙ c.as_slice.ensures) c.requires in
    absurd ((rw c.in-None.is at c.in_ok-after.ensures.none) holds.applies)
