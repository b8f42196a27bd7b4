use Rattle.op_runs.specs.World.{Sent}
use Rattle.op_executions.specs.Deeds.{deed_shown}
use Rattle.op_executions.proofs.Deeds.{delivered}
use Rattle.op_executions.proofs.deed.delivery.Goals as goal

pub returns : goal.returns
returns c =
    let said : Sent = record { from = c.sent.inside.from; to = c.sent.inside.to; message = c.sent.inside.message } in
    delivered c.args.messages.now c.args.number c.index-messages-number.result said c.in_ok-copy.field-0 (deed_shown c.stepping.result) c.requires c.index-messages-number.is c.sent.view_is c.in_ok-copy.ensures c.stepping.ensures
