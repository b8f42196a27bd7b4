use Rattle.std.proofs.lemmas.Result.{IfOk-weaker}
use Rattle.op_types.specs.Joinings.{held_with}
use Rattle.op_types.specs.declared.plan.Plan.{Plan}
use Rattle.op_protocol.specs.Follower.{appended_staged, on_accept_sync_part}
use Rattle.op_follower.specs.Staging.{DoesStep}
use Rattle.op_follower.proofs.PartRows.{later_is}
use Rattle.op_follower.proofs.staging.on_accept_sync_part.Goals as goal

pub returns-then-is_same-clause-row : goal.returns-then-is_same-clause-row
returns-then-is_same-clause-row c =
    let p = c.args.member.now.part.now in
    let part = c.args.part in
    IfOk-weaker c.later_part.result (λ (plan : Plan). DoesStep c.args.staged.now.items plan (λ v. appended_staged p v c.args.from c.args.ballot part.at (held_with v.staged part.at part.run)))
    (λ (plan : Plan). DoesStep c.args.staged.now.items plan (λ v. on_accept_sync_part p v c.args.from c.args.ballot part))
    (λ (plan : Plan) does. later_is p c.args.from c.args.ballot part c.args.staged.now.items plan (cc) (cc) (cc) (cc) does) c.later_part.ensures.row
