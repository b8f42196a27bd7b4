use Rattle.std.proofs.Common.{◌≡◌, sym, ap, ◌∙◌}
use Rattle.std.proofs.lemmas.Result.{IfOk-weaker}
use Rattle.op_types.specs.Roles.{role_of}
use Rattle.op_types.specs.declared.messages.Body.{Body}
use Rattle.op_types.specs.declared.plan.Plan.{Plan}
use Rattle.op_protocol.specs.Follower.{on_accept_sync_part}
use Rattle.op_protocol.specs.State as step
use Rattle.op_protocol.specs.State.{with_effects}
use Rattle.op_protocol.specs.Rows.{on_body}
use Rattle.op_instance.specs.declared.volatile.Volatile.{Volatile}
use Rattle.op_instance.specs.Memory.{volatile_of, part_step_of}
use Rattle.op_instance.specs.Routing.{row_of}
use Rattle.op_instance.proofs.Lifts.{lifted_ok, routed, staged_ok, stage_room_ok}
use Rattle.op_instance.proofs.delivering.receive.Goals as goal

pub returns-in_default-clause-step : goal.returns-in_default-clause-step
returns-in_default-clause-step c =
    let me = c.args.member.now.me in
    let p = c.args.member.now.part.now in
    let v = c.args.volatile.now in
    let b = c.args.body in
    let row = row_of me p (role_of v.role) c.args.from b in
    IfOk-weaker c.route.result (λ (plan : Plan). part_step_of plan (volatile_of v) ≡ with_effects (volatile_of v) row) (λ (plan : Plan). part_step_of plan (volatile_of v) ≡ on_body me p (volatile_of v) c.args.from b)
    (λ (plan : Plan) is. is ∙ routed me p (volatile_of v) c.args.from b c.in_default.not-HeartbeatRequest c.in_default.not-HeartbeatReply c.in_default.not-Refuse c.in_default.not-AcceptSyncPart)
    (lifted_ok c.route.result c.route.new.role v row c.route.ensures.room c.route.ensures.row)

pub returns-in-AcceptSyncPart-clause-step : goal.returns-in-AcceptSyncPart-clause-step
returns-in-AcceptSyncPart-clause-step c =
    let me = c.args.member.now.me in
    let p = c.args.member.now.part.now in
    let v = c.args.volatile.now in
    let ballot = c.in-AcceptSyncPart.ballot in
    let part = c.in-AcceptSyncPart.part in
    IfOk-weaker c.on_accept_sync_part.result (λ (plan : Plan). part_step_of plan (volatile_of v) ≡ on_accept_sync_part p (volatile_of v) c.args.from ballot part)
    (λ (plan : Plan). part_step_of plan (volatile_of v) ≡ on_body me p (volatile_of v) c.args.from c.args.body)
    (λ (plan : Plan) is. is ∙ ap (λ (b : Body). on_body me p (volatile_of v) c.args.from b) (sym c.in-AcceptSyncPart.is))
    (staged_ok c.on_accept_sync_part.result c.on_accept_sync_part.new.staged (volatile_of v)
    (λ (w : step.Volatile). on_accept_sync_part p w c.args.from ballot part) c.on_accept_sync_part.ensures.room c.on_accept_sync_part.ensures.row)

pub returns-in-AcceptSyncPart-clause-room : goal.returns-in-AcceptSyncPart-clause-room
returns-in-AcceptSyncPart-clause-room c =
    let w : Volatile = record c.args.volatile.now { staged = c.on_accept_sync_part.new.staged } in
    stage_room_ok c.on_accept_sync_part.result w c.on_accept_sync_part.ensures.room
