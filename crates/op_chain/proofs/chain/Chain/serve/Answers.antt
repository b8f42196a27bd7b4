use Rattle.std.proofs.Common.{◌≡◌, List, [], refl, sym, ap, subst, ◌∙◌}
use Rattle.std.specs.Prelude.{None}
use Rattle.std.proofs.lemmas.Result.{on_ok_weaker}
use Rattle.op_types.specs.Roles.{role_of}
use Rattle.op_types.specs.declared.changes.Change.{Change}
use Rattle.op_spec.specs.Service.{Service}
use Rattle.op_protocol.specs.Rows.{newly_decided}
use Rattle.op_change.specs.Over.{nothing_written, service_over}
use Rattle.op_deciding.specs.Deciding.{ServesNothing, IsServed}
use Rattle.op_chain.specs.Plans.{HasRoomToTell, IfCloses, Serves}
use Rattle.op_chain.specs.declared.chain.Chain.{Chain}
use Rattle.op_chain.specs.declared.chain_plan.ChainPlan.{ChainPlan}
use Rattle.op_deciding.specs.declared.served.Served.{Served}
use Rattle.op_chain.proofs.Steps.{chain_plan}
use Rattle.op_chain.proofs.chain.Chain.serve.Goals as goal

pub serve_decided-requires-clause-nothing : goal.serve_decided-requires-clause-nothing
serve_decided-requires-clause-nothing c =
    let s = c.settle.new.self.service in
    let none : ServesNothing s (record { change = nothing_written; replies = []; stop = None }) = record { change = refl; replies = refl; stop = refl } in
    subst (λ (x : Served). ServesNothing s x) (sym (ap (λ (p : ChainPlan). p.served) c.requires.nothing)) none

pub returns-clause-served : goal.returns-clause-served
returns-clause-served c =
    let a = c.args.self.now in
    let plan = c.args.plan.now.plan in
    let made = c.serve_decided.new.served in
    let closed = c.close.new.plan in
    let ready = c.make_room.new.self in
    let last = c.let_refused_go.new.self in
    let serves : IsServed a.service.service (newly_decided a.durable.part plan.batch) made =
    subst (λ (s : Service). IsServed s (newly_decided a.durable.part plan.batch) made) c.settle.ensures.stays
    (subst (λ (b : List Change). IsServed c.settle.new.self.service (newly_decided a.durable.part b) made) c.as_slice-batch.ensures c.in_ok-serve_decided.ensures) in
    let closes : IfCloses a.me a.durable.part (service_over a.service.service made.change) (role_of a.volatile.role) plan closed.plan closed.renewal =
    subst (λ (s : Service). IfCloses a.me a.durable.part (service_over s made.change) (role_of a.volatile.role) plan closed.plan closed.renewal) c.settle.ensures.stays c.in_ok-close.ensures.closes in
    let settled : last.service.waiting ≡ 0 = ap (λ (n : Chain). n.service.waiting) c.let_refused_go.ensures.rest ∙ c.in_ok-settle.ensures.ready in
    let is : ready ≡ chain_plan closed.plan made closed.renewal ready.room =
    c.make_room.ensures.rest ∙ ap (λ (s : Served). chain_plan closed.plan s closed.renewal ready.room) (ap (λ (p : ChainPlan). p.served) c.close.ensures.rest) in
    on_ok_weaker c.make_room.result
    (λ (tells : HasRoomToTell ready) ws next. subst (λ (p : ChainPlan). Serves a plan ws last p) (sym is)
    (record { settled = settled; served = serves; closes = closes; waits = c.let_refused_go.ensures.room ws next; room = subst HasRoomToTell is tells }))
    c.make_room.ensures.room
