use Rattle.std.proofs.Common.{◌≡◌, ℕ, List, sym, ap, subst, ◌∙◌}
use Rattle.std.proofs.lemmas.Result.{on_ok_weaker}
use Rattle.op_types.specs.declared.durable.Durable.{Durable}
use Rattle.op_types.specs.declared.plan.Plan.{Plan}
use Rattle.op_protocol.specs.State.{Waiting}
use Rattle.op_protocol.specs.Rows.{based_batch, newly_decided}
use Rattle.op_spec.specs.Service.{Service}
use Rattle.op_instance.specs.Memory.{volatile_of, HasRoomIn}
use Rattle.op_deciding.specs.Deciding.{IsServed}
use Rattle.op_chain.specs.Waiting.{with_waiters}
use Rattle.op_chain.specs.Plans.{waiters_of, waiting_by, IfMayClose, Serves}
use Rattle.op_chain.specs.declared.chain.Chain.{Chain}
use Rattle.op_chain.proofs.Prepared.{IsLike, may_be_closed, step_prepared, like_stepped, like_served, like_waiting, like_is, closes_like}
use Rattle.op_chain.proofs.Trims.{with_bases}
use Rattle.op_chain.proofs.chain.Chain.fill.Goals as goal

pub serve-requires-clause-may : goal.serve-requires-clause-may
serve-requires-clause-may c =
    let a = c.args.self.now in
    let stored : c.step.new.self.durable ≡ a.durable = ap (λ (n : Chain). n.durable) c.step.ensures.rest in
    let p = c.step.new.plan in
    let batch = c.add_bases.new.batch in
    let plan : Plan = record p { batch = batch } in
    let based : batch ≡ based_batch a.durable.part p.batch = c.in_ok-add_bases.ensures ∙ ap (λ (d : Durable). based_batch d.part p.batch) stored in
    let step = with_bases a.durable.part p batch (volatile_of a.volatile) _ based c.in_ok-step.ensures.step in
    subst (λ (d : Durable). IfMayClose d.part batch) (sym stored) (may_be_closed a c.args.input c.requires.admits c.requires.rested c.requires.none plan step)

pub returns-clause-prepares : goal.returns-clause-prepares
returns-clause-prepares c =
    let a = c.args.self.now in
    let x = c.args.input in
    let stepped = c.step.new.self in
    let p = c.step.new.plan in
    let batch = c.add_bases.new.batch in
    let plan : Plan = record p { batch = batch } in
    let based : batch ≡ based_batch a.durable.part p.batch = c.in_ok-add_bases.ensures ∙ ap (λ (n : Chain). based_batch n.durable.part p.batch) c.step.ensures.rest in
    let step = with_bases a.durable.part p batch (volatile_of a.volatile) _ based c.in_ok-step.ensures.step in
    let ready = c.serve.new.plan in
    let last = c.serve.new.self in
    let first : IsLike a stepped = like_stepped a stepped c.step.ensures.rest c.step.ensures.same c.step.ensures.waiting in
    let served : Chain = record stepped { service = last.service } in
    let roomed : Chain = record served { waiting = last.waiting } in
    let next : IsLike a served = like_served a stepped last.service first c.serve.ensures.service in
    let like : IsLike a last = like_is a roomed last (like_waiting a served last.waiting next c.serve.ensures.waiting) c.serve.ensures.rest in
    let turn : HasRoomIn plan.turn last.volatile = subst (λ (n : Chain). HasRoomIn plan.turn n.volatile) (sym c.serve.ensures.rest) c.in_ok-step.ensures.room in
    on_ok_weaker c.serve.result
    (λ (all : (ws : List (ℕ × ℕ)) → stepped.waiting.next ≡ with_waiters stepped.waiting.waiting ws → Serves stepped plan ws last ready).
    let told = all (waiters_of x) (c.in_ok-step.ensures.waiters ∙ ap (λ (ws : Waiting). with_waiters ws (waiters_of x)) (sym first.waiting)) in
    let serves : IsServed a.service.service (newly_decided a.durable.part plan.batch) ready.served =
    subst (λ (z : Service). IsServed z (newly_decided a.durable.part plan.batch) ready.served) first.service
    (subst (λ (d : Durable). IsServed stepped.service.service (newly_decided d.part plan.batch) ready.served) first.durable told.served) in
    let closes = closes_like a stepped ready.served.change plan ready.plan ready.renewal first told.closes in
    let waits : last.waiting.next ≡ waiting_by ready.plan.outcome a.waiting.waiting (waiters_of x) =
    told.waits ∙ ap (λ (ws : Waiting). waiting_by ready.plan.outcome ws (waiters_of x)) first.waiting in
    step_prepared a x c.requires.admits c.requires.rested c.requires.none plan step last ready.plan ready.served ready.renewal ready.room like serves closes waits turn told.settled told.room)
    c.serve.ensures.served
