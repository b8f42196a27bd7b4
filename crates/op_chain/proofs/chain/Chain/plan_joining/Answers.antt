use Rattle.std.proofs.Common.{◌≡◌, List, Option, refl, sym, ap, subst, ◌∙◌}
use Rattle.op_types.specs.Effects.{nothing_plan}
use Rattle.op_types.specs.Roles.{role_of}
use Rattle.op_types.specs.declared.changes.Change.{Change}
use Rattle.op_types.specs.declared.plan.Plan.{Plan}
use Rattle.op_types.specs.declared.turn.Turn.{Turn}
use Rattle.op_protocol.specs.State.{Planned}
use Rattle.op_protocol.specs.Joining.{holds_more}
use Rattle.op_change.specs.Over.{nothing_written}
use Rattle.op_chain.specs.Bringing.{turn_holding}
use Rattle.op_chain.specs.Chains.{state_of}
use Rattle.op_chain.specs.Plans.{nothing_ready, HasRoomToTell, Prepares, IfGoesOn}
use Rattle.op_chain.specs.declared.chain.Chain.{Chain}
use Rattle.op_chain.specs.declared.chain_plan.ChainPlan.{ChainPlan}
use Rattle.op_chain.specs.declared.renewal.Renewal.{Renewal}
use Rattle.op_deciding.specs.declared.served.Served.{Served}
use Rattle.op_chain.proofs.Prepared.{IsLike, join_prepared, like_self, like_served, like_waiting}
use Rattle.op_chain.proofs.Steps.{chain_plan, unserved, storing_plan}
use Rattle.op_chain.proofs.chain.Chain.plan_joining.Goals as goal

-- nothing happens but this turn
abbrev turning : Turn → Plan
turning t = record nothing_plan { turn = t }

pub returns-clause-prepares : goal.returns-clause-prepares
returns-clause-prepares c =
    let a = c.args.self.now in
    let batch = c.args.batch in
    let m = c.args.service in
    let first : c.deref_mut-plan.result.now ≡ nothing_ready = c.deref_mut-plan.ensures.value ∙ c.in_ok-boxed.ensures in
    let new = c.go_on.new.plan in
    let r = c.in_ok-renewal.renewal in
    let ready = c.make_room.new.self in
    let served : Chain = record a { service = c.settle.new.self } in
    let last : Chain = record served { waiting = c.give_up_room.new.self } in
    let like : IsLike a last = like_waiting a served c.give_up_room.new.self (like_served a a c.settle.new.self (like_self a) c.settle.ensures.stays) c.give_up_room.ensures.waiting in
    let turn : c.turn_holding.result ≡ turn_holding a.durable.joining batch = c.turn_holding.ensures ∙ ap (λ (b : List Change). turn_holding a.durable.joining b) c.as_slice.ensures in
    let set : c.set_turn.new.self ≡ turning c.turn_holding.result = c.set_turn.ensures ∙ ap (λ (p : ChainPlan). let old : Plan = record p.plan { turn = c.turn_holding.result } in old) first in
    let before = subst (λ (p : Plan). let old : Plan = record p { batch = batch } in IfGoesOn a.me a.durable.joining m (role_of a.volatile.role) old new r) set c.in_ok-renewal.ensures in
    let goes = subst (λ (t : Turn). IfGoesOn a.me a.durable.joining m (role_of a.volatile.role) (storing_plan batch t) new r) turn before in
    let t : Planned = holds_more a.me (state_of a) batch in
    let is : ready ≡ chain_plan new (unserved nothing_written) r ready.room =
    c.make_room.ensures.rest ∙ ap (λ (s : Served). chain_plan new s c.put.new.place ready.room) (ap (λ (p : ChainPlan). p.served) first)
    ∙ ap (λ (x : Option Renewal). chain_plan new (unserved nothing_written) x ready.room) c.put.ensures in
    let here : Prepares last t ready = subst (λ (p : ChainPlan). Prepares last t p) (sym is)
    (join_prepared a c.requires.sound c.requires.rested c.requires.brought.0 c.requires.brought.1 c.requires.brought.2 batch c.requires.brought.3 c.requires.served.0 c.requires.served.1 m c.requires.served.2 c.requires.range
    last new nothing_written r ready.room like refl goes c.give_up_room.ensures.next c.in_ok-settle.ensures.ready (subst HasRoomToTell is c.in_ok-make_room.ensures.room)) in
    subst (λ (p : ChainPlan). Prepares last t p) (sym c.new.ensures) here
