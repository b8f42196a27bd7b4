use Rattle.std.proofs.Common.{◌≡◌, List, sym, ap, subst, ◌∙◌}
use Rattle.op_types.specs.Changes.{Applies}
use Rattle.op_types.specs.Rooms.{no_needs, with_room, needed, IsPlain}
use Rattle.op_types.specs.declared.changes.Change.{Change}
use Rattle.op_types.specs.declared.durable.Durable.{Durable}
use Rattle.op_chain.specs.Chains.{IsSame}
use Rattle.op_chain.specs.declared.chain.Chain.{Chain}
use Rattle.op_chain.proofs.Ready.{same_roomed, same_self, same_both, admits_same, roomed_rests, plans_ready}
use Rattle.op_chain.proofs.chain.Chain.plan.Goals as goal

-- the chain with this room
roomed_is : (a : Chain) (d e : Durable) → d ≡ e → (let b : Chain = record a { durable = d } in let c : Chain = record a { durable = e } in b ≡ c)
roomed_is a d e is = ap (λ (x : Durable). let b : Chain = record a { durable = x } in b) is

pub prepare-requires-clause-admits : goal.prepare-requires-clause-admits
prepare-requires-clause-admits c =
    let a = c.args.self.now in
    let b : Chain = record a { durable = c.leave_room.new.self } in
    admits_same a b c.args.input (same_roomed a a b no_needs (same_self a c.requires.sound) (roomed_is a _ _ c.leave_room.ensures)) c.requires

pub prepare-requires-clause-rested : goal.prepare-requires-clause-rested
prepare-requires-clause-rested c =
    let a = c.args.self.now in
    let b : Chain = record a { durable = c.leave_room.new.self } in
    roomed_rests a b (roomed_is a _ _ c.leave_room.ensures)

pub room_for-requires : goal.room_for-requires
room_for-requires c =
    let a = c.args.self.now in
    let b : Chain = record a { durable = c.leave_room.new.self } in
    let d = c.prepare.new.self in
    let batch = c.in_ok-plan.plan.plan.batch in
    let bare : with_room no_needs d.durable ≡ d.durable = subst (λ (e : Durable). with_room no_needs e ≡ e) (sym c.prepare.ensures.rested) (roomed_rests a b (roomed_is a _ _ c.leave_room.ensures)) in
    let here : Applies d.durable batch = subst (λ (e : Durable). Applies e batch) bare c.in_ok-plan.ensures.prepares.applies in
    subst (λ (cs : List Change). Applies d.durable cs) (sym c.batch.ensures) here

pub returns-in_err-room_for-clause-same : goal.returns-in_err-room_for-clause-same
returns-in_err-room_for-clause-same c =
    let a = c.args.self.now in
    let b : Chain = record a { durable = c.leave_room.new.self } in
    let d = c.prepare.new.self in
    let same : IsSame a d = same_both a b d (same_roomed a a b no_needs (same_self a c.requires.sound) (roomed_is a _ _ c.leave_room.ensures)) c.prepare.ensures.same in
    same_roomed a d _ no_needs same (roomed_is d _ _ c.in_err-room_for.ensures.err)

pub returns-clause-same : goal.returns-clause-same
returns-clause-same c =
    let a = c.args.self.now in
    let b : Chain = record a { durable = c.leave_room.new.self } in
    let d = c.prepare.new.self in
    let same : IsSame a d = same_both a b d (same_roomed a a b no_needs (same_self a c.requires.sound) (roomed_is a _ _ c.leave_room.ensures)) c.prepare.ensures.same in
    same_roomed a d _ (needed c.batch.result.now) same (roomed_is d _ _ c.in_ok-room_for.ensures.ok)

pub returns-clause-plans : goal.returns-clause-plans
returns-clause-plans c =
    let a = c.args.self.now in
    let x = c.args.input in
    let b : Chain = record a { durable = c.leave_room.new.self } in
    let d = c.prepare.new.self in
    let plan = c.in_ok-plan.plan in
    let first : IsSame a b = same_roomed a a b no_needs (same_self a c.requires.sound) (roomed_is a _ _ c.leave_room.ensures) in
    let bare : with_room no_needs d.durable ≡ d.durable = subst (λ (e : Durable). with_room no_needs e ≡ e) (sym c.prepare.ensures.rested) (roomed_rests a b (roomed_is a _ _ c.leave_room.ensures)) in
    let plain : IsPlain plan.plan.batch = subst (λ (cs : List Change). IsPlain cs) c.batch.ensures c.in_ok-room_for.ensures.plain in
    let roomed_to : c.room_for.new.self ≡ with_room (needed plan.plan.batch) d.durable = c.in_ok-room_for.ensures.ok ∙ ap (λ (cs : List Change). with_room (needed cs) d.durable) c.batch.ensures in
    plans_ready b d _ x plan (admits_same a b x first c.requires) c.in_ok-plan.ensures.same c.in_ok-plan.ensures.prepares bare plain (roomed_is d _ _ roomed_to)
