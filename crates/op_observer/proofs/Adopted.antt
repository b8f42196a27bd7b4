-- An observer's plan is ready once its log has room, and what adopting it leaves.
use Rattle.std.proofs.Common.{◌≡◌, ℕ, List, [], Option, None, refl, sym, ap, ◌∙◌, subst}
use Rattle.std.specs.Prelude.{IfSome}
use Rattle.op_types.specs.Changes.{Applies, durable_after}
use Rattle.op_types.specs.Rooms.{needed, no_needs, with_room, IsAtRest, IsPlain, HasRoomFor}
use Rattle.op_types.specs.declared.changes.Change.{Change}
use Rattle.op_types.specs.declared.durable.Durable.{Durable}
use Rattle.op_types.specs.declared.events.Input.{Input}
use Rattle.op_types.specs.declared.given.Given.{Given}
use Rattle.op_types.specs.declared.needs.Needs.{Needs}
use Rattle.op_types.specs.declared.plan.Plan.{Plan}
use Rattle.op_types.specs.declared.plan.PlanParts.{PlanParts}
use Rattle.op_types.specs.declared.turn.Turn.{Turn}
use Rattle.op_types.proofs.Adoption.{bare_twice, rest_is_bare, bare_rests, left_rested, room_serves}
use Rattle.op_record.specs.Ranges.{BatchInRange}
use Rattle.op_spec.specs.Service.{Service}
use Rattle.op_change.specs.Over.{Written, service_over}
use Rattle.op_kv.specs.Maps.{MapState}
use Rattle.op_plans.specs.Positions.{FitsPositions}
use Rattle.op_protocol.specs.State.{State, Volatile, Planned, state_after}
use Rattle.op_protocol.specs.Watching.{watch_plan}
use Rattle.op_watch.specs.Basing.{staged_after}
use Rattle.op_watch.specs.declared.stage.BaseStage.{BaseStage}
use Rattle.op_observer.specs.Observers.{volatile_of, state_of, IsSoundObserver, IsSame, Admits}
use Rattle.op_observer.specs.Plans.{service_anew, planned_by, Plans, Prepares, IsGiven, Adopts}
use Rattle.op_observer.specs.declared.observer.Observer.{Observer}
use Rattle.op_observer.specs.declared.observer_plan.ObserverPlan.{ObserverPlan}
use Rattle.op_observer.proofs.Applying.{LeavesFit, step_fits}
use Rattle.op_observer.proofs.Stated.{fits_room, same_roomed, same_settled}

-- what the step stores applies, and leaves positions that fit
table_fits : (o : Observer) (x : Input) → IsSoundObserver o
    → BatchInRange (watch_plan o.me (state_of o) x).batch
    → LeavesFit (state_of o).durable (watch_plan o.me (state_of o) x).batch
table_fits o x sound range =
    let s : State = state_of o in
    step_fits o.me s s.durable.part s.durable.closed s.durable.joining x
    (fits_room 0 o.durable.part sound.part) range

module _ (o : Observer) (x : Input) (p : ObserverPlan) (sound : IsSoundObserver o)
    (made : planned_by o p ≡ watch_plan o.me (state_of o) x) where
  batch_is : p.plan.batch ≡ (watch_plan o.me (state_of o) x).batch
  batch_is = ap (λ (q : Planned). q.batch) made

  fits : BatchInRange p.plan.batch → LeavesFit (state_of o).durable p.plan.batch
  fits range =
      subst (LeavesFit (state_of o).durable) (sym batch_is)
      (table_fits o x sound (subst BatchInRange batch_is range))

-- a plan that is made ready applies to what is stored
pub ready_applies : (o : Observer) (x : Input) (p : ObserverPlan) → IsSoundObserver o → IsAtRest o.durable
    → BatchInRange (watch_plan o.me (state_of o) x).batch → Prepares o x p → Applies o.durable p.plan.batch
ready_applies o x p sound rest range prepared =
    let stored : BatchInRange p.plan.batch =
    subst BatchInRange (sym (batch_is o x p sound prepared.table)) range in
    subst (λ (d : Durable). Applies d p.plan.batch) (rest_is_bare o.durable rest)
    (fits o x p sound prepared.table stored).applies

-- the observer whose log has room for it can adopt the plan
ready_to : (o : Observer) (x : Input) (p : ObserverPlan) (e : Durable) → IsSoundObserver o
    → IsAtRest o.durable → o.service.waiting ≡ 0 → BatchInRange (watch_plan o.me (state_of o) x).batch
    → Prepares o x p
    → IsPlain p.plan.batch → e ≡ with_room (needed p.plan.batch) o.durable
    → (let b : Observer = record o { durable = e } in Plans b x p)
ready_to o x p e sound rest settled range prepared plain is =
    let batch : List Change = p.plan.batch in
    let b : Observer = record o { durable = e } in
    let same : IsSame o b = same_roomed (needed batch) o b sound refl refl refl is in
    let stored : BatchInRange batch = subst BatchInRange (sym (batch_is o x p sound prepared.table)) range in
    let here : Applies o.durable batch = ready_applies o x p sound rest range prepared in
    let serves = room_serves o.durable batch here plain rest in
    record {
      sound = same.sound;
      table = prepared.table ∙ ap (λ (s : State). watch_plan o.me s x) (sym same.state);
      range = stored;
      applies = subst (λ (d : Durable). Applies d batch) (sym is) serves.applies;
      log = subst (HasRoomFor batch) (sym is) serves.room;
      stage = prepared.stage;
      settled = settled;
    }

-- ---- a plan is made

-- an observer can plan this step: it gives up its room, and moves what it adopted last to its place
module _ (a : Observer) (x : Input) (d : Durable) (m : MapState) (admits : Admits a x)
    (is : d ≡ with_room no_needs a.durable) (stays : m.service ≡ a.service.service) where
  abbrev settled : Observer
  settled = record a { durable = d; service = m }

  pub settled_is : IsSame a settled
  settled_is = same_settled a d m admits.sound is stays

  rested : IsAtRest d
  rested = subst IsAtRest (sym is) (bare_rests a.durable)

  stored : BatchInRange (watch_plan a.me (state_of settled) x).batch
  stored = subst (λ (s : State). BatchInRange (watch_plan a.me s x).batch) (sym settled_is.state) admits.range

  -- with this room
  with_this : (n : Needs) (e : Durable) → e ≡ with_room n d
      → (let b : Observer = record settled { durable = e } in IsSame a b)
  with_this n e roomed =
      let b : Observer = record settled { durable = e } in
      let same : IsSame settled b = same_roomed n settled b settled_is.sound refl refl refl roomed in
      record { me = same.me; state = same.state ∙ settled_is.state; sound = same.sound }

  pub room_left : (e : Durable) → e ≡ with_room no_needs d
      → (let b : Observer = record settled { durable = e } in IsSame a b)
  room_left e roomed = with_this no_needs e roomed

  -- its plan is made ready
  module _ (p : ObserverPlan) where
    pub batch_applies : Prepares settled x p → Applies d p.plan.batch
    batch_applies prepared = ready_applies settled x p settled_is.sound rested stored prepared

    -- and room for its batch
    module _ (batch : List Change) (batch_is : batch ≡ p.plan.batch) (e : Durable)
        (roomed : e ≡ with_room (needed batch) d) where
      pub room_kept : (let b : Observer = record settled { durable = e } in IsSame a b)
      room_kept = with_this (needed batch) e roomed

      pub planned : m.waiting ≡ 0 → Prepares settled x p → IsPlain batch
          → (let b : Observer = record settled { durable = e } in Plans b x p)
      planned ready prepared plain =
          ready_to settled x p e settled_is.sound rested ready stored prepared (subst IsPlain batch_is plain)
          (roomed ∙ ap (λ (cs : List Change). with_room (needed cs) d) batch_is)

-- what it then is
adopted : (o : Observer) (x : Input) (p : ObserverPlan) → Plans o x p → (new : Observer) (g : Given)
    → new.me ≡ o.me → new.durable ≡ with_room no_needs (durable_after o.durable p.plan.batch)
    → new.service.service ≡ service_anew p.service (service_over o.service.service p.change)
    → new.stage ≡ staged_after p.plan.turn o.stage → IsGiven g (planned_by o p)
    → Adopts o (watch_plan o.me (state_of o) x) new g
adopted o x p plans new g me stored service stage given =
    let batch : List Change = p.plan.batch in
    let rested : Durable = durable_after (with_room no_needs o.durable) batch in
    let left : new.durable ≡ rested = stored ∙ left_rested o.durable batch in
    let bare : with_room no_needs new.durable ≡ rested = ap (with_room no_needs) stored
    ∙ bare_twice no_needs (durable_after o.durable batch) ∙ left_rested o.durable batch in
    let stands : state_of new ≡ state_after (state_of o) (planned_by o p) =
    ap (λ (d : Durable). let s : State = record (state_of new) { durable = d } in s) bare
    ∙ ap (λ (v : Volatile). let s : State =
    record {
      durable = rested;
      volatile = v;
      service = new.service.service;
      waiting = [];
      reads =
          None;
    } in s) (ap (λ (k : ℕ). volatile_of k new.stage) me
    ∙ ap (λ (t : BaseStage). volatile_of o.me t) stage)
    ∙ ap (λ (t : Service). let s : State =
    record {
      durable = rested;
      volatile = volatile_of o.me (staged_after p.plan.turn o.stage);
      service =
          t;
      waiting = [];
      reads = None;
    } in s) service in
    subst (λ (q : Planned). Adopts o q new g) plans.table
    (record {
      me = me;
      state = stands;
      sound = record {
        part =
            subst (λ (d : Durable). IfSome d.part FitsPositions) (sym left)
            (fits o x p plans.sound plans.table plans.range).left;
      };
      given = given;
    })

-- the same, of the parts of a plan
pub adopted_parts : (o : Observer) (x : Input) (p : ObserverPlan) → Plans o x p
    → (plan : Plan) (change : Written) (service : Option MapState) (parts : PlanParts) (new : Observer)
    (g : Given)
    → plan ≡ p.plan → change ≡ p.change → service ≡ p.service
    → parts.batch ≡ plan.batch → parts.turn ≡ plan.turn → parts.sends ≡ plan.sends
    → parts.outcome ≡ plan.outcome
    → new.me ≡ o.me → new.durable ≡ with_room no_needs (durable_after o.durable parts.batch)
    → new.service.service ≡ service_anew service (service_over o.service.service change)
    → new.stage ≡ staged_after parts.turn o.stage
    → g ≡ record { sends = parts.sends; replies = []; read_replies = []; outcome = parts.outcome }
    → Adopts o (watch_plan o.me (state_of o) x) new g
adopted_parts o x p plans plan change service parts new g plan_is change_is service_is batch turn sends
    outcome me stored served stage given =
    let sends_are : parts.sends ≡ p.plan.sends = sends ∙ ap (λ (q : Plan). q.sends) plan_is in
    let outcome_is : parts.outcome ≡ p.plan.outcome = outcome ∙ ap (λ (q : Plan). q.outcome) plan_is in
    adopted o x p plans new g me
    (stored ∙ ap (λ (cs : List Change). with_room no_needs (durable_after o.durable cs)) (batch
    ∙ ap (λ (q : Plan). q.batch) plan_is))
    (served ∙ ap (λ (z : Option MapState). service_anew z (service_over o.service.service change)) service_is
    ∙ ap (λ (w : Written). service_anew p.service (service_over o.service.service w)) change_is)
    (stage ∙ ap (λ (u : Turn). staged_after u o.stage) (turn ∙ ap (λ (q : Plan). q.turn) plan_is))
    (record {
      sends = ap (λ (h : Given). h.sends) given ∙ sends_are;
      replies = ap (λ (h : Given). h.replies) given;
      read_replies = ap (λ (h : Given). h.read_replies) given;
      outcome = ap (λ (h : Given). h.outcome) given ∙ outcome_is;
    })
