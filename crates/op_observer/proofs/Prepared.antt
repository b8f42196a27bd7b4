-- What an observer makes ready of an input, before its log has room.
use Rattle.std.proofs.Common.{◌≡◌, ℕ, Option, Some, None, refl, sym, ap, ◌∙◌, subst}
use Rattle.op_types.specs.Effects.{nothing_plan}
use Rattle.op_types.specs.Rooms.{part_option_with_room}
use Rattle.op_types.specs.declared.durable.Part.{Part}
use Rattle.op_types.specs.declared.events.Input.{Input}
use Rattle.op_types.specs.declared.events.Input.TheVariants as input
use Rattle.op_types.specs.declared.messages.Msg.{Msg}
use Rattle.op_types.specs.declared.plan.Plan.{Plan}
use Rattle.op_plans.specs.declared.member.Member.{Member}
use Rattle.op_protocol.specs.Watching.{on_watched, watch_at, watch_if, watch_plan}
use Rattle.op_watch.specs.Basing.{HasRoomToStage}
use Rattle.op_observer.specs.Observers.{volatile_of, state_of}
use Rattle.op_observer.specs.Plans.{made_by, planned_by, Prepares, Hears, answer_plan}
use Rattle.op_observer.specs.declared.observer.Observer.{Observer}
use Rattle.op_observer.specs.declared.observer_plan.ObserverPlan.{ObserverPlan}
use Rattle.op_observer.proofs.Heard.{alone}
use Rattle.op_observer.proofs.Shown.{roomless}

-- without a part nothing happens
pub prepared_none : (o : Observer) (x : Input) (p : ObserverPlan) → o.durable.part ≡ None
    → p ≡ alone nothing_plan
    → Prepares o x p
prepared_none o x p none is =
    subst (Prepares o x) (sym is)
    (record {
      table = sym (ap (λ (q : Option Part). watch_if o.me (state_of o) (part_option_with_room 0 q) x) none);
      stage = tt;
    })

module _ (o : Observer) (m : Member) (me : m.me ≡ o.me) (there : o.durable.part ≡ Some m.part.now) where
  -- the step table's plan, at its part
  at_part : (x : Input) → watch_plan o.me (state_of o) x ≡ watch_at o.me (state_of o) m.part.now x
  at_part x =
      ap (λ (q : Option Part). watch_if o.me (state_of o) (part_option_with_room 0 q) x) there
      ∙ roomless 0 o.me (state_of o) m.part.now x

  -- a message comes
  pub prepared_heard : (q : ℕ) (msg : Msg) (p : ObserverPlan) → Hears m o.stage o.service.service msg p
      → Prepares o (input.Deliver q msg) p
  prepared_heard q msg p k =
      record {
        table =
            ap (λ (n : ℕ). made_by n o.stage o.service.service p) (sym me)
            ∙ k.table (state_of o) (ap (λ (n : ℕ). volatile_of n o.stage) (sym me), refl, refl, refl)
            ∙ ap (λ (n : ℕ). on_watched n (state_of o) m.part.now msg.conf msg.body) me
            ∙ sym (at_part (input.Deliver q msg));
        stage = k.stage;
      }

  -- what an input that brings no message does, and that it stages nothing
  answered : (x : Input) → ((q : ℕ) (msg : Msg) → x ≡ input.Deliver q msg → ⊥)
      → (planned_by o (alone (answer_plan m.part.now x)) ≡ watch_at o.me (state_of o) m.part.now x)
      × HasRoomToStage (answer_plan m.part.now x).turn o.stage
  answered input.Tick none = (refl, tt)
  answered (input.Deliver q msg) none = absurd (none q msg refl)
  answered (input.Commands cs) none = (refl, tt)
  answered (input.Stop members) none = (refl, tt)
  answered input.TrimNow none = (refl, tt)
  answered (input.Read r) none = (refl, tt)
  answered (input.Up q) none = (refl, tt)
  answered (input.Down q) none = (refl, tt)

  -- an input comes that brings none
  pub prepared_answer : (x : Input) → ((q : ℕ) (msg : Msg) → x ≡ input.Deliver q msg → ⊥) → (plan : Plan)
      → plan ≡ answer_plan m.part.now x → (p : ObserverPlan) → p ≡ alone plan → Prepares o x p
  prepared_answer x none plan plans p is =
      let a = answered x none in
      subst (Prepares o x) (sym (is ∙ ap alone plans)) (record { table = a.0 ∙ sym (at_part x); stage = a.1 })
