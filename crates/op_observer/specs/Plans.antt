-- A plan that an observer has made ready, and what comes of adopting it.
use Rattle.std.specs.Prelude.{◌≡◌, ℕ, ◌+◌, List, [], ◌∷◌, ◌++◌, Option, Some, None}
use Rattle.op_types.specs.Changes.{Applies}
use Rattle.op_types.specs.Effects.{nothing_plan}
use Rattle.op_types.specs.Rooms.{HasRoomFor}
use Rattle.op_types.specs.declared.answers.Outcome.TheVariants as outcome
use Rattle.op_types.specs.declared.answers.Refusal.TheVariants as refusal
use Rattle.op_types.specs.declared.changes.Change.TheVariants as change
use Rattle.op_types.specs.declared.durable.Part.{Part}
use Rattle.op_types.specs.declared.events.Input.{Input}
use Rattle.op_types.specs.declared.events.Input.TheVariants as input
use Rattle.op_types.specs.declared.given.Given.{Given}
use Rattle.op_types.specs.declared.log.Entry.{Entry}
use Rattle.op_types.specs.declared.log.StopSign.{StopSign}
use Rattle.op_types.specs.declared.messages.Msg.{Msg}
use Rattle.op_types.specs.declared.plan.Plan.{Plan}
use Rattle.op_types.specs.declared.runs.Piece.{Piece}
use Rattle.op_types.specs.declared.turn.Turn.TheVariants as turn
use Rattle.op_record.specs.Ranges.{BatchInRange}
use Rattle.op_spec.specs.Service.{Service, base_bytes}
use Rattle.op_change.specs.Over.{nothing_written, service_over}
use Rattle.op_kv.specs.Maps.{MapState}
use Rattle.op_protocol.specs.Bases.{service_in}
use Rattle.op_protocol.specs.State.{State, Planned, state_after}
use Rattle.op_protocol.specs.Watching.{asks_all, asks_one, takes_new, on_shown, on_base, on_watched, watch_plan}
use Rattle.op_deciding.specs.declared.served.Served.{Served}
use Rattle.op_plans.specs.declared.member.Member.{Member}
use Rattle.op_watch.specs.Basing.{staged_after, HasRoomToStage, rebased_plan}
use Rattle.op_watch.specs.declared.stage.BaseStage.{BaseStage}
use Rattle.op_observer.specs.Observers.{volatile_of, state_of, IsSoundObserver}
use Rattle.op_observer.specs.declared.observer.Observer.{Observer}
use Rattle.op_observer.specs.declared.observer_plan.ObserverPlan.{ObserverPlan}

-- ---- what adopting a plan makes

-- the service that is read anew, or this one
abbrev pub service_anew : Option MapState → Service → Service
service_anew None s = s
service_anew (Some m) s = m.service

-- what the plan does when it is adopted, at an observer that keeps this in memory and has this service
abbrev pub made_by : ℕ → BaseStage → Service → ObserverPlan → Planned
made_by me t s p =
    record {
      batch = p.plan.batch;
      volatile = volatile_of me (staged_after p.plan.turn t);
      service = service_anew p.service (service_over s p.change);
      waiting = [];
      reads = None;
      sends = p.plan.sends;
      replies = [];
      read_replies = [];
      outcome = p.plan.outcome;
    }

-- what the plan does when this observer adopts it
abbrev pub planned_by : Observer → ObserverPlan → Planned
planned_by o p = made_by o.me o.stage o.service.service p

-- What the step table plans for an input, made ready in the observer: its batch is in range and applies, and
-- there is room for all
-- that adopting it takes.
pub record Plans (o : Observer) (x : Input) (p : ObserverPlan) : Type 0 where
  pub sound : IsSoundObserver o
  pub table : planned_by o p ≡ watch_plan o.me (state_of o) x
  pub range : BatchInRange p.plan.batch
  pub applies : Applies o.durable p.plan.batch
  pub log : HasRoomFor p.plan.batch o.durable
  pub stage : HasRoomToStage p.plan.turn o.stage
  pub settled : o.service.waiting ≡ 0

-- the same before the log has room
pub record Prepares (o : Observer) (x : Input) (p : ObserverPlan) : Type 0 where
  pub table : planned_by o p ≡ watch_plan o.me (state_of o) x
  pub stage : HasRoomToStage p.plan.turn o.stage

-- what a step gave out is what its plan gives out
pub record IsGiven (g : Given) (p : Planned) : Type 0 where
  pub sends : g.sends ≡ p.sends
  pub replies : g.replies ≡ p.replies
  pub read_replies : g.read_replies ≡ p.read_replies
  pub outcome : g.outcome ≡ p.outcome

-- the observer is in the state after this plan, and gave out what the plan gives out
pub record Adopts (old : Observer) (p : Planned) (new : Observer) (g : Given) : Type 0 where
  pub me : new.me ≡ old.me
  pub state : state_of new ≡ state_after (state_of old) p
  pub sound : IsSoundObserver new
  pub given : IsGiven g p

-- ---- how a plan is made

-- the plan of an input that brings no message
abbrev pub answer_plan : Part → Input → Plan
answer_plan p input.Tick = record nothing_plan { sends = asks_all p }
answer_plan p (input.Deliver q m) = nothing_plan
answer_plan p (input.Commands cs) = record nothing_plan { outcome = Some (outcome.Refused refusal.NoLeader) }
answer_plan p (input.Stop members) = record nothing_plan { outcome = Some (outcome.Refused refusal.NoLeader) }
answer_plan p input.TrimNow = record nothing_plan { outcome = Some outcome.NotLeading }
answer_plan p (input.Read r) = record nothing_plan { outcome = Some outcome.NotLeading }
answer_plan p (input.Up q) = record nothing_plan { sends = asks_one p q }
answer_plan p (input.Down q) = nothing_plan

-- a state that an observer may be in, but for what it stores
abbrev pub IsIn : Member → BaseStage → Service → State → Type 0
IsIn m t s x = (x.volatile ≡ volatile_of m.me t) × (x.service ≡ s) × (x.waiting ≡ []) × (x.reads ≡ None)

-- what a plan does of a message, at each state that keeps this
pub record Hears (m : Member) (t : BaseStage) (s : Service) (message : Msg) (p : ObserverPlan) : Type 0 where
  pub table : (x : State) → IsIn m t s x
      → made_by m.me t s p ≡ on_watched m.me x m.part.now message.conf message.body
  pub stage : HasRoomToStage p.plan.turn t

-- of decided entries
pub record Shows (m : Member) (s : Service) (c at : ℕ) (entries : List Entry) (p : ObserverPlan)
    : Type 0 where
  pub table : (t : BaseStage) (x : State) → IsIn m t s x
      → made_by m.me t s p ≡ on_shown m.me x m.part.now c at entries
  pub stage : (t : BaseStage) → HasRoomToStage p.plan.turn t

-- of those that it lacks of them
pub record Takes (m : Member) (s : Service) (new : List Entry) (p : ObserverPlan) : Type 0 where
  pub table : (t : BaseStage) (x : State) → IsIn m t s x
      → made_by m.me t s p ≡ takes_new m.me x m.part.now new
  pub stage : (t : BaseStage) → HasRoomToStage p.plan.turn t

-- of a piece of a base
pub record Bases (m : Member) (t : BaseStage) (c : ℕ) (members : List ℕ) (piece : Piece) (p : ObserverPlan)
    : Type 0 where
  pub table : (s : Service) (x : State) → IsIn m t s x
      → made_by m.me t s p ≡ on_base m.me x m.part.now c members piece
  pub stage : HasRoomToStage p.plan.turn t

-- the plan goes on behind the stop-sign that ends what it serves, if one does
abbrev pub gone_on : ℕ → Service → Option StopSign → Plan → Plan
gone_on conf s None plan = plan
gone_on conf s (Some stop) plan =
    record plan {
      batch = plan.batch ++ change.Rebase (conf + 1) stop.members 0 (base_bytes s) ∷ [];
      turn = turn.Renew;
    }

-- the same, of what is served over this service
abbrev pub GoesOn : ℕ → Service → Plan → Served → ObserverPlan → Type 0
GoesOn conf s plan served p =
    p ≡ record {
      plan = gone_on conf (service_over s served.change) served.stop plan;
      change = served.change;
      service = None;
    }

-- the plan goes on from this base, with the service that it is of
abbrev pub Rebases : ℕ → List ℕ → ℕ → List ℕ → ObserverPlan → Type 0
Rebases conf members at base p =
    (m : MapState) × (m.service ≡ service_in base)
    × (p ≡ record {
      plan = rebased_plan conf members at base;
      change = nothing_written;
      service = Some m;
    })
