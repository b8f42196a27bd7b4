-- A node by what it is in its configurations: one that votes, or an observer.
use Rattle.std.specs.Prelude.{◌≡◌, ℕ, List}
use Rattle.op_types.specs.Changes.{Applies}
use Rattle.op_types.specs.declared.changes.Change.{Change}
use Rattle.op_types.specs.declared.events.Input.{Input}
use Rattle.op_types.specs.declared.given.Given.{Given}
use Rattle.op_record.specs.Ranges.{BatchInRange}
use Rattle.op_protocol.specs.State.{State, Planned, state_after}
use Rattle.op_runs.specs.World.{Kind, Votes, Observes, plan_as}
use Rattle.op_observer.specs.Observers as observers
use Rattle.op_observer.specs.Plans as observers_plans
use Rattle.op_server.specs.Servers as servers
use Rattle.op_server.specs.Plans as servers_plans
use Rattle.op_server.specs.Plans.{IsGiven}
use Rattle.op_server.specs.declared.seat.Seat.{Seat}
use Rattle.op_server.specs.declared.seat.Seat.TheVariants as seat
use Rattle.op_server.specs.declared.seat_plan.SeatPlan.{SeatPlan}
use Rattle.op_server.specs.declared.seat_plan.SeatPlan.TheVariants as plan

-- whether it votes
abbrev pub kind_of : Seat → Kind
kind_of (seat.Votes s) = Votes
kind_of (seat.Observes o) = Observes

-- whose node it is
abbrev pub me_of : Seat → ℕ
me_of (seat.Votes s) = s.chain.me
me_of (seat.Observes o) = o.me

-- the state of the step table that it keeps
abbrev pub state_of : Seat → State
state_of (seat.Votes s) = servers.state_of s
state_of (seat.Observes o) = observers.state_of o

-- what it keeps in memory is of what it has stored
abbrev pub IsSoundSeat : Seat → Type 0
IsSoundSeat (seat.Votes s) = servers.IsSoundServer s
IsSoundSeat (seat.Observes o) = observers.IsSoundObserver o

-- what it plans for an input, by the step table
abbrev pub planned_at : Seat → Input → Planned
planned_at s x = plan_as (kind_of s) (me_of s) (state_of s) x

-- the same node in the same state
pub record IsSame (old new : Seat) : Type 0 where
  pub kind : kind_of new ≡ kind_of old
  pub me : me_of new ≡ me_of old
  pub state : state_of new ≡ state_of old
  pub sound : IsSoundSeat new

-- it can plan this step: what the step stores is in range
pub record Admits (s : Seat) (x : Input) : Type 0 where
  pub sound : IsSoundSeat s
  pub range : BatchInRange (planned_at s x).batch

-- what a plan is to store
abbrev pub batch_of : SeatPlan → List Change
batch_of (plan.Votes p) = p.chain.plan.batch
batch_of (plan.Observes p) = p.plan.batch

-- it is the plan of a node that votes
abbrev pub IsOfServer : SeatPlan → Type 0
IsOfServer (plan.Votes p) = Unit {0}
IsOfServer (plan.Observes p) = ⊥

-- it is an observer's
abbrev pub IsOfObserver : SeatPlan → Type 0
IsOfObserver (plan.Votes p) = ⊥
IsOfObserver (plan.Observes p) = Unit {0}

-- the plan is made ready at a node of its kind
abbrev pub IsReadyAt : Seat → Input → SeatPlan → Type 0
IsReadyAt (seat.Votes s) x (plan.Votes p) = servers_plans.Plans s x p
IsReadyAt (seat.Observes o) x (plan.Observes p) = observers_plans.Plans o x p
IsReadyAt s x p = ⊥

-- What the step table plans for an input, made ready: its batch is in range and applies.
pub record Plans (s : Seat) (x : Input) (p : SeatPlan) : Type 0 where
  pub ready : IsReadyAt s x p
  pub batch : batch_of p ≡ (planned_at s x).batch
  pub range : BatchInRange (batch_of p)
  pub applies : Applies (state_of s).durable (batch_of p)

-- the node is in the state after this plan, and gave out what the plan gives out
pub record Adopts (old : Seat) (p : Planned) (new : Seat) (g : Given) : Type 0 where
  pub kind : kind_of new ≡ kind_of old
  pub me : me_of new ≡ me_of old
  pub state : state_of new ≡ state_after (state_of old) p
  pub sound : IsSoundSeat new
  pub given : IsGiven g p
