-- A node as contracts see it, and what a step of it does.
use Rattle.std.specs.Prelude.{◌≡◌, ℕ, List, [], Option, Some, None, Result, Ok, Err}
use Rattle.op_types.specs.declared.answers.Outcome.{Outcome}
use Rattle.op_types.specs.declared.changes.Change.{Change}
use Rattle.op_types.specs.declared.events.Input.{Input}
use Rattle.op_record.specs.Ranges.{BatchInRange, DurableInRange}
use Rattle.op_protocol.specs.State.{State, Planned, state_after}
use Rattle.op_runs.specs.World.{Kind, plan_as, failed_outcome}
use Rattle.op_outside.specs.Disks.{DiskState}
use Rattle.op_store.specs.Stores.{Represents, IsReady, detached_of}
use Rattle.op_server.specs.Seats.{kind_of, me_of, state_of, IsSoundSeat}
use Rattle.op_types.specs.declared.given.Given.{Given}
use Rattle.op_node.specs.declared.node.Node.{Node}
use Rattle.op_node.specs.declared.rest.Rest.{Rest}
use Rattle.op_node.specs.declared.fail.StepFail.{StepFail}
use Rattle.op_node.specs.declared.fail.StepFail.TheVariants as fails

-- whether it votes, whose node it is, its state in the step table, and the count of faults with which it
-- failed, if it did
pub record NodeState : Type 0 where
  pub kind : Kind
  pub me : ℕ
  pub state : State
  pub failed : Option ℕ

-- a node as contracts see it
abbrev pub node_of : {D : Type 0} → Node D → NodeState
node_of n = record { kind = kind_of n.seat; me = me_of n.seat; state = state_of n.seat; failed = n.failed }

-- a node without its disks
abbrev pub rest_of : {D : Type 0} → Node D → Rest
rest_of n = record { alloc = n.alloc; seat = n.seat; store = detached_of n.store; failed = n.failed }

-- each image of its disks stands for what the node has stored
abbrev pub IsRepresented : {D : Type 0} → (D → DiskState) → Node D → Type 0
IsRepresented state n = Represents state (node_of n).state.durable n.store

-- what it plans for an input, by the step table
abbrev pub plan_of : NodeState → Input → Planned
plan_of n x = plan_as n.kind n.me n.state x

-- what a plan gives out
abbrev pub given_of : Planned → Given
given_of p =
    record { sends = p.sends; replies = p.replies; read_replies = p.read_replies; outcome = p.outcome }

-- an outcome alone is given out
abbrev pub saying : Option Outcome → Given
saying o = record { sends = []; replies = []; read_replies = []; outcome = o }

-- a node that has failed refuses what is proposed, to trim and to read, with the count that it keeps,
-- and does nothing else
abbrev pub refused_with : ℕ → Input → Given
refused_with count x = saying (failed_outcome count x)

-- what a step gives out
abbrev pub gives : NodeState → Input → Given
gives n x = elim n.failed [ None ↦ given_of (plan_of n x) | Some count ↦ refused_with count x ]

-- what it stores
abbrev pub stores : NodeState → Input → List Change
stores n x = elim n.failed [ None ↦ (plan_of n x).batch | Some count ↦ [] ]

-- the node after it
abbrev pub after_input : NodeState → Input → NodeState
after_input n x =
    elim n.failed
    [ None ↦ record n { state = state_after n.state (plan_of n x) } | Some count ↦ n ]

-- What a step did: it gave out what the table gives; or a disk failed,
-- nothing was given out, and the node has failed with the count of faults,
-- in its state of before; or it found no memory, and the node is as before.
abbrev pub Stepped : NodeState → Input → Result Given StepFail → NodeState → Type 0
Stepped n x (Ok given) m = (given ≡ gives n x) × (m ≡ after_input n x)
Stepped n x (Err (fails.DiskFail count)) m = m ≡ record n { failed = Some count }
Stepped n x (Err fails.NoMemory) m = m ≡ n

-- what a node keeps in memory is of what it has stored, and that is in range; unless it has failed, a
-- record can be added
pub record IsSoundNode {D : Type 0} (n : Node D) : Type 0 where
  pub seat : IsSoundSeat n.seat
  pub range : DurableInRange (state_of n.seat).durable
  pub store : n.failed ≡ None → IsReady n.store

-- the node can do this step: what the step stores is in range
pub record AdmitsInput {D : Type 0} (n : Node D) (x : Input) : Type 0 where
  pub sound : IsSoundNode n
  pub range : BatchInRange (stores (node_of n) x)
