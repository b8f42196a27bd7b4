-- Reads are fresh: each read that is answered is answered from all that was decided before it came, at any
-- server, and nobody had gone on to a later configuration by then.
use Rattle.std.specs.Prelude.{◌≡◌, ◌≤◌, ◌<◌, ◌==◌, ℕ, suc, false, List, [], ◌∷◌, ◌++◌, length, map, Option, Some, None, if◌then◌else◌}
use Rattle.op_types.specs.Limits.{positions_end}
use Rattle.op_types.specs.declared.ballot.Ballot.{Ballot}
use Rattle.op_types.specs.declared.read.Read.{Read}
use Rattle.op_types.specs.declared.durable.Part.{Part}
use Rattle.op_types.specs.declared.events.Input.{Input}
use Rattle.op_types.specs.declared.events.Input.TheVariants as input
use Rattle.op_types.specs.declared.answers.Answer.{Answer}
use Rattle.op_types.specs.RoleStates as state
use Rattle.op_reads.specs.declared.asked_read.AskedRead.{AskedRead}
use Rattle.op_reads.specs.Reads.{Reads}
use Rattle.op_spec.specs.Machine.{Machine, IsAmong}
use Rattle.op_spec.specs.Service.{service_of, value_at, told_value}
use Rattle.op_spec.specs.Stands.{prefix_of}
use Rattle.op_protocol.specs.State.{State}
use Rattle.op_protocol.specs.Rows.{table_plan, step_plan}
use Rattle.op_protocol.specs.Reading.{leading_at, reads_at, read_reply, answered_by}
use Rattle.op_runs.specs.World.{World, Node, NodeStatus, Up, Fate, Done, Happening, Doing, Steps, Deed, node_at, deed_of}
use Rattle.op_runs.specs.Run.{Execution, first_execution, execution_of}

-- ---- reads by their numbers

-- a read at the leader of a ballot in a configuration; its number is its own there
pub record ReadAt : Type 0 where
  pub pid : ℕ
  pub conf : ℕ
  pub ballot : Ballot
  pub asked : AskedRead

-- these reads, at a leader
abbrev pub reads_of_leader : ℕ → Option (Part × state.Leading) → List AskedRead → List ReadAt
reads_of_leader me None reads = []
reads_of_leader me (Some (p, l)) reads =
    map (λ a. record { pid = me; conf = p.conf; ballot = l.ballot; asked = a }) reads

-- the number that a read gets, unless numbers end
abbrev pub numbered : Reads → Read → List AskedRead
numbered reads r =
    if suc reads.count == positions_end then [] else record { number = suc reads.count; read = r } ∷ []

-- the read that a leader takes
abbrev pub taken_at : ℕ → Option (Part × state.Leading) → Option Reads → Read → List ReadAt
taken_at me None reads r = []
taken_at me (Some (p, l)) reads r = reads_of_leader me (Some (p, l)) (numbered (reads_at me p reads) r)

-- the read that comes with a step, if the node takes it
abbrev pub read_taken : ℕ → State → Input → List ReadAt
read_taken me s (input.Read r) = taken_at me (leading_at s) s.reads r
read_taken me s x = []

-- the reads that a step answers
abbrev pub reads_answered : ℕ → State → Input → List ReadAt
reads_answered me s x = reads_of_leader me (leading_at s) (answered_by me s x (table_plan me s x))

-- ---- steps of a run

-- a node, and what its step begins with
pub record Stepping : Type 0 where
  pub node : Node
  pub input : Input

-- the step of a node that is up, where it is done
abbrev pub stepping_if : NodeStatus → Fate → Doing → Node → Option Stepping
stepping_if Up Done (Steps x) n = Some (record { node = n; input = x })
stepping_if s f d n = None

-- the same, where the node is there
abbrev pub stepping_at : Option Node → Fate → Doing → Option Stepping
stepping_at None f d = None
stepping_at (Some n) f d = stepping_if n.status f d n

-- the same, of what is done at a node
abbrev pub stepping_by : World → Fate → Option Deed → Option Stepping
stepping_by w f None = None
stepping_by w f (Some x) = stepping_at (node_at w.nodes x.pid) f x.doing

-- the step that is done in a happening, if one is
abbrev pub stepping : World → Happening → Option Stepping
stepping w h = stepping_by w h.fate (deed_of w.messages h.event.what)

-- a read comes, and its node takes it
abbrev pub Comes : ReadAt → Option Stepping → Type 0
Comes r None = ⊥
Comes r (Some y) = IsAmong (read_taken y.node.pid y.node.state y.input) r

-- a read is answered so
abbrev pub IsAnswered : ReadAt → Answer → Option Stepping → Type 0
IsAnswered r a None = ⊥
IsAnswered r a (Some y) =
    IsAmong (reads_answered y.node.pid y.node.state y.input) r
    × ((read_reply (step_plan y.node.pid y.node.state y.input).service r.asked).answer ≡ a)

-- ---- the law

-- Between the list machine when a read came, and when it was answered: the answer is the value of its key
-- after all lists before its configuration's, and so many entries of that: all that were decided when the
-- read came, at least, and no more than were when it was answered. And no later configuration was open when
-- it came.
pub record IsFresh (came told : Machine) (r : ReadAt) (a : Answer) : Type 0 where
  pub len : ℕ
  pub has_all : length (came.lists r.conf) ≤ len
  pub is_decided : len ≤ length (told.lists r.conf)
  pub value : a ≡ told_value (value_at r.asked.read.key (service_of (prefix_of told.lists r.conf len)).pairs)
  pub latest : (pid conf : ℕ) → r.conf < conf → came.opened pid conf ≡ false

-- the read came in one of these happenings, and is fresh
pub record CameFresh (t : Execution) (hs : List Happening) (told : Machine) (r : ReadAt) (a : Answer)
    : Type 0 where
  pub before : List Happening
  pub came : Happening
  pub after : List Happening
  pub place : hs ≡ before ++ came ∷ after
  pub comes : Comes r (stepping (execution_of t before).world came)
  pub fresh : IsFresh (execution_of t before).machine told r a

-- each read that is answered in a happening of a run came in it or before it, and is fresh
abbrev pub ReadsAreFresh : List ℕ → List ℕ → List Happening → Type 0
ReadsAreFresh members spares hs =
    (before after : List Happening) (h : Happening) (r : ReadAt) (a : Answer)
    → hs ≡ before ++ h ∷ after
    → IsAnswered r a (stepping (execution_of (first_execution members spares) before).world h)
    → CameFresh (first_execution members spares) (before ++ h ∷ [])
    (execution_of (first_execution members spares) (before ++ h ∷ [])).machine r a
