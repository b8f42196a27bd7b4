-- A node of the plain program, as the definition has it.
use Rattle.std.specs.Prelude.{◌≡◌, ℕ, Bool, List, if◌then◌else◌}
use Rattle.op_types.specs.Changes.{Applies, durable_after}
use Rattle.op_types.specs.Rooms.{IsAtRest}
use Rattle.op_types.specs.declared.changes.Change.{Change}
use Rattle.op_types.specs.declared.durable.Durable.{Durable}
use Rattle.op_types.specs.declared.messages.Msg.{Msg}
use Rattle.op_runs.specs.declared.summary.Line.{Line}
use Rattle.op_protocol.specs.State.{State}
use Rattle.op_chain.specs.Chains.{CanOpen}
use Rattle.op_observer.specs.Observers.{CanWatch}
use Rattle.op_server.specs.Seats as seats
use Rattle.op_server.specs.Seats.{me_of, state_of, IsSoundSeat}
use Rattle.op_server.specs.declared.seat.Seat.{Seat}
use Rattle.op_runs.specs.World as runs
use Rattle.op_runs.specs.World.{Votes, Observes, Node, Up, Down, Failed, Doing, Fate, sends_as}
use Rattle.op_runs.specs.Possible.{kind_if}
use Rattle.op_executions.specs.Servers.{Kind, ShowsNode, IsNodeDone}
use Rattle.op_pure.specs.Happenings.{fate_of}
use Rattle.op_pure.specs.declared.happening.Foretold.{Foretold}
use Rattle.op_pure.specs.declared.node.PureNode.{PureNode}
use Rattle.op_pure.specs.declared.node.Status.{Status}
use Rattle.op_pure.specs.declared.node.Status.TheVariants as status

-- whether it votes
abbrev pub kind_of : PureNode → runs.Kind
kind_of n = kind_if n.observes

-- the same node, by what it has
abbrev pub node_of : PureNode → Status → PureNode
node_of n s = record n { status = s }

-- it is up
abbrev pub up_node : PureNode → Seat → PureNode
up_node n c = node_of n (status.Up c)

-- the node is up
abbrev pub IsUp : PureNode → Type 0
IsUp n = (c : Seat) × (n.status ≡ status.Up c)

-- the state and how it runs; of a node that is down,
-- what it has stored and was to store is kept, and all memory is lost
abbrev pub StatusShown : Status → Node → Type 0
StatusShown (status.Up c) x = (x.state ≡ state_of c) × (x.status ≡ Up)
StatusShown (status.Down d batch) x = (x.state.durable ≡ d) × (x.status ≡ Down (durable_after d batch))
StatusShown (status.Failed c count batch) x =
    (x.state ≡ state_of c) × (x.status ≡ Failed count (durable_after (state_of c).durable batch))

-- this seat is of the kind and id, and sound
pub record SeatKept (kind : runs.Kind) (pid : ℕ) (c : Seat) : Type 0 where
  pub kind_is : seats.kind_of c ≡ kind
  pub me : me_of c ≡ pid
  pub sound : IsSoundSeat c

-- a node that is up or has failed keeps a sound seat of its kind and id; what one that isn't up was to store
-- applies
abbrev pub StatusKept : runs.Kind → ℕ → Status → Type 0
StatusKept kind pid (status.Up c) = SeatKept kind pid c
StatusKept kind pid (status.Down d batch) = Applies d batch
StatusKept kind pid (status.Failed c count batch) = SeatKept kind pid c × Applies (state_of c).durable batch

-- the same of a node
abbrev pub IsKept : PureNode → Type 0
IsKept n = StatusKept (kind_of n) n.pid n.status

-- what is said of a happening beforehand is what becomes of it
abbrev pub pure_nodes : Kind PureNode Foretold
pure_nodes =
    record {
      pid_of = λ n. n.pid;
      kind_of = kind_of;
      is_shown = λ n x. StatusShown n.status x;
      is_kept = IsKept;
      is_first = λ n. Unit {0};
      lets = λ f old d new fate finds_after. (fate ≡ fate_of f.fate) × (finds_after ≡ f.finds_after);
    }

-- ---- what is done at a node

-- what is done at a node in a happening of this fate and opening: it shows the node after it, with these
-- messages and lines
pub record HasDone (old : PureNode) (d : Doing) (fate : Fate) (finds_after : Bool) (line : ℕ)
    (new : PureNode) (sends : List (ℕ × Msg)) (told : List Line) : Type 0 where
  pub after : (x : Node) → ShowsNode pure_nodes old x
      → (y : Node) × ShowsNode pure_nodes new y
      × IsNodeDone (kind_of old) x d fate finds_after line y sends told
  pub pid : new.pid ≡ old.pid
  pub observes : new.observes ≡ old.observes
  pub kept : IsKept new

-- one that is up stops with what it has stored, and this batch that it was to store; one that isn't keeps its
-- own
abbrev pub StatusStopped : PureNode → Status → List Change → PureNode → Type 0
StatusStopped old (status.Up c) batch n = n ≡ node_of old (status.Down (state_of c).durable batch)
StatusStopped old (status.Down d kept) batch n = n ≡ node_of old (status.Down d kept)
StatusStopped old (status.Failed c count kept) batch n =
    n ≡ node_of old (status.Down (state_of c).durable kept)

-- the same of a node
abbrev pub IsStopped : PureNode → List Change → PureNode → Type 0
IsStopped old batch new = StatusStopped old old.status batch new

-- one that is up fails with what it has, this count of faults, and this batch that it was to store
abbrev pub StatusFailed : PureNode → Status → ℕ → List Change → PureNode → Type 0
StatusFailed old (status.Up c) count batch n = n ≡ node_of old (status.Failed c count batch)
StatusFailed old (status.Down d kept) count batch n = n ≡ node_of old (status.Down d kept)
StatusFailed old (status.Failed c m kept) count batch n = n ≡ node_of old (status.Failed c m kept)

-- the same of a node
abbrev pub IsFailed : PureNode → ℕ → List Change → PureNode → Type 0
IsFailed old count batch new = StatusFailed old old.status count batch new

-- ---- openings

-- a server of this kind and id can be opened with this
abbrev pub CanOpenAs : runs.Kind → ℕ → Durable → Type 0
CanOpenAs Votes pid d = CanOpen pid d
CanOpenAs Observes pid d = CanWatch d

-- what an opening finds: what was to be stored, or what had been stored before
abbrev pub found_by : Bool → Durable → List Change → Durable
found_by finds_after d batch = if finds_after then durable_after d batch else d

-- such a server can be opened with what it finds
pub record CanFind (kind : runs.Kind) (pid : ℕ) (d : Durable) (batch : List Change) (finds_after : Bool)
    : Type 0 where
  pub applies : Applies d batch
  pub rest : IsAtRest d
  pub can : CanOpenAs kind pid (found_by finds_after d batch)

-- a server of this kind and id is opened in this state, and sends these messages then
pub record IsOpened (kind : runs.Kind) (pid : ℕ) (s : State) (c : Seat) (sends : List (ℕ × Msg))
    : Type 0 where
  pub seat : SeatKept kind pid c
  pub state : state_of c ≡ s
  pub sends_are : sends ≡ sends_as kind pid s.durable
