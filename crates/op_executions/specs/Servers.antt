-- What a world asks of its servers: which node one shows, what can be done there, and what is done.
use Rattle.std.specs.Prelude.{◌≡◌, ◌⊎◌, ℕ, Bool, List, ◌++◌, Some}
use Rattle.op_types.specs.Ranges.{IsMember}
use Rattle.op_types.specs.declared.messages.Msg.{Msg}
use Rattle.op_runs.specs.declared.summary.Line.{Line}
use Rattle.op_runs.specs.World as runs
use Rattle.op_runs.specs.World.{Votes, Observes, World, Node, NodeStatus, Up, Down, Failed, Happening, Fate, Doing, Steps, Stops, Opens, Tells, world_by_status_as, world_telling_more, world_with_as, node_at, sent_by}
use Rattle.op_bounds.specs.Messages.{AreIds, InputInRange}
use Rattle.op_bounds.specs.Laws.{NodeInRange, ObserverInRange}
use Rattle.op_watch_laws.specs.Laws.{IsWatching}
use Rattle.op_executions.specs.Deeds.{doing_of}
use Rattle.op_executions.specs.declared.deed.Deed as deed

-- a kind of server: whose it is, whether it votes, which nodes it may show, what the code keeps of it, what
-- holds of one at its start, and what a fate that is given lets become of what is done at a server, which
-- becomes another one: the happening's fate, and whether an opening finds the state after the step in which
-- the server stopped
pub record Kind (S F : Type 0) : Type 1 where
  pub pid_of : S → ℕ
  pub kind_of : S → runs.Kind
  pub is_shown : S → Node → Type 0
  pub is_kept : S → Type 0
  pub is_first : S → Type 0
  pub lets : F → S → Doing → S → Fate → Bool → Type 0

-- the server shows this node
pub record ShowsNode {S F : Type 0} (K : Kind S F) (s : S) (x : Node) : Type 0 where
  pub pid : x.pid ≡ K.pid_of s
  pub state : K.is_shown s x

-- a server at its start: a node, or an observer that begins
abbrev pub first_as : runs.Kind → List ℕ → ℕ → Node
first_as Votes members pid = runs.first_node members pid
first_as Observes members pid = runs.first_observer members pid

-- ---- what can be done at a server

-- what is done begins with something in range, where these ids are known
abbrev pub DoingInRange : List ℕ → Doing → Type 0
DoingInRange ids (Steps x) = InputInRange (IsMember ids) x
DoingInRange ids Stops = Unit {0}
DoingInRange ids Opens = Unit {0}
DoingInRange ids (Tells t) = Unit {0}

-- a deed's server is one of these, and what it does begins with something in range
pub record IsPossibleDeed (ids : List ℕ) (d : deed.Deed) : Type 0 where
  pub pid : IsMember ids d.pid
  pub doing : DoingInRange ids (doing_of d.doing)

-- what the next opening of an observer may find that isn't up was stored by an observer
abbrev pub FindsWatching : NodeStatus → Type 0
FindsWatching Up = Unit {0}
FindsWatching (Down after) = IsWatching after
FindsWatching (Failed count after) = IsWatching after

-- an observer in range, which stores and finds what observers do
pub record WatcherInRange (ids : List ℕ) (n : Node) : Type 0 where
  pub range : ObserverInRange (IsMember ids) n
  pub stored : IsWatching n.state.durable
  pub found : FindsWatching n.status

-- a server in range, by whether it votes
abbrev pub ServerInRange : List ℕ → runs.Kind → Node → Type 0
ServerInRange ids Votes n = NodeInRange (IsMember ids) n
ServerInRange ids Observes n = WatcherInRange ids n

-- this can be done there: where some ids are known, some node that is shown is in range, and so is what it
-- begins with
pub record CanDo {S F : Type 0} (K : Kind S F) (s : S) (d : Doing) : Type 0 where
  pub ids : List ℕ
  pub are_ids : AreIds (IsMember ids)
  pub kept : K.is_kept s
  pub node : Node
  pub shown : ShowsNode K s node
  pub range : ServerInRange ids (K.kind_of s) node
  pub doing : DoingInRange ids d

-- ---- what is done

-- the servers of a world that vote, or those that observe
abbrev pub servers_as : runs.Kind → World → List Node
servers_as Votes w = w.nodes
servers_as Observes w = w.observers

-- What a world becomes by what is done at one of its servers, which votes or observes, in a happening of this
-- fate, opening and line: this node takes its place, and these messages and lines come. One that isn't up has
-- stored what it had stored.
pub record IsNodeDone (k : runs.Kind) (x : Node) (d : Doing) (fate : Fate) (finds_after : Bool) (line : ℕ)
    (y : Node) (sends : List (ℕ × Msg)) (told : List Line) : Type 0 where
  pub pid : y.pid ≡ x.pid
  pub stored : (y.status ≡ Up) ⊎ (y.state.durable ≡ x.state.durable)
  pub world : (w : World) (h : Happening) → h.fate ≡ fate → h.finds_after ≡ finds_after → h.event.line ≡ line
      → node_at (servers_as k w) x.pid ≡ Some x → world_by_status_as k x.status d h w x
      ≡ world_telling_more (world_with_as k w y) (sent_by x.pid sends) told

-- the same by some fate that was let, with a node that the server shows then
pub record IsDoneBy {S F : Type 0} (K : Kind S F) (f : F) (old : S) (x : Node) (d : Doing) (line : ℕ)
    (new : S) (sends : List (ℕ × Msg)) (told : List Line) : Type 0 where
  pub fate : Fate
  pub finds_after : Bool
  pub lets : K.lets f old d new fate finds_after
  pub node : Node
  pub shows : ShowsNode K new node
  pub done : IsNodeDone (K.kind_of old) x d fate finds_after line node sends told

-- what is done at a server with this fate: whichever node it shows, it shows the node after it
pub record IsDoneAt {S F : Type 0} (K : Kind S F) (f : F) (old : S) (d : Doing) (line : ℕ) (new : S)
    (sends : List (ℕ × Msg)) (told : List Line) : Type 0 where
  pub after : (x : Node) → ShowsNode K old x → IsDoneBy K f old x d line new sends told
  pub pid : K.pid_of new ≡ K.pid_of old
  pub kind : K.kind_of new ≡ K.kind_of old
  pub kept : K.is_kept new

-- the same, where these lines became those: what is told is added
pub record IsToldAt {S F : Type 0} (K : Kind S F) (f : F) (old : S) (d : Doing) (line : ℕ) (new : S)
    (sends : List (ℕ × Msg)) (before lines : List Line) : Type 0 where
  pub told : List Line
  pub done : IsDoneAt K f old d line new sends told
  pub added : lines ≡ before ++ told
