-- Nodes and their areas in memory: which of the definitions' nodes one shows, and what may be done at it.
use Rattle.std.specs.Prelude.{◌≡◌, ◌≢◌, ◌&&◌, ℕ, Bool, true, false, [], Some, None, if◌then◌else◌}
use Rattle.op_types.specs.Changes.{empty_durable}
use Rattle.op_types.specs.declared.durable.Durable.{Durable}
use Rattle.op_areas.specs.Media.{Medium}
use Rattle.op_protocol.specs.State.{State}
use Rattle.op_store.specs.Stores.{disks_of}
use Rattle.op_node.specs.Nodes.{node_of, stores, IsRepresented, IsSoundNode}
use Rattle.op_node.specs.Reopenings.{StoreOneOf}
use Rattle.op_node.specs.declared.node.Node as nodes
use Rattle.op_runs.specs.World as runs
use Rattle.op_runs.specs.World.{NodeStatus, Up, Down, Failed, Fate, Doing, Steps, Stops, Opens, Tells}
use Rattle.op_runs.specs.Possible.{kind_if}
use Rattle.op_runs.specs.Schedules.{Nothing, MayEnd, is_awaited}
use Rattle.op_executions.specs.Servers.{Kind}
use Rattle.op_replay_nodes.specs.Disks.{HoldOneOf, StaysDown, StaysNode}
use Rattle.op_replay_nodes.specs.Plans.{awaited_of, lost_in, nothing_planned}
use Rattle.op_replay_nodes.specs.declared.plan.Plan.{Plan}
use Rattle.op_replay_nodes.specs.declared.node_state.DownNode.{DownNode}
use Rattle.op_replay_nodes.specs.declared.node_state.NodeState.{NodeState}
use Rattle.op_replay_nodes.specs.declared.node_state.NodeState.TheVariants as node
use Rattle.op_replay_nodes.specs.declared.node_state.WorldNode.{WorldNode}

-- ---- a node of any kind of area

-- whether it votes
abbrev pub kind_of : {D C : Type 0} → WorldNode D C → runs.Kind
kind_of n = kind_if n.observes

-- the node of this server, of this kind, that has failed
pub record HasFailed {D : Type 0} (kind : runs.Kind) (pid : ℕ) (n : nodes.Node D) : Type 0 where
  pub kind_is : (node_of n).kind ≡ kind
  pub me : (node_of n).me ≡ pid
  pub sound : IsSoundNode n

-- whether this is what a stop or a failure awaits at a node in this state
abbrev pub is_awaited_at : {D C : Type 0} → NodeState D C → Doing → Bool
is_awaited_at (node.Up n) d = is_awaited Up d
is_awaited_at (node.Failed n) d = is_awaited (Failed 0 empty_durable) d
is_awaited_at (node.Down x) d = is_awaited (Down empty_durable) d

-- whether it drops what awaits the node
abbrev pub drops_at : {D C : Type 0} → NodeState D C → Doing → Bool
drops_at s (Steps x) = is_awaited_at s (Steps x)
drops_at s Stops = true
drops_at s Opens = is_awaited_at s Opens
drops_at s (Tells t) = false

-- it calls the disks of a node in this state, but for a step of one that is up that has nothing to store
abbrev pub CallsAt : {D C : Type 0} → NodeState D C → Doing → Type 0
CallsAt (node.Up n) (Steps x) = stores (node_of n) x ≢ []
CallsAt (node.Up n) Stops = Unit {0}
CallsAt (node.Up n) Opens = Unit {0}
CallsAt (node.Up n) (Tells t) = Unit {0}
CallsAt (node.Failed n) d = Unit {0}
CallsAt (node.Down x) d = Unit {0}

module _ {D C : Type 0} (M : Medium D C) where
  -- ---- the node that is shown

  -- a node that failed, whose areas store what they did before the step in which it did, or what that was to
  -- store
  pub record ShowsFailed (n : nodes.Node D) (s : State) (status : NodeStatus) : Type 0 where
    pub state : s ≡ (node_of n).state
    pub count : ℕ
    pub failed : (node_of n).failed ≡ Some count
    pub after : Durable
    pub status_is : status ≡ Failed count after
    pub stored : StoreOneOf s.durable after (disks_of M.state n.store)

  -- one that is down, whose copies hold what they did before the step in which it stopped, or what that was
  -- to store; the rest is lost
  pub record ShowsDown (d : DownNode C) (s : State) (status : NodeStatus) : Type 0 where
    pub durable : s.durable ≡ d.shown
    pub after : Durable
    pub status_is : status ≡ Down after
    pub stored : HoldOneOf M.holds s.durable after d.first d.second

  -- the node is in this state, and runs so
  abbrev pub IsShown : NodeState D C → State → NodeStatus → Type 0
  IsShown (node.Up n) s status = (s ≡ (node_of n).state) × (status ≡ Up)
  IsShown (node.Failed n) s status = ShowsFailed n s status
  IsShown (node.Down d) s status = ShowsDown d s status

  -- the open node of this server, of this kind, which hasn't failed; each image of its disks stands for what
  -- it has stored
  pub record RunsAs (kind : runs.Kind) (pid : ℕ) (n : nodes.Node D) : Type 0 where
    pub kind_is : (node_of n).kind ≡ kind
    pub me : (node_of n).me ≡ pid
    pub failed : (node_of n).failed ≡ None
    pub sound : IsSoundNode n
    pub stored : IsRepresented M.state n

  -- a node that isn't down is this server's, and of its kind
  abbrev pub IsKept : runs.Kind → ℕ → NodeState D C → Type 0
  IsKept kind pid (node.Up n) = RunsAs kind pid n
  IsKept kind pid (node.Failed n) = HasFailed kind pid n
  IsKept kind pid (node.Down d) = Unit {0}

  -- ---- what is done at a node

  -- these fates may come of what is done at a node in this state, by what is planned for its disks
  abbrev pub ComesAt : NodeState D C → Plan → Doing → Bool → Fate → Type 0
  ComesAt s p d is_due fate =
      MayEnd (if is_awaited_at s d then awaited_of p.awaited else Nothing)
      (is_awaited_at s d && lost_in M.is_mirrored p.killed) (CallsAt s d) fate is_due

  -- this fate may come of what is done at a node, by what is planned for its disks, of which what awaited it
  -- is dropped then
  pub record LetsCome (old : WorldNode D C) (d : Doing) (new : WorldNode D C) (fate : Fate) : Type 0 where
    pub comes : ComesAt old.state old.plan d new.is_due fate
    pub left : awaited_of new.plan.awaited
        ≡ (if drops_at old.state d then Nothing else awaited_of old.plan.awaited)
    pub killed : new.plan.killed ≡ old.plan.killed

  -- the nodes of a world; nothing is planned for one at its start
  abbrev pub area_nodes : Kind (WorldNode D C) (Unit {0})
  area_nodes =
      record {
        pid_of = λ n. n.pid;
        kind_of = kind_of;
        is_first = λ n. n.plan ≡ nothing_planned;
        is_shown = λ n x. IsShown n.state x.state x.status;
        is_kept = λ n. IsKept (kind_of n) n.pid n.state;
        lets = λ f old d new fate finds_after. LetsCome old d new fate;
      }

  -- ---- a node that goes on

  -- a node goes on as it is, over areas that store no more than before
  abbrev pub StaysSame : NodeState D C → NodeState D C → Type 0
  StaysSame (node.Up n) (node.Up m) = StaysNode M.state n m
  StaysSame (node.Up n) (node.Failed m) = ⊥
  StaysSame (node.Up n) (node.Down d) = ⊥
  StaysSame (node.Failed n) (node.Up m) = ⊥
  StaysSame (node.Failed n) (node.Failed m) = StaysNode M.state n m
  StaysSame (node.Failed n) (node.Down d) = ⊥
  StaysSame (node.Down d) (node.Up m) = ⊥
  StaysSame (node.Down d) (node.Failed m) = ⊥
  StaysSame (node.Down d) (node.Down e) = StaysDown M.holds d e

  -- so does the server, whatever is planned for its disks
  pub record GoesOn (old new : WorldNode D C) : Type 0 where
    pub pid : new.pid ≡ old.pid
    pub observes : new.observes ≡ old.observes
    pub plan : new.plan ≡ old.plan
    pub is_due : new.is_due ≡ old.is_due
    pub state : StaysSame old.state new.state
