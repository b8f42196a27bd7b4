-- What becomes of a step or an opening of a node, by what is planned for its disks.
use Rattle.std.specs.Prelude.{◌≡◌, ◌⊎◌, ℕ, Bool, true, false, List, [], ◌++◌, map, Option, Some, None, if◌then◌else◌}
use Rattle.op_types.specs.declared.answers.Outcome.{Outcome}
use Rattle.op_types.specs.declared.answers.Outcome.TheVariants as outcome
use Rattle.op_types.specs.declared.answers.Refusal.TheVariants as refusal
use Rattle.op_types.specs.declared.durable.Durable.{Durable}
use Rattle.op_types.specs.declared.messages.Msg.{Msg}
use Rattle.op_areas.specs.Media.{Medium}
use Rattle.op_runs.specs.declared.summary.Line.{Line}
use Rattle.op_runs.specs.declared.summary.Line.TheVariants as said
use Rattle.op_runs.specs.World.{Kind, Node, Fate, Told, Doing, outcome_lines, answer_line, told_lines}
use Rattle.op_runs.specs.Schedules.{MayEnd}
use Rattle.op_types.specs.declared.given.Given.{Given}
use Rattle.op_node.specs.Nodes.{node_of}
use Rattle.op_node.specs.declared.node.Node as nodes
use Rattle.op_executions.specs.Servers.{IsNodeDone, ServerInRange}
use Rattle.op_executions.specs.declared.server.Done.{Done}
use Rattle.op_replay_nodes.specs.Disks.{IsClosedAs, StaysDown, StaysNode}
use Rattle.op_replay_nodes.specs.Plans.{awaited_of, is_stop, killed_with, lets_fail, lost_in, plan_with}
use Rattle.op_replay_nodes.specs.Nodes.{IsShown, IsKept, CallsAt, StaysSame}
use Rattle.op_replay_nodes.specs.declared.awaited.Awaited.TheVariants as told
use Rattle.op_replay_nodes.specs.declared.awaited.Planned.{Planned}
use Rattle.op_replay_nodes.specs.declared.became.Became.{Became}
use Rattle.op_replay_nodes.specs.declared.became.Fallen.{Fallen}
use Rattle.op_replay_nodes.specs.declared.node_state.DownNode.{DownNode}
use Rattle.op_replay_nodes.specs.declared.node_state.NodeState.{NodeState}
use Rattle.op_replay_nodes.specs.declared.node_state.NodeState.TheVariants as node
use Rattle.op_replay_nodes.specs.declared.node_state.WorldNode.{WorldNode}
use Rattle.op_replay_nodes.specs.declared.plan.Plan.{Plan}

-- ---- states, whatever they are over

-- it has failed, or is down
abbrev pub IsNotUp : {D C : Type 0} → NodeState D C → Type 0
IsNotUp (node.Up n) = ⊥
IsNotUp (node.Failed n) = Unit {0}
IsNotUp (node.Down d) = Unit {0}

-- what a node in this state tells: nothing, where it is down
abbrev pub TellsIn : {D C : Type 0} → ℕ → Told → NodeState D C → List Line → Type 0
TellsIn me t (node.Up n) lines = let s = (node_of n).state in lines ≡ told_lines t me s s.durable.part
TellsIn me t (node.Failed n) lines = let s = (node_of n).state in lines ≡ told_lines t me s s.durable.part
TellsIn me t (node.Down d) lines = lines ≡ []

-- what is reported of a step, said in this line
abbrev pub given_lines : ℕ → ℕ → Given → List Line
given_lines pid line g =
    outcome_lines line g.outcome ++ map (λ r. answer_line pid r.client r.seq r.answer) g.replies
    ++ map (λ r. said.Read pid r.client r.seq r.answer) g.read_replies

-- the refusal of what is proposed, where areas have failed so often
abbrev pub refused_if : Bool → ℕ → Option Outcome
refused_if is_proposal count =
    if is_proposal then Some (outcome.Refused (refusal.StorageFailed count)) else None

-- what is reported of a step that met a fault, after which the node is so
abbrev pub fault_lines : {D C : Type 0} → NodeState D C → ℕ → Option Outcome → List Line
fault_lines (node.Up n) line o = outcome_lines line o
fault_lines (node.Failed n) line o = outcome_lines line o
fault_lines (node.Down d) line o = []

-- ---- how a fault ends

-- the node stopped, as it was to
abbrev pub HasStopped : Plan → Bool → Type 0
HasStopped p is_due = (is_stop p.awaited ≡ true) × (is_due ≡ false)

-- a call failed, as it may; where the node was to stop, it does so then
abbrev pub HasFaulted : Bool → Plan → Bool → Type 0
HasFaulted mirrored p is_due = (lets_fail mirrored p ≡ true) × (is_due ≡ is_stop p.awaited)

module _ {D C : Type 0} (M : Medium D C) where
  -- ---- one of the definitions' nodes

  -- a node of this id and kind that is shown so is in range, where some ids are known
  pub record IsInRange (kind : Kind) (pid : ℕ) (s : NodeState D C) : Type 0 where
    pub ids : List ℕ
    pub node : Node
    pub pid_is : node.pid ≡ pid
    pub shown : IsShown M s node.state node.status
    pub range : ServerInRange ids kind node

  -- what is done at a node of this kind by one of these fates: it is shown so then, with these messages and
  -- lines
  pub record DoneAs (kind : Kind) (comes : Fate → Type 0) (x : Node) (d : Doing) (line : ℕ)
      (new : NodeState D C) (sends : List (ℕ × Msg)) (told : List Line) : Type 0 where
    pub fate : Fate
    pub finds_after : Bool
    pub may : comes fate
    pub node : Node
    pub shown : IsShown M new node.state node.status
    pub done : IsNodeDone kind x d fate finds_after line node sends told

  -- what is done at the node of this kind, id and state, by one of these fates, whichever node is shown
  pub record IsDoneOf (kind : Kind) (pid : ℕ) (comes : Fate → Type 0) (old : NodeState D C) (d : Doing)
      (line : ℕ) (new : NodeState D C) (sends : List (ℕ × Msg)) (told : List Line) : Type 0 where
    pub after : (x : Node) → x.pid ≡ pid → IsShown M old x.state x.status
        → DoneAs kind comes x d line new sends told
    pub kept : IsKept M kind pid new

  -- these fates may come where what is done is what this plan awaits
  abbrev pub MayComeOf : Plan → Type 0 → Bool → Fate → Type 0
  MayComeOf p calls is_due fate =
      MayEnd (awaited_of p.awaited) (lost_in M.is_mirrored p.killed) calls fate is_due

  -- what became of a step or an opening that this plan awaits
  abbrev pub BecomesOf : Kind → ℕ → Plan → NodeState D C → Doing → ℕ → Became D C → Type 0
  BecomesOf kind pid p old d line r =
      IsDoneOf kind pid (MayComeOf p (CallsAt old d) r.is_due) old d line r.state r.sends r.told

  -- ---- what is left

  -- what is left of a node that met a fault
  abbrev pub IsFallen : Plan → nodes.Node D → NodeState D C → Bool → Type 0
  IsFallen p n (node.Up m) is_due = ⊥
  IsFallen p n (node.Failed m) is_due = StaysNode M.state n m × HasFaulted M.is_mirrored p is_due
  IsFallen p n (node.Down d) is_due =
      IsClosedAs M.state M.holds (node_of n).state.durable n.store.first n.store.second d
      × HasStopped p is_due

  -- the same of both
  abbrev pub IsAfterFault : Plan → nodes.Node D → Fallen D C → Type 0
  IsAfterFault p n r = IsFallen p n r.state r.is_due

  -- what is left of one that is down, where it is so that this holds
  abbrev pub IsDownWith : (DownNode C → Type 0) → Plan → Fallen D C → Type 0
  IsDownWith P p r = (d : DownNode C) × (r.state ≡ node.Down d) × P d
      × (HasStopped p r.is_due ⊎ HasFaulted M.is_mirrored p r.is_due)

  -- what is left of one that is down, and met a fault
  abbrev pub IsDownAgain : Plan → DownNode C → Fallen D C → Type 0
  IsDownAgain p down r = IsDownWith (StaysDown M.holds down) p r

  -- the same, of which an opening handed back these areas
  abbrev pub IsClosedAgain : Plan → Durable → D → D → Fallen D C → Type 0
  IsClosedAgain p shown first second r = IsDownWith (IsClosedAs M.state M.holds shown first second) p r

  -- what a stop between two steps leaves
  abbrev pub IsLeftDown : NodeState D C → DownNode C → Type 0
  IsLeftDown (node.Up n) d =
      IsClosedAs M.state M.holds (node_of n).state.durable n.store.first n.store.second d
  IsLeftDown (node.Failed n) d =
      IsClosedAs M.state M.holds (node_of n).state.durable n.store.first n.store.second d
  IsLeftDown (node.Down old) d = StaysDown M.holds old d

  -- ---- what goes on

  -- this node is up then, with these messages and lines
  pub record GoesOnUp (n : nodes.Node D) (sends : List (ℕ × Msg)) (told : List Line) (is_due : Bool)
      (r : Became D C) : Type 0 where
    pub now : nodes.Node D
    pub state : r.state ≡ node.Up now
    pub same : StaysNode M.state n now
    pub sends_are : r.sends ≡ sends
    pub told_are : r.told ≡ told
    pub due : r.is_due ≡ is_due

  -- a server adopted what became of it: nothing awaits it any more
  pub record HasAdopted (became : Became D C) (old new : WorldNode D C) (done : Done) : Type 0 where
    pub pid : new.pid ≡ old.pid
    pub observes : new.observes ≡ old.observes
    pub plan : new.plan ≡ record old.plan { awaited = told.Nothing }
    pub due : new.is_due ≡ became.is_due
    pub state : StaysSame M became.state new.state
    pub sends : done.sends ≡ became.sends
    pub lines : done.told ≡ became.told

  -- a server goes on, and this is planned for its disks then
  pub record GoesOnWith (plan : Plan) (old new : WorldNode D C) : Type 0 where
    pub pid : new.pid ≡ old.pid
    pub observes : new.observes ≡ old.observes
    pub plan_is : new.plan ≡ plan
    pub is_due : new.is_due ≡ old.is_due
    pub state : StaysSame M old.state new.state

  -- this is planned beside what was
  abbrev pub GoesOnPlanned : Planned → WorldNode D C → WorldNode D C → Type 0
  GoesOnPlanned planned old new = GoesOnWith (plan_with planned old.plan) old new

  -- this disk of it is killed
  abbrev pub GoesOnKilled : ℕ → WorldNode D C → WorldNode D C → Type 0
  GoesOnKilled disk old new =
      GoesOnWith (record old.plan { killed = killed_with disk old.plan.killed }) old new
