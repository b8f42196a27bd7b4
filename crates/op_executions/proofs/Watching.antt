-- What observers store, and find: what an observer stored.
use Rattle.std.proofs.Common.{ℕ, List, All, subst}
use Rattle.op_types.specs.declared.durable.Part.{Part}
use Rattle.op_types.specs.declared.log.Entry.{Entry}
use Rattle.op_runs.specs.World.{World, Node, NodeStatus, Up, Down, Failed, Happening, first_world, run_of}
use Rattle.op_runs.specs.Run.{first_execution}
use Rattle.op_laws.specs.Runs.{RunInRange}
use Rattle.op_laws.proofs.Reached.{world_of_run}
use Rattle.op_refinement.proofs.NodeLists.{All-each}
use Rattle.op_watch_laws.specs.Laws.{IsWatching}
use Rattle.op_watch_laws.proofs.Nodes.{StatusKept, NodeKept}
use Rattle.op_watch_laws.proofs.Worlds.{WorldKept, each_on}
use Rattle.op_watch_laws.proofs.Every.{every_world_is_kept}
use Rattle.op_executions.specs.Servers.{FindsWatching}

-- what an observer has stored, and what it may find
abbrev pub Watches : Node → Type 0
Watches n = IsWatching n.state.durable × FindsWatching n.status

finds : (first : List ℕ) (lists : ℕ → List Entry) (p : Part) (s : NodeStatus) → StatusKept first lists p s → FindsWatching s
finds first lists p Up k = tt
finds first lists p (Down after) k = record { part = k.part; alone = k.is; promised = (k.kept).promised; accepted = (k.kept).accepted; decided = (k.kept).decided }
finds first lists p (Failed count after) k = record { part = k.part; alone = k.is; promised = (k.kept).promised; accepted = (k.kept).accepted; decided = (k.kept).decided }

watches : (first : List ℕ) (lists : ℕ → List Entry) (n : Node) → NodeKept first lists n → Watches n
watches first lists n k =
    let s = k.state in
    (record { part = s.part; alone = s.is; promised = (s.kept).promised; accepted = (s.kept).accepted; decided = (s.kept).decided }, finds first lists s.part n.status k.status)

-- so it is of every observer of a run
pub all_watch : (members spares : List ℕ) (hs : List Happening) → RunInRange members spares hs → All Watches (run_of (first_world members spares) hs).observers
all_watch members spares hs k =
    let kept = every_world_is_kept members spares k.first k.others hs k.happenings in
    subst (λ (w : World). All Watches w.observers) (world_of_run (first_execution members spares) hs) (by kept.0 _ kept.1)
  where
    by : (lists : ℕ → List Entry) (w : World) → WorldKept members lists w → All Watches w.observers
    by lists w one = All-each Watches w.observers (each_on (NodeKept members lists) Watches w.observers (watches members lists) one.observers)
