-- Worlds of nodes over areas in memory.
use Rattle.std.specs.Prelude.{◌≡◌, ℕ, max, List, map, All}
use Rattle.op_types.specs.Ranges.{IsMember}
use Rattle.op_types.specs.declared.durable.Durable.{Durable}
use Rattle.op_types.specs.declared.log.Entry.{Entry}
use Rattle.op_runs.specs.declared.summary.Line.{Line}
use Rattle.op_runs.specs.declared.summary.NodeLine.{NodeLine}
use Rattle.op_runs.specs.declared.summary.Running.{Running}
use Rattle.op_areas.specs.Media.{Medium}
use Rattle.op_protocol.specs.Configurations.{latest_of}
use Rattle.op_runs.specs.World.{Kind, Votes, Observes, Node, Sent, Happening}
use Rattle.op_runs.specs.Run.{Execution}
use Rattle.op_runs.specs.Possible.{Named, ObserversInRange, named_ids, proposals_in}
use Rattle.op_runs.specs.Schedules.{Seated}
use Rattle.op_runs.specs.Summary.{stands_at, joining_conf}
use Rattle.op_bounds.specs.Laws.{HappeningInRange}
use Rattle.op_laws.specs.Runs.{RunInRange}
use Rattle.op_executions.specs.Laws.{reached}
use Rattle.op_executions.specs.Worlds as worlds
use Rattle.op_replay_nodes.specs.Nodes.{area_nodes}
use Rattle.op_replay_nodes.specs.declared.node_state.WorldNode.{WorldNode}
use Rattle.op_world.specs.Ledgers.{list_at}

-- the members of the first configuration, the ids that events may name, all servers, all messages that were
-- sent, what the events gave to be reported, the list of each configuration, as far as it is decided, and how
-- much was proposed
pub record Parts (D C : Type 0) : Type 0 where
  pub members : List ℕ
  pub ids : Named
  pub nodes : List (WorldNode D C)  -- rising by id
  pub messages : List Sent
  pub lines : List Line
  pub lists : List (List Entry)  -- that of configuration c stands at c
  pub proposed : ℕ

module _ {D C : Type 0} (M : Medium D C) where
  -- ---- the world that is shown

  -- the server is this one
  abbrev pub ShowsSeated : WorldNode D C → Seated → Type 0
  ShowsSeated n x = worlds.ShowsSeated (area_nodes M) n x

  -- the servers are these, in order
  abbrev pub ShowSeated : List (WorldNode D C) → List Seated → Type 0
  ShowSeated nodes xs = worlds.ShowSeated (area_nodes M) nodes xs

  -- those of them that vote are these nodes, and the others these observers
  abbrev pub ShowServers : List (WorldNode D C) → List Node → List Node → Type 0
  ShowServers servers nodes observers = worlds.ShowServers (area_nodes M) servers nodes observers

  -- the run has come to this
  pub record Shows (w : Parts D C) (t : Execution) : Type 0 where
    pub servers : ShowServers w.nodes t.world.nodes t.world.observers
    pub messages : t.world.messages ≡ w.messages
    pub lines : t.world.lines ≡ w.lines
    pub lists : (conf : ℕ) → t.machine.lists conf ≡ list_at w.lists conf

  -- ---- what the code keeps

  -- one has a server for each id, and shows what some run has come to
  pub record IsWorld (w : Parts D C) : Type 0 where
    pub spares : List ℕ
    pub observers : List ℕ
    pub happenings : List Happening
    pub range : RunInRange w.members spares happenings
    pub observers_are : ObserversInRange w.members spares observers
    pub ids : w.ids ≡ named_ids w.members spares observers
    pub known : All (HappeningInRange (IsMember w.ids.servers)) happenings
    pub pids : map (λ n. n.pid) w.nodes ≡ w.ids.servers
    pub proposed : w.proposed ≡ proposals_in happenings
    pub kept : All (area_nodes M).is_kept w.nodes
    pub shows : Shows w (reached w.members spares happenings)

-- ---- reports

-- the greatest configuration so far, with that of a server that has stored this, if it votes
abbrev pub greatest_with : Kind → ℕ → Durable → ℕ
greatest_with Votes conf d = max conf (latest_of d)
greatest_with Observes conf d = conf

-- where a server stands that runs so and has stored this
abbrev pub line_of : ℕ → Running → Durable → NodeLine
line_of pid running d =
    record {
      pid = pid;
      at = stands_at d.part d.closed;
      joining = joining_conf d.joining;
      running = running;
    }
