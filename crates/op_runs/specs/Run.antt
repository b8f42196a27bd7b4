-- A run, its ledger beside it, and how it meets the list machine.
use Rattle.std.specs.Prelude.{◌≡◌, ◌≤◌, ◌<◌, ◌⊎◌, ◌+◌, ℕ, List, [], ◌∷◌, fold, Option, Some, None, All}
use Rattle.op_types.specs.declared.durable.Part.{Part}
use Rattle.op_types.specs.declared.answers.Refusal.{Refusal}
use Rattle.op_types.specs.declared.events.Input.{Input}
use Rattle.op_types.specs.declared.events.Input.TheVariants as input
use Rattle.op_types.specs.declared.log.Entry.{Entry}
use Rattle.op_types.specs.declared.log.Entry.TheVariants as entry
use Rattle.op_spec.specs.Machine.{Machine, first_machine, Leads}
use Rattle.op_spec.specs.Ledger.{decided_in, machine_showing, machine_proposing}
use Rattle.op_spec.specs.Laws.{IsSafe, OnlyGrows}
use Rattle.op_spec.specs.Service.{Service, service_of}
use Rattle.op_spec.specs.Stands.{Stands, prefix_of}
use Rattle.op_protocol.specs.State.{State}
use Rattle.op_protocol.specs.Configurations.{latest_of}
use Rattle.op_protocol.specs.Rows.{refusal_of, stop_for, entries_of}
use Rattle.op_runs.specs.World.{World, Node, NodeStatus, Up, Down, Failed, Happening, Doing, Steps, Stops, Opens, Tells, Deed, first_world, world_after, node_at, deed_of}

-- a run so far: its world, and the list machine's state that it shows
pub record Execution : Type 0 where
  pub world : World
  pub machine : Machine

-- each node shows what it stores
abbrev pub machine_showing_all : Machine → List Node → Machine
machine_showing_all m nodes = fold (λ x n. machine_showing x n.pid n.state.durable) m nodes

-- entries at a part are proposed in its configuration, if nothing refuses them
abbrev pub machine_proposing_in : Machine → List Entry → Option Part → Option Refusal → Machine
machine_proposing_in m entries None r = m
machine_proposing_in m entries (Some p) (Some r) = m
machine_proposing_in m entries (Some p) None = fold (λ x e. machine_proposing x p.conf e) m entries

-- a node proposes these entries
abbrev pub machine_proposing_entries : Machine → ℕ → State → List Entry → Machine
machine_proposing_entries m me s entries =
    machine_proposing_in m entries s.durable.part (refusal_of me s.volatile.role s.durable entries)

-- a step proposes its commands or its stop-sign
abbrev pub machine_proposing_input : Machine → ℕ → State → Input → Machine
machine_proposing_input m me s (input.Commands cs) = machine_proposing_entries m me s (entries_of cs)
machine_proposing_input m me s (input.Stop members) =
    machine_proposing_entries m me s (entry.Stop (stop_for s.durable.part members) ∷ [])
machine_proposing_input m me s _ = m

-- the same, of what is done at a node
abbrev pub machine_proposing_doing : Machine → ℕ → State → Doing → Machine
machine_proposing_doing m me s (Steps x) = machine_proposing_input m me s x
machine_proposing_doing m me s Stops = m
machine_proposing_doing m me s Opens = m
machine_proposing_doing m me s (Tells t) = m

-- at a node that is up
abbrev pub machine_proposing_if : NodeStatus → Machine → ℕ → State → Doing → Machine
machine_proposing_if Up m me s d = machine_proposing_doing m me s d
machine_proposing_if (Down after) m me s d = m
machine_proposing_if (Failed count after) m me s d = m

-- the same, where the node is there
abbrev pub machine_proposing_at : Machine → Option Node → Doing → Machine
machine_proposing_at m None d = m
machine_proposing_at m (Some n) d = machine_proposing_if n.status m n.pid n.state d

-- what a node doesn't refuse is proposed in its configuration,
-- whether or not the step then ends
abbrev pub machine_proposing_by : Machine → List Node → Option Deed → Machine
machine_proposing_by m nodes None = m
machine_proposing_by m nodes (Some x) = machine_proposing_at m (node_at nodes x.pid) x.doing

-- a run after one happening more
abbrev pub execution_with : Execution → Happening → Execution
execution_with t h =
    record {
      world = world_after t.world h;
      machine = machine_showing_all
          (machine_proposing_by t.machine t.world.nodes (deed_of t.world.messages h.event.what))
          (world_after t.world h).nodes;
    }

-- the start of a run
abbrev pub first_execution : List ℕ → List ℕ → Execution
first_execution members spares =
    record { world = first_world members spares; machine = first_machine members }

-- a run after these happenings
abbrev pub execution_of : Execution → List Happening → Execution
execution_of t [] = t
execution_of t (h ∷ hs) = execution_of (execution_with t h) hs

-- the service at a part has applied all that is decided there
-- and in the configurations before, and nothing else
abbrev pub ServesDecided : (ℕ → List Entry) → Option Part → Service → Type 0
ServesDecided lists None s = Unit {0}
ServesDecided lists (Some p) s = s ≡ service_of (prefix_of lists p.conf p.decided)

-- what a run's state keeps: the lists are safe, every node stands,
-- and its service is that of all that it has decided
pub record IsSound (members : List ℕ) (t : Execution) : Type 0 where
  pub safe : IsSafe members t.machine
  pub stand : All (λ n. Stands members t.machine.lists n.state.durable) t.world.nodes
  pub serve : All (λ n. ServesDecided t.machine.lists n.state.durable.part n.state.service) t.world.nodes

-- how much a node has decided of a configuration
abbrev pub decided_at : Option Node → ℕ → ℕ
decided_at None conf = 0
decided_at (Some n) conf = decided_in n.state.durable conf

-- the latest configuration that a node knows
abbrev pub latest_at : Option Node → ℕ
latest_at None = 0
latest_at (Some n) = latest_of n.state.durable

-- what a node has decided of a configuration doesn't fall, until it keeps the closed list of a later one
abbrev pub DecidedStays : List Node → List Node → Type 0
DecidedStays old new =
    (pid conf : ℕ)
    → (decided_at (node_at old pid) conf ≤ decided_at (node_at new pid) conf)
    ⊎ (conf + 1 < latest_at (node_at new pid))

-- a happening is finitely many steps of the list machine, which only add to it;
-- nothing decided is lost, and all is sound after it
pub record GoesOn (members : List ℕ) (t u : Execution) : Type 0 where
  pub leads : Leads t.machine u.machine
  pub grows : OnlyGrows t.machine u.machine
  pub decided : DecidedStays t.world.nodes u.world.nodes
  pub sound : IsSound members u

-- each happening goes on so
abbrev pub MeetsFrom : List ℕ → Execution → List Happening → Type 0
MeetsFrom members t [] = Unit {0}
MeetsFrom members t (h ∷ hs) =
    GoesOn members t (execution_with t h) × MeetsFrom members (execution_with t h) hs

-- a run of these members and spares meets the list machine, from its start on
abbrev pub Meets : List ℕ → List ℕ → List Happening → Type 0
Meets members spares hs =
    IsSound members (first_execution members spares) × MeetsFrom members (first_execution members spares) hs
