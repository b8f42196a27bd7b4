-- The one list of a run, beside the run, in the words of the list machine.
use Rattle.std.specs.Prelude.{◌≡◌, ◌≤◌, ℕ, Bool, false, Option, Some, None, List, [], ◌∷◌, ◌++◌, length, take, drop, max, if◌then◌else◌}
use Rattle.op_types.specs.declared.log.Entry.{Entry}
use Rattle.op_spec.specs.Machine.{Machine, with_at, with_node_at, first_machine, Leads}
use Rattle.op_spec.specs.Ledger.{machine_proposing}
use Rattle.op_spec.specs.Laws.{IsSafe, OnlyGrows}
use Rattle.op_paxos.specs.Logs.{overflows}
use Rattle.op_paxos.specs.Nodes.{Role, Idle, Preparing, Leading, Node}
use Rattle.op_paxos.specs.Worlds.{Input, World, Event, Proposes, Stops, input_of, happens, start}
use Rattle.op_paxos.specs.Agreement.{decided_log}

-- whether the node refuses what is proposed to it together: it leads, and can't add all of it to its log
abbrev pub refuses_as : Role → List Entry → List Entry → Bool
refuses_as Idle log entries = false
refuses_as (Preparing r) log entries = false
refuses_as (Leading l) log entries = overflows log entries

-- the same, of a node
abbrev pub refuses : Node → List Entry → Bool
refuses node entries = refuses_as node.role node.log entries

-- a run of one configuration so far: its world, and the list machine's state that it shows
pub record Execution : Type 0 where
  pub world : World
  pub machine : Machine

-- a node shows what it has decided:
-- where that is more than the list has, the list gets its entries from there on
abbrev pub showing : Machine → ℕ → ℕ → Node → Machine
showing m conf p node =
    record {
      lists =
          with_at conf (m.lists conf ++ drop (length (m.lists conf)) (take node.decided node.log)) m.lists;
      known = with_node_at p conf (max (m.known p conf) node.decided) m.known;
      proposed = m.proposed;
      opened = m.opened;
    }

-- each of these is proposed
abbrev pub proposing_each : Machine → ℕ → List Entry → Machine
proposing_each m conf [] = m
proposing_each m conf (e ∷ entries) = proposing_each (machine_proposing m conf e) conf entries

-- proposals that their node doesn't refuse are proposed, whether or not the step then ends
abbrev pub proposing : Machine → ℕ → World → Event → Machine
proposing m conf w (Proposes p entries) =
    if refuses (w.nodes p) entries then m else proposing_each m conf entries
proposing m conf w (Stops e) = proposing m conf w e
proposing m conf w _ = m

-- the node that took a step shows what it has then decided
abbrev pub showing_at : Machine → ℕ → World → Option (ℕ × Input) → Machine
showing_at m conf w None = m
showing_at m conf w (Some x) = showing m conf x.0 (w.nodes x.0)

-- a run after one event more
abbrev pub execution_with : List ℕ → ℕ → Execution → Event → Execution
execution_with members conf t e =
    let w = happens members t.world e in
    record {
      world = w;
      machine = showing_at (proposing t.machine conf t.world e) conf w (input_of t.world e);
    }

-- a run after these events
unfoldable pub execution_of : List ℕ → ℕ → List Event → Execution → Execution
execution_of members conf [] t = t
execution_of members conf (e ∷ events) t = execution_of members conf events (execution_with members conf t e)

-- the start of a run
abbrev pub first_execution : List ℕ → Execution
first_execution members = record { world = start; machine = first_machine members }

-- the list of a run
abbrev pub ledger : List ℕ → ℕ → List Event → List Entry
ledger members conf events = ((execution_of members conf events (first_execution members)).machine).lists conf

-- how much of that list a node has shown that it knows
abbrev pub known : List ℕ → ℕ → List Event → ℕ → ℕ
known members conf events p =
    ((execution_of members conf events (first_execution members)).machine).known p conf

-- each node's decided log is a prefix of the list, and known to it
pub record StandsIn (conf : ℕ) (t : Execution) (p : ℕ) : Type 0 where
  pub known : (t.machine).known p conf ≡ ((t.world).nodes p).decided
  pub within : ((t.world).nodes p).decided ≤ length ((t.machine).lists conf)
  pub prefix : take ((t.world).nodes p).decided ((t.machine).lists conf) ≡ decided_log t.world p

-- an event is finitely many allowed steps of the list machine,
-- which only add to it; after it the lists are safe, and every node stands
pub record GoesOn (members : List ℕ) (conf : ℕ) (t u : Execution) : Type 0 where
  pub leads : Leads t.machine u.machine
  pub grows : OnlyGrows t.machine u.machine
  pub safe : IsSafe members u.machine
  pub stands : (p : ℕ) → StandsIn conf u p

-- so it is of each event of every run, of configuration number conf
abbrev pub Meets : Type 0
Meets =
    (members : List ℕ) (conf : ℕ) (early : List Event) (e : Event)
    → let t = execution_of members conf early (first_execution members) in
    GoesOn members conf t (execution_with members conf t e)
