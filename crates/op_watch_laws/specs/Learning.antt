-- A run whose list machine says, too, what observers know: what they have decided.
use Rattle.std.specs.Prelude.{ℕ, ◌==◌, ◌++◌, max, List, [], ◌∷◌, fold, if◌then◌else◌}
use Rattle.op_types.specs.Ranges.{MembersInRange}
use Rattle.op_types.specs.declared.durable.Durable.{Durable}
use Rattle.op_spec.specs.Machine.{Machine, Leads}
use Rattle.op_spec.specs.Ledger.{decided_in}
use Rattle.op_runs.specs.World.{Node, Happening}
use Rattle.op_runs.specs.Possible.{SparesInRange, HappeningsInRange}
use Rattle.op_runs.specs.Run.{Execution, first_execution, execution_with}

-- a server knows what it has decided, and adds nothing to the lists
abbrev pub machine_learning : Machine → ℕ → Durable → Machine
machine_learning m pid d =
    record m {
      known = λ p conf. if p == pid then max (m.known p conf) (decided_in d conf) else m.known p conf;
    }

-- so does each of these
abbrev pub machine_learning_all : Machine → List Node → Machine
machine_learning_all m observers = fold (λ x n. machine_learning x n.pid n.state.durable) m observers

-- a run after one happening more, behind which each observer knows what it has decided
abbrev pub watched_with : Execution → Happening → Execution
watched_with t h =
    let u = execution_with t h in
    record u { machine = machine_learning_all u.machine u.world.observers }

-- a run after these happenings
abbrev pub watched_of : Execution → List Happening → Execution
watched_of t [] = t
watched_of t (h ∷ hs) = watched_of (watched_with t h) hs

-- behind every run, whatever happens then is finitely many steps of the list machine, also where observers
-- know what they have decided
abbrev pub EveryObserverLearns : Type 0
EveryObserverLearns =
    (members spares : List ℕ) → MembersInRange members → SparesInRange members spares
    → (hs : List Happening) (h : Happening) → HappeningsInRange (hs ++ h ∷ [])
    → let t = watched_of (first_execution members spares) hs in Leads t.machine (watched_with t h).machine
