-- Which commands nodes take in: what they refuse, or lose, stands in no history.
use Rattle.std.specs.Prelude.{◌≡◌, ◌++◌, ◌∷◌, ℕ, List, Option, Some, None}
use Rattle.op_types.specs.Ranges.{IsMember}
use Rattle.op_types.specs.declared.answers.Outcome.{Outcome}
use Rattle.op_types.specs.declared.answers.Outcome.TheVariants.{Refused}
use Rattle.op_types.specs.declared.events.Input.{Input}
use Rattle.op_types.specs.declared.events.Input.TheVariants as input
use Rattle.op_types.specs.declared.log.Command.{Command}
use Rattle.op_spec.specs.Machine.{IsAmong}
use Rattle.op_runs.specs.Possible.{server_ids}
use Rattle.op_serving.specs.Cores.{Standing, gives}
use Rattle.op_serving.specs.Fates.{Fate, done, faults, shares}
use Rattle.op_serving.specs.Inputs.{Brought, enters}
use Rattle.op_cluster_laws.specs.Traces.{Event, does, killed, Happened, Lived, stands, lived_at}

-- an input brings this command
abbrev pub Brings : Command → Input → Type 0
Brings b (input.Commands cs) = IsAmong cs b
Brings b _ = ⊥

-- what is told of an input at once is no refusal
abbrev pub IsNoRefusal : Option Outcome → Type 0
IsNoRefusal (Some (Refused why)) = ⊥
IsNoRefusal _ = Unit {0}

-- A node takes an input in: it does a step for it, and doesn't refuse it; or it was to be stored as a disk
-- failed, and the next opening tells whether it was. What is lost, and what a node refuses that had failed
-- before, it doesn't take in.
abbrev pub IsEntered : Standing → Input → Fate → Type 0
IsEntered n i done = IsNoRefusal (gives n i).outcome
IsEntered n i (faults k) = n.failed ≡ None
IsEntered n i (shares k) = Unit {0}
IsEntered n i _ = ⊥

-- so it takes in this command at an event, or is to store it as its life ends
abbrev pub TakesIn : Command → Lived → Event → Type 0
TakesIn b l (does (enters who i fate)) = Brings b i × IsEntered (stands l) i fate
TakesIn b l (killed bs) = (x : Brought) × IsAmong bs x × Brings b x.1
TakesIn b l _ = ⊥

-- by this moment a node has taken it in, in one of its lives
abbrev pub WasTakenIn : List ℕ → List ℕ → List ℕ → (ℕ → ℕ) → List Happened → Command → Type 0
WasTakenIn members spares observers faulted now b =
    (before since : List Happened) × (x : Happened) × (now ≡ before ++ x ∷ since)
    × IsMember (server_ids members spares observers) x.pid
    × TakesIn b (lived_at members observers faulted x.pid before) x.event
