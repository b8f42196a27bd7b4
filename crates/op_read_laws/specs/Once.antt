-- A read's number is its own: so what an answered read is fresh since is the one happening in which it came.
use Rattle.std.specs.Prelude.{◌≡◌, ℕ, List, ◌∷◌, ◌++◌}
use Rattle.op_runs.specs.World.{Happening}
use Rattle.op_runs.specs.Run.{first_execution, execution_of}
use Rattle.op_runs.specs.Fresh.{ReadAt, stepping, Comes}
use Rattle.op_laws.specs.Runs.{RunInRange}

-- a read with its number comes in one happening of a run at most
abbrev pub ReadsComeOnce : List ℕ → List ℕ → List Happening → Type 0
ReadsComeOnce members spares hs =
    (before middle after : List Happening) (g h : Happening) (r : ReadAt)
    → hs ≡ (before ++ g ∷ middle) ++ h ∷ after
    → Comes r (stepping (execution_of (first_execution members spares) before).world g)
    → Comes r (stepping (execution_of (first_execution members spares) (before ++ g ∷ middle)).world h)
    → ⊥

-- so it does in every run
abbrev pub EveryReadComesOnce : Type 0
EveryReadComesOnce =
    (members spares : List ℕ) (hs : List Happening) → RunInRange members spares hs
    → ReadsComeOnce members spares hs
