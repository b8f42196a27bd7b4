-- Reads that are answered are fresh.
use Rattle.std.specs.Prelude.{ℕ, List}
use Rattle.op_runs.specs.World.{Happening}
use Rattle.op_runs.specs.Fresh.{ReadsAreFresh}
use Rattle.op_laws.specs.Runs.{RunInRange}

-- so they are in every run
abbrev pub EveryReadIsFresh : Type 0
EveryReadIsFresh =
    (members spares : List ℕ) (hs : List Happening) → RunInRange members spares hs
    → ReadsAreFresh members spares hs
