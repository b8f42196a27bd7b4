-- What happens, as the code has it and as runs have it; and which happenings can come.
use Rattle.std.specs.Prelude.{◌≡◌, ◌⊎◌, ℕ, suc, true, false, List, [], ◌∷◌, map}
use Rattle.op_runs.specs.World.{World, world_after}
use Rattle.op_runs.specs.World as runs
use Rattle.op_runs.specs.Possible.{Named, named_ids, is_possible_in}
use Rattle.op_runs.specs.Schedules.{started_world}
use Rattle.op_pure.specs.declared.happening.Fate.{Fate}
use Rattle.op_pure.specs.declared.happening.Fate.TheVariants as fate
use Rattle.op_pure.specs.declared.happening.Happening.{Happening}

-- what becomes of a step
abbrev pub fate_of : Fate → runs.Fate
fate_of fate.Done = runs.Done
fate_of fate.Stopped = runs.Stopped
fate_of (fate.Faulted count) = runs.Faulted count

-- what happens
abbrev pub happening_of : Happening → runs.Happening
happening_of h = record { event = h.event; fate = fate_of h.fate; finds_after = h.finds_after }

-- all that happens
abbrev pub happenings_of : List Happening → List runs.Happening
happenings_of hs = map happening_of hs

-- from this world on, each event names servers of it, and messages that were sent
abbrev pub CanHappenFrom : Named → World → List runs.Happening → Type 0
CanHappenFrom ids w [] = Unit {0}
CanHappenFrom ids w (h ∷ hs) =
    (is_possible_in ids w h.event ≡ true) × CanHappenFrom ids (world_after w h) hs

-- from this world on, the happening of this number, from 0, is the first whose event doesn't
abbrev pub IsFirstBadFrom : Named → World → List runs.Happening → ℕ → Type 0
IsFirstBadFrom ids w [] i = ⊥
IsFirstBadFrom ids w (h ∷ hs) i =
    ((i ≡ 0) × (is_possible_in ids w h.event ≡ false))
    ⊎ ((j : ℕ) × (i ≡ suc j) × (is_possible_in ids w h.event ≡ true) ×
    IsFirstBadFrom ids (world_after w h) hs j)

-- all of it can happen, once these observers have begun
abbrev pub CanHappen : List ℕ → List ℕ → List ℕ → List runs.Happening → Type 0
CanHappen members spares observers hs =
    CanHappenFrom (named_ids members spares observers) (started_world members spares observers) hs

-- the first, from then on, that can't
abbrev pub IsFirstBad : List ℕ → List ℕ → List ℕ → List runs.Happening → ℕ → Type 0
IsFirstBad members spares observers hs i =
    IsFirstBadFrom (named_ids members spares observers) (started_world members spares observers) hs i
