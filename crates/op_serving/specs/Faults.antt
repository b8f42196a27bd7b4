-- What a run of deeds is to the node, and how many of its steps meet a fault of the disks.
use Rattle.std.specs.Prelude.{◌≡◌, ◌+◌, ◌≤◌, ◌⊎◌, ℕ, List, [], ◌∷◌, flat_map}
use Rattle.op_outside.specs.Causes.{last_count}
use Rattle.op_serving.specs.Cores.{Standing}
use Rattle.op_serving.specs.Fates.{Came, faults, after_fate, MayCome}
use Rattle.op_serving.specs.Inputs.{Deed, enters}

-- whether a deed is one, as a number
abbrev pub faulted_in : Deed → ℕ
faulted_in (enters who i (faults k)) = 1
faulted_in _ = 0

-- how many are
abbrev pub faulted_steps : List Deed → ℕ
faulted_steps [] = 0
faulted_steps (d ∷ ds) = faulted_in d + faulted_steps ds

-- so many are at most as many as the count rose, unless it ends at its last value
abbrev pub FaultsWithin : ℕ → ℕ → ℕ → Type 0
FaultsWithin before many now = (before + many ≤ now) ⊎ (last_count ≤ now)

-- the node goes from one standing to another by the inputs of these deeds, of each of which may come what did
abbrev pub Stepped : Standing → List Deed → Standing → Type 0
Stepped n [] m = m ≡ n
Stepped n (enters who i fate ∷ ds) m = MayCome n i fate × Stepped (after_fate n i fate) ds m
Stepped n (_ ∷ ds) m = Stepped n ds m

-- the inputs of deeds, each with what came of it
abbrev pub came_of : Deed → List Came
came_of (enters who i fate) = (i, fate) ∷ []
came_of _ = []

abbrev pub came_in : List Deed → List Came
came_in ds = flat_map came_of ds

-- the node itself goes from one state to another by some inputs at a time
abbrev pub WalksBy : {K : Type 0} → (K → List Came → K → Type 0) → K → List (List Came) → K → Type 0
WalksBy step k [] m = m ≡ k
WalksBy {K} step k (xs ∷ groups) m = (next : K) × step k xs next × WalksBy step next groups m

-- so it goes by the inputs of these deeds
pub record Walks {K : Type 0} (step : K → List Came → K → Type 0) (k : K) (ds : List Deed) (m : K)
    : Type 0 where
  pub groups : List (List Came)
  pub are : came_in ds ≡ flat_map (λ g. g) groups
  pub walks : WalksBy step k groups m
