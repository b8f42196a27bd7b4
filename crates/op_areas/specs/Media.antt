-- What is known of areas that are open, and of what holds their bytes while they are closed.
use Rattle.std.specs.Prelude.{ℕ, Bool, List}
use Rattle.op_outside.specs.Disks.{DiskState, MayLeave}

-- a kind of area: what is known of an open one, which bytes may be read of closed copies once they are opened
-- again, and whether each area has two copies
pub record Medium (D C : Type 0) : Type 1 where
  pub state : D → DiskState
  pub holds : C → List ℕ → Type 0
  pub is_mirrored : Bool

-- the same, put together
abbrev pub medium : {D C : Type 0} → (D → DiskState) → (C → List ℕ → Type 0) → Bool → Medium D C
medium state holds is_mirrored = record { state = state; holds = holds; is_mirrored = is_mirrored }

-- all that these copies hold those held
abbrev pub HoldNoMore : {C : Type 0} → (C → List ℕ → Type 0) → C → C → Type 0
HoldNoMore holds old new = (x : List ℕ) → holds new x → holds old x

-- all that these copies hold a crash may have left of the open area
abbrev pub HoldWhatIsLeft : {C : Type 0} → (C → List ℕ → Type 0) → DiskState → C → Type 0
HoldWhatIsLeft holds area copies = (x : List ℕ) → holds copies x → MayLeave area x
