-- What the opening of an area gives.
use Rattle.std.specs.Prelude.{ℕ, List}
use Rattle.op_outside.specs.Disks.{DiskState, MayLeave}
use Rattle.op_areas.specs.Media.{HoldNoMore}
use Rattle.op_areas.specs.declared.area.Opening.{Opening}
use Rattle.op_areas.specs.declared.area.Opening.TheVariants.{Opened, Failed}

-- an area that is opened on these copies: it obeys the model, and what a read gives, as all that a crash may
-- leave of it, was held
pub record OpensOn {C : Type 0} (holds : C → List ℕ → Type 0) (old : C) (area : DiskState) : Type 0 where
  pub obeys : area.obeys
  pub read : holds old area.content
  pub left : (x : List ℕ) → MayLeave area x → holds old x

-- it is opened, or its copies are handed back, and hold no more than before
abbrev pub IsOpening : {D C : Type 0} → (D → DiskState) → (C → List ℕ → Type 0) → C → Opening D C → Type 0
IsOpening state holds old (Opened area) = OpensOn holds old (state area)
IsOpening state holds old (Failed copies) = HoldNoMore holds old copies
