-- A call of a copy, where it lives.
use Rattle.std.specs.Prelude.{◌≡◌, Bool, true, false, Result, Ok, Err}
use Rattle.op_outside.specs.Disks.{DiskState, Edit, Does, Pends, Settles, IsSound}
use Rattle.op_outside.specs.declared.disk.DiskFail.{DiskFail}

-- what a call answers that was done, or wasn't
abbrev pub outcome : Bool → Result (Unit {0}) DiskFail
outcome true = Ok tt
outcome false = Err (record {})

-- a copy that lives is called, and any other is left alone
pub record Tries {D : Type 0} (state : D → DiskState) (edit : Edit) (lives : Bool) (old new : D)
    (ok : Bool) : Type 0 where
  pub called : lives ≡ true → Does edit (state old) (state new) (outcome ok)
  pub out : lives ≡ false → (new ≡ old) × (ok ≡ false)
  pub sound : lives ≡ false → (state old).obeys → IsSound (state old)

-- what it makes pending where it lives
abbrev pub PendsIf : {D : Type 0} (state : D → DiskState) → Edit → Bool → D → D → Bool → Type 0
PendsIf state edit lives old new ok = lives ≡ true → Pends edit (state old) (state new) (outcome ok)

-- what a sync leaves pending where it lives
abbrev pub SettlesIf : {D : Type 0} (state : D → DiskState) → Bool → D → D → Bool → Type 0
SettlesIf state lives old new ok = lives ≡ true → Settles (state old) (state new) (outcome ok)
