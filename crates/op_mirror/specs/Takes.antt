-- Which copies a call of a mirror takes out, and when it fails.
use Rattle.std.specs.Prelude.{◌≡◌, ◌<◌, ◌+◌, min, true, false, Result, OnOk, OnErr}
use Rattle.op_outside.specs.Causes.{FaultsRose, last_count}
use Rattle.op_outside.specs.Disks.{DiskState}
use Rattle.op_mirror.specs.Copies.{has_first, has_second, living_of}
use Rattle.op_mirror.specs.declared.mirror.Mirror.{Mirror}

-- A copy is taken out only where its own count rose in the call, and one that is out is left as it is.
-- The call fails exactly where no copy lives then, and counts once in that.
pub record TakesOut {D T E : Type 0} {g : _} (state : D → DiskState) (old new : Mirror D g)
    (r : Result T E) : Type 0 where
  pub first : has_first old.gone old.is_dead ≡ true → has_first new.gone new.is_dead ≡ false
      → FaultsRose (state old.first).faults (state new.first).faults
  pub second : has_second old.gone old.is_dead ≡ true → has_second new.gone new.is_dead ≡ false
      → FaultsRose (state old.second).faults (state new.second).faults
  pub first_stays : has_first old.gone old.is_dead ≡ false
      → (has_first new.gone new.is_dead ≡ false) × (new.first ≡ old.first)
  pub second_stays : has_second old.gone old.is_dead ≡ false
      → (has_second new.gone new.is_dead ≡ false) × (new.second ≡ old.second)
  pub done : OnOk r (0 < living_of new.gone new.is_dead)
  pub ended : OnErr r (living_of new.gone new.is_dead ≡ 0)
  pub counted : OnErr r (new.faults ≡ min (old.faults + 1) last_count)
