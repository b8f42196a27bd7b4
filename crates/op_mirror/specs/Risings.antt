-- Which counts rose since a mirror was opened.
use Rattle.std.specs.Prelude.{◌≡◌, ◌<◌, ◌≤◌, false}
use Rattle.op_outside.specs.Causes.{FaultsRose}
use Rattle.op_outside.specs.Disks.{DiskState}
use Rattle.op_mirror.specs.declared.mirror.Mirror.{Mirror}
use Rattle.op_mirror.specs.Copies.{has_first, has_second, living_of}

-- The count of a copy that is out rose above its mark, or stands at the last value.
-- A mirror that has failed has both copies out, so that both counts rose.
pub record HasRisen {D : Type 0} {g : _} (state : D → DiskState) (m : Mirror D g) : Type 0 where
  pub first_later : m.first_mark ≤ (state m.first).faults
  pub second_later : m.second_mark ≤ (state m.second).faults
  pub first_out : has_first m.gone m.is_dead ≡ false → FaultsRose m.first_mark (state m.first).faults
  pub second_out : has_second m.gone m.is_dead ≡ false → FaultsRose m.second_mark (state m.second).faults
  pub none_lives : 0 < m.faults → living_of m.gone m.is_dead ≡ 0
  pub both_out : 0 < m.faults
      → FaultsRose m.first_mark (state m.first).faults × FaultsRose m.second_mark (state m.second).faults
