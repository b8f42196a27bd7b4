-- A disk in memory that is made or armed. Only what is inside the crate speaks of this.
use Rattle.std.specs.Prelude.{◌≡◌, ℕ, true, List, []}
use Rattle.op_outside.specs.Disks.{MayLeave}
use Rattle.op_memory.specs.MemDisks.{known_disk, IsUnchanged}
use Rattle.op_memory.specs.declared.disk.MemDisk.{MemDisk}

-- a crash leaves nothing of it but the empty list
abbrev pub IsEmptyDisk : MemDisk → Type 0
IsEmptyDisk d = (x : List ℕ) → MayLeave (known_disk d) x → x ≡ []

-- all that a crash leaves of the new disk it might leave of the old one
abbrev pub LeavesNoMore : MemDisk → MemDisk → Type 0
LeavesNoMore old new = (x : List ℕ) → MayLeave (known_disk new) x → MayLeave (known_disk old) x

-- the new disk is killed where the old one was
abbrev pub StaysKilled : MemDisk → MemDisk → Type 0
StaysKilled old new = old.script.is_killed ≡ true → new.script.is_killed ≡ true

-- only what its script tells of later calls, and its switch, is another one, and a killed disk stays so
pub record IsArmed (old new : MemDisk) : Type 0 where
  pub same : IsUnchanged old new
  pub made : new.script.made ≡ old.script.made
  pub killed : StaysKilled old new
