-- Two copies of an area in memory, and what may be read of a mirror of them.
use Rattle.std.specs.Prelude.{◌≡◌, ◌⊎◌, ℕ, false, List}
use Rattle.op_outside.specs.Disks.{MayLeave}
use Rattle.op_outside.specs.Pendings.{Pending, IsImage}
use Rattle.op_memory.specs.MemDisks.{known_disk}
use Rattle.op_memory.specs.declared.disk.MemDisk.{MemDisk}
use Rattle.op_areas.specs.declared.pair.DiskPair.{DiskPair}

-- a crash may leave it of this disk, which isn't killed
abbrev pub LeftOfLiving : MemDisk → List ℕ → Type 0
LeftOfLiving d x = (d.script.is_killed ≡ false) × MayLeave (known_disk d) x

-- the same of one of two copies
abbrev pub LeftOfPair : DiskPair → List ℕ → Type 0
LeftOfPair c x = LeftOfLiving c.first x ⊎ LeftOfLiving c.second x

-- What two closed copies hold: all that mixes what a crash may leave of those that aren't killed. That is,
-- whatever is pending so that a crash may leave all of these, it may leave this too. It is nothing where both
-- are killed.
abbrev pub holds_pair : DiskPair → List ℕ → Type 0
holds_pair c x = (s : Pending) → ((y : List ℕ) → LeftOfPair c y → IsImage s y) → IsImage s x
