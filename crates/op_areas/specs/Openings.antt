-- Two copies that are opened or closed. Only what is inside the crate speaks of this.
use Rattle.std.specs.Prelude.{◌≡◌, ◌⊎◌, ◌<◌, ◌+◌, ℕ, Bool, true, false}
use Rattle.op_outside.specs.Causes.{last_count}
use Rattle.op_memory.specs.MemDisks.{known_disk, BeginsAnew, PendAlike}
use Rattle.op_memory.specs.declared.disk.MemDisk.{MemDisk}
use Rattle.op_mirror.specs.Copies.{has_second}
use Rattle.op_mirror.specs.Mirrors.{known_mirror}
use Rattle.op_mirror.specs.declared.mirror.Mirror.{Mirror}
use Rattle.op_areas.specs.Disks.{LeavesNoMore}
use Rattle.op_areas.specs.declared.area.Opening.{Opening}
use Rattle.op_areas.specs.declared.area.Opening.TheVariants.{Opened, Failed}
use Rattle.op_areas.specs.declared.mem_mirror.MemMirror.{MemMirror}
use Rattle.op_areas.specs.declared.pair.DiskPair.{DiskPair}
use Rattle.op_areas.specs.declared.seen.Seen.{Seen}

-- this was seen of these copies
pub record IsSeen (c : DiskPair) (seen : Seen) : Type 0 where
  pub first_killed : seen.first_killed ≡ c.first.script.is_killed
  pub second_killed : seen.second_killed ≡ c.second.script.is_killed
  pub first_calls : seen.first_calls ≡ c.first.script.made

-- one call more, of a count that is not at its end
abbrev pub IsOneMore : ℕ → ℕ → Type 0
IsOneMore before now = (before + 1 < last_count) × (now ≡ before + 1)

-- one call was made of the first copy since this was seen
abbrev pub IsCalledOnce : Seen → MemDisk → Type 0
IsCalledOnce seen first = IsOneMore seen.first_calls first.script.made

-- The same is known of a mirror. Where the first copy was killed one call was made of it since this was seen,
-- and where the second one was, it is out.
pub record IsAsSeen {g h : _} (seen : Seen) (old : Mirror MemDisk g) (new : Mirror MemDisk h) : Type 0 where
  pub same : BeginsAnew (known_mirror known_disk old) (known_mirror known_disk new)
  pub first : seen.first_killed ≡ true → IsCalledOnce seen old.first
  pub second : seen.second_killed ≡ true → has_second old.gone old.is_dead ≡ false

-- Copies that leave no more than these do, and are killed where that was seen.
-- Where the first one was killed, one call was made of it since.
pub record AreAsSeen (seen : Seen) (first second : MemDisk) (new : DiskPair) : Type 0 where
  pub once : seen.first_killed ≡ true → IsCalledOnce seen first
  pub first_left : LeavesNoMore first new.first
  pub second_left : LeavesNoMore second new.second
  pub first_killed : seen.first_killed ≡ true → new.first.script.is_killed ≡ true
  pub second_killed : seen.second_killed ≡ true → new.second.script.is_killed ≡ true

-- That mirror is opened, or its copies are handed back.
abbrev pub IsOpenedAsSeen : {g : _} → Seen → Mirror MemDisk g → Opening MemMirror DiskPair → Type 0
IsOpenedAsSeen seen old (Opened area) = IsAsSeen seen old area.mirror
IsOpenedAsSeen seen old (Failed copies) = AreAsSeen seen old.first old.second copies

-- it is opened
abbrev pub is_opened : {A C : Type 0} → Opening A C → Bool
is_opened (Opened area) = true
is_opened (Failed copies) = false

-- neither copy has stopped
abbrev pub HasNoStop : {g : _} → Mirror MemDisk g → Type 0
HasNoStop m = (m.first.script.is_stopped ≡ false) × (m.second.script.is_stopped ≡ false)

-- the copy that isn't read is killed
abbrev pub OtherIsKilled : Bool → MemDisk → MemDisk → Type 0
OtherIsKilled true first second = first.script.is_killed ≡ true
OtherIsKilled false first second = second.script.is_killed ≡ true

-- so many copies live, which are both, or the one that isn't read is killed, or the same is pending of both
abbrev pub IsNoOther : ℕ → Bool → MemDisk → MemDisk → Type 0
IsNoOther living reads_second first second =
    (living ≡ 2) ⊎ OtherIsKilled reads_second first second ⊎ PendAlike first second
