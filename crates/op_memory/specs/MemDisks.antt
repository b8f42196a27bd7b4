-- A disk in memory, as its calls made it.
use Rattle.std.specs.Prelude.{◌≡◌, ◌≢◌, ◌⊎◌, ◌↔◌, ◌<◌, ℕ, Bool, ◌+◌, min, List, [], length, IsTrue, None, true, false, if◌then◌else◌, Result, OnOk, OnErr}
use Rattle.op_outside.specs.Causes.{last_count}
use Rattle.op_outside.specs.Disks.{DiskState, MayLeave, IsAtRest, disk_end}
use Rattle.op_memory.specs.declared.disk.MemDisk.{MemDisk}
use Rattle.op_memory.specs.Syncs.{HasNoSync}
use Rattle.op_memory.specs.FaultScripts.{fate_where, IsScript, IsSameScript, MakesCallWhere}
use Rattle.op_memory.specs.declared.call_fate.CallFate.{CallFate}
use Rattle.op_memory.specs.declared.call_fate.CallFate.TheVariants.{Runs, Stops}
use Rattle.op_memory.specs.declared.call_fate.CallFate.TheVariants as fate
use Rattle.op_memory.specs.Images.{State, fresh, wrote, stopped_in_write, cut_to, stopped_in_cut, ends_in_stop, IsFilled}
use Rattle.op_memory.specs.Histories.{known_of, history_state, state_before}

-- what is known of it; its device calls are those that its script counts
abbrev pub known_disk : MemDisk → DiskState
known_disk d = known_of d.history d.faults.count d.script.made

-- what is pending, what a read gives, and what it would give had all that is pending taken place
abbrev pub disk_state : MemDisk → State
disk_state d = history_state d.history

-- what a read gives
abbrev pub seen_of : MemDisk → List ℕ
seen_of d = d.history.bytes.items

-- how often it has failed
abbrev pub fault_count_of : MemDisk → ℕ
fault_count_of d = d.faults.count

-- none of the calls that it keeps is a sync
abbrev pub KeepsNoSync : MemDisk → Type 0
KeepsNoSync d = HasNoSync d.history.calls.items

-- a new disk with these bytes
pub record Holds (bytes : List ℕ) (d : MemDisk) : Type 0 where
  pub state : disk_state d ≡ fresh bytes
  pub seen : seen_of d ≡ bytes
  pub count : fault_count_of d ≡ 0
  pub script : IsScript 0 [] None false false d.script
  pub power : d.power ≡ None
  pub fed : d.faults.is_starved ≡ false
  pub rests : IsAtRest (known_disk d)

-- nothing but the script and the switch has changed
pub record IsUnchanged (old new : MemDisk) : Type 0 where
  pub history : new.history ≡ old.history
  pub faults : new.faults ≡ old.faults

-- What is known of a disk that let go of old calls:
-- all is as it was but the moments, which begin anew. So it is at rest where it was.
pub record BeginsAnew (old new : DiskState) : Type 0 where
  pub model : new.obeys ↔ old.obeys
  pub content : new.content ≡ old.content
  pub pending : new.pending ≡ old.pending
  pub images : (x : List ℕ) → MayLeave new x ↔ MayLeave old x
  pub faults : new.faults ≡ old.faults
  pub calls : new.calls ≡ old.calls
  pub mark : new.mark ≡ old.mark
  pub rests : IsAtRest old → IsAtRest new

-- the same disk, which keeps no call up to its last sync
pub record Forgets (old new : MemDisk) : Type 0 where
  pub forgets : KeepsNoSync new
  pub state : disk_state new ≡ disk_state old
  pub seen : seen_of new ≡ seen_of old
  pub faults : new.faults ≡ old.faults
  pub script : IsSameScript old.script new.script
  pub power : new.power ≡ old.power

-- The image of this number: 0 of what was synced, 1 of all that is pending,
-- and else of that byte wherever a write is pending.
pub record IsImageOf (d : MemDisk) (number : ℕ) (x : List ℕ) : Type 0 where
  pub left : MayLeave (known_disk d) x
  pub synced : number ≡ 0 → x ≡ (disk_state d).pending.base
  pub whole : number ≡ 1 → x ≡ (disk_state d).whole
  pub filled : 1 < number → IsFilled (disk_state d).pending number x

-- The image of this number without the write or the cut in which the disk stopped:
-- at 1 what a read gives. Of a disk that has not stopped it is the image.
pub record IsImageBefore (d : MemDisk) (number : ℕ) (x : List ℕ) : Type 0 where
  pub left : MayLeave (known_disk d) x
  pub synced : number ≡ 0 → x ≡ (disk_state d).pending.base
  pub runs : d.script.is_stopped ≡ false → IsImageOf d number x
  pub seen : d.script.is_stopped ≡ true → number ≡ 1 → x ≡ seen_of d
  pub filled : d.script.is_stopped ≡ true → 1 < number → IsFilled (state_before d.history).pending number x

-- the disk stopped in a call that it doesn't keep: in a sync, or in one that changes nothing
abbrev pub stopped_in_none : MemDisk → Bool
stopped_in_none d =
    if d.script.is_stopped then (if ends_in_stop d.history.calls.items then false else true) else false

-- The image of this number as if the call in which the disk stopped had been done: what a read gives
-- where that was a sync, and the image where it was a write or a cut, which is pending, or it has not
-- stopped.
pub record IsImageDone (d : MemDisk) (number : ℕ) (x : List ℕ) : Type 0 where
  pub left : MayLeave (known_disk d) x
  pub synced : stopped_in_none d ≡ true → x ≡ seen_of d
  pub runs : stopped_in_none d ≡ false → IsImageOf d number x

-- the same is pending of two disks
abbrev pub PendAlike : MemDisk → MemDisk → Type 0
PendAlike d e = (known_disk d).pending ≡ (known_disk e).pending

-- ---- one call

-- The power was off or on in a call, which no clause can tell, since a switch is shared:
-- of a disk that shares none it was on.
pub record KeepsPower (old new : MemDisk) : Type 0 where
  pub same : new.power ≡ old.power
  pub unshared : old.power ≡ None → new.was_off ≡ false

-- what became of the call: that of the script, or a stop where the power was off
abbrev pub fate_of : MemDisk → MemDisk → CallFate
fate_of old new = fate_where new.was_off old.script

-- what a caller asks a disk for: its length, a read of so many bytes from a place on,
-- a write there, a cut to a length, a sync
pub data Request : Type 0 where
  AskLen : Request
  AskRead : ℕ → ℕ → Request
  AskWrite : ℕ → List ℕ → Request
  AskCut : ℕ → Request
  AskSync : Request

-- it is out of this disk's range
abbrev pub IsOut : Request → MemDisk → Type 0
IsOut AskLen d = disk_end < length (seen_of d)
IsOut (AskRead at n) d = length (seen_of d) < at + n
IsOut (AskWrite at piece) d = length (seen_of d) < at
IsOut (AskCut n) d = length (seen_of d) < n
IsOut AskSync d = ⊥

-- it may find no memory, and has left a starved disk then
abbrev pub HasStarved : Request → MemDisk → Type 0
HasStarved AskLen d = ⊥
HasStarved (AskRead at n) d = ⊥
HasStarved (AskWrite at piece) d = IsTrue d.faults.is_starved
HasStarved (AskCut n) d = IsTrue d.faults.is_starved
HasStarved AskSync d = IsTrue d.faults.is_starved

-- the state once it is done
abbrev pub done_of : Request → MemDisk → State
done_of AskLen d = disk_state d
done_of (AskRead at n) d = disk_state d
done_of (AskWrite at piece) d = wrote at piece (disk_state d)
done_of (AskCut n) d = cut_to n (disk_state d)
done_of AskSync d = fresh (seen_of d)

-- the state where the disk stopped in it
abbrev pub stopped_of : Request → MemDisk → State
stopped_of AskLen d = disk_state d
stopped_of (AskRead at n) d = disk_state d
stopped_of (AskWrite at piece) d = stopped_in_write at piece (disk_state d)
stopped_of (AskCut n) d = stopped_in_cut n (disk_state d)
stopped_of AskSync d = disk_state d

-- A failed call counts once and changes nothing that a read gives. It was to fail, or the disk to stop in it,
-- or its range isn't there, or it starves. One that was to fail, or whose range isn't there, starves no disk.
-- The write or the cut in which the disk stopped is pending.
pub record FailsAsScripted (request : Request) (old new : MemDisk) : Type 0 where
  pub count : fault_count_of new ≡ min (fault_count_of old + 1) last_count
  pub seen : seen_of new ≡ seen_of old
  pub cause : (fate_of old new ≢ Runs) ⊎ IsOut request old ⊎ HasStarved request new
  pub fed : (fate_of old new ≡ fate.Fails) ⊎ IsOut request old ⊎ (HasStarved request new → ⊥)
      → new.faults.is_starved ≡ old.faults.is_starved
  pub state : (disk_state new ≡ disk_state old)
      ⊎ ((fate_of old new ≡ Stops) × (disk_state new ≡ stopped_of request old))
  pub pending : fate_of old new ≡ Stops → (disk_state new ≡ stopped_of request old)
      ⊎ ((disk_state new ≡ disk_state old) × (IsOut request old ⊎ HasStarved request new))

-- What a call does beside what a call of every disk does: it counts in the script, is done only where it was
-- to run and then leaves this state, and fails as scripted.
pub record Performs {T E : Type 0} (request : Request) (old new : MemDisk)
    (result : Result T E) : Type 0 where
  pub script : MakesCallWhere new.was_off old.script new.script
  pub power : KeepsPower old new
  pub runs : OnOk result (fate_of old new ≡ Runs)
  pub state : OnOk result (disk_state new ≡ done_of request old)
  pub fed : OnOk result (new.faults.is_starved ≡ old.faults.is_starved)
  pub err : OnErr result (FailsAsScripted request old new)
