-- The history of a disk in memory, and one call more.
use Rattle.std.specs.Prelude.{◌≡◌, ℕ, List}
use Rattle.op_outside.specs.Disks.{DiskState}
use Rattle.op_memory.specs.declared.call.Call.{Call}
use Rattle.op_memory.specs.declared.disk_history.DiskHistory.{DiskHistory}
use Rattle.op_memory.specs.Images.{State, state_of, fresh, without_stop, after, known, IfSync, LeftNow}
use Rattle.op_memory.specs.Undoing.{undone}

-- what a read gave before the calls that it keeps
abbrev pub start_of : DiskHistory → List ℕ
start_of h = undone h.replaced.items h.bytes.items

-- what is known of a disk with this history that counts so many faults and so many device calls
abbrev pub known_of : DiskHistory → ℕ → ℕ → DiskState
known_of h faults made = known (start_of h) h.calls.items h.bytes.items faults made

-- what is pending, and what a read gives
abbrev pub history_state : DiskHistory → State
history_state h = state_of (fresh (start_of h)) h.calls.items

-- the same before a last call in which the disk stopped
abbrev pub state_before : DiskHistory → State
state_before h = state_of (fresh (start_of h)) (without_stop h.calls.items)

-- one call more was made
pub record Adds (call : Call) (old new : DiskHistory) : Type 0 where
  pub state : history_state new ≡ after call (history_state old)
  pub bytes : new.bytes.items ≡ (after call (fresh old.bytes.items)).content
  pub synced : IfSync call new.bytes.items (LeftNow (start_of new) new.calls.items)

-- nothing has changed
pub record IsSame (old new : DiskHistory) : Type 0 where
  pub state : history_state new ≡ history_state old
  pub bytes : new.bytes.items ≡ old.bytes.items
