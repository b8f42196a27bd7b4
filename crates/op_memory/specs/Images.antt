-- What a crash may leave of a disk in memory: its images after its calls.
use Rattle.std.specs.Prelude.{◌≡◌, ◌⊎◌, ℕ, ◌+◌, ◌<◌, ◌≤◌, List, [], ◌∷◌, ◌++◌, length, take, drop, slice_index, Bool, true, false, if◌then◌else◌}
use Rattle.op_outside.specs.Disks.{DiskState, Only, Edit}
use Rattle.op_outside.specs.Pendings.{Pending, synced, written, shortened, Uncovered, IsImage}
use Rattle.op_outside.specs.Disks.Edit.{Nothing, Write as Writes, Cut as Cuts}
use Rattle.op_outside.specs.Moments.{Moment}
use Rattle.op_outside.specs.Moments.Moment.{At, Both}
use Rattle.op_memory.specs.declared.call.Call.{Call}
use Rattle.op_memory.specs.declared.call.Call.TheVariants.{Write, StoppedWrite, Cut, StoppedCut, Sync}

-- what is pending, what a read gives, and what it would give
-- had the call in which the disk stopped taken place
pub record State : Type 0 where
  pub pending : Pending
  pub content : List ℕ
  pub whole : List ℕ

-- a disk of which nothing is pending
abbrev pub fresh : List ℕ → State
fresh bytes = record { pending = synced bytes; content = bytes; whole = bytes }

-- a list with this piece laid over it from a place on
abbrev pub overlaid : List ℕ → ℕ → List ℕ → List ℕ
overlaid old at piece = take at old ++ piece ++ drop (at + length piece) old

-- after a write
abbrev pub wrote : ℕ → List ℕ → State → State
wrote at piece s =
    record {
      pending = written at (length piece) s.pending;
      content = overlaid s.content at piece;
      whole = overlaid s.content at piece;
    }

-- after a write in which the disk stopped
abbrev pub stopped_in_write : ℕ → List ℕ → State → State
stopped_in_write at piece s =
    record {
      pending = written at (length piece) s.pending;
      content = s.content;
      whole = overlaid s.content at piece;
    }

-- after a cut
abbrev pub cut_to : ℕ → State → State
cut_to n s = record { pending = shortened n s.pending; content = take n s.content; whole = take n s.content }

-- after a cut in which the disk stopped
abbrev pub stopped_in_cut : ℕ → State → State
stopped_in_cut n s = record { pending = shortened n s.pending; content = s.content; whole = take n s.content }

-- one call more
abbrev pub after : Call → State → State
after (Write at piece) s = wrote at piece.items s
after (StoppedWrite at piece) s = stopped_in_write at piece.items s
after (Cut n) s = cut_to n s
after (StoppedCut n) s = stopped_in_cut n s
after Sync s = fresh s.content

-- bytes with this call done, if the disk stopped in it
abbrev pub completed : Call → List ℕ → List ℕ
completed (StoppedWrite at piece) bytes = overlaid bytes at piece.items
completed (StoppedCut n) bytes = take n bytes
completed (Write at piece) bytes = bytes
completed (Cut n) bytes = bytes
completed Sync bytes = bytes

-- these calls more
abbrev pub state_of : State → List Call → State
state_of s [] = s
state_of s (call ∷ calls) = state_of (after call s) calls

-- the disk stopped in this call
abbrev pub is_stop : Call → Bool
is_stop (Write at piece) = false
is_stop (StoppedWrite at piece) = true
is_stop (Cut n) = false
is_stop (StoppedCut n) = true
is_stop Sync = false

-- these calls without a last one in which the disk stopped
abbrev pub without_stop : List Call → List Call
without_stop [] = []
without_stop (call ∷ []) = if is_stop call then [] else call ∷ []
without_stop (call ∷ next ∷ calls) = call ∷ without_stop (next ∷ calls)

-- the last of these calls is one in which the disk stopped
abbrev pub ends_in_stop : List Call → Bool
ends_in_stop [] = false
ends_in_stop (call ∷ []) = is_stop call
ends_in_stop (call ∷ next ∷ calls) = ends_in_stop (next ∷ calls)

-- some write covers this place
abbrev pub Covered : List (ℕ × ℕ) → ℕ → Type 0
Covered [] p = ⊥
Covered (w ∷ writes) p = ((w.0 ≤ p) × (p < w.0 + w.1)) ⊎ Covered writes p

-- the greatest length, one byte at each place that a write covers, and the synced byte at the others
pub record IsFilled (s : Pending) (byte : ℕ) (x : List ℕ) : Type 0 where
  pub longest : length x ≡ s.high
  pub within : (p : ℕ) → Covered s.writes p → p < length x
  pub filled : (p : ℕ) → Covered s.writes p → slice_index x p ≡ byte
  pub same : (p : ℕ) → Uncovered s.writes p → slice_index x p ≡ slice_index s.base p

-- the change that a disk is asked for by this call
abbrev pub edit_of : Call → Edit
edit_of (Write at piece) = Writes at piece.items
edit_of (StoppedWrite at piece) = Writes at piece.items
edit_of (Cut n) = Cuts n
edit_of (StoppedCut n) = Cuts n
edit_of Sync = Nothing

-- the place of a write, or the length of a cut, is not past the end
abbrev pub IsWithin : Call → List ℕ → Type 0
IsWithin (Write at piece) bytes = at ≤ length bytes
IsWithin (StoppedWrite at piece) bytes = at ≤ length bytes
IsWithin (Cut n) bytes = n ≤ length bytes
IsWithin (StoppedCut n) bytes = n ≤ length bytes
IsWithin Sync bytes = Unit {0}

-- after a sync a crash leaves these bytes and nothing else
abbrev pub IfSync : Call → List ℕ → (List ℕ → Type 0) → Type 0
IfSync (Write at piece) bytes may_leave = Unit {0}
IfSync (StoppedWrite at piece) bytes may_leave = Unit {0}
IfSync (Cut n) bytes may_leave = Unit {0}
IfSync (StoppedCut n) bytes may_leave = Unit {0}
IfSync Sync bytes may_leave = Only bytes may_leave

-- a crash after some call from this moment on
abbrev pub LeftSince : List ℕ → List Call → Moment → List ℕ → Type 0
LeftSince start calls (At n) x =
    (k : ℕ) × (n ≤ k) × (k ≤ length calls) × IsImage (state_of (fresh start) (take k calls)).pending x
LeftSince start calls (Both a b) x = ⊥

-- a crash now
abbrev pub LeftNow : List ℕ → List Call → List ℕ → Type 0
LeftNow start calls = LeftSince start calls (At (length calls))

-- what is known of a disk that these calls made of these first bytes, of which a read gives these, and which
-- counts so many faults and so many device calls
abbrev pub known : List ℕ → List Call → List ℕ → ℕ → ℕ → DiskState
known start calls bytes faults made = record {
  obeys = Unit {0};
  content = bytes;
  pending = (state_of (fresh start) calls).pending;
  moment = At (length calls);
  left_since = LeftSince start calls;
  faults = faults;
  calls = made;
  mark = [];
}
