-- What the opening of a mirror gives, and when it refuses.
use Rattle.std.specs.Prelude.{◌≡◌, ◌↔◌, ℕ, [], ◌∷◌, false}
use Rattle.op_outside.specs.Causes.{Rises}
use Rattle.op_outside.specs.Disks.{DiskState, MayLeave, LeavesOnly, IsSound, GoesOn}
use Rattle.op_outside.specs.Disks.Edit.{Nothing}
use Rattle.op_mirror.specs.Copies.{mark_of}
use Rattle.op_mirror.specs.Crashes.{LeavesMixes, IsOneCall}
use Rattle.op_mirror.specs.declared.gone.Gone.{Gone}
use Rattle.op_mirror.specs.declared.gone.Gone.TheVariants.{Neither, First, Second}
use Rattle.op_mirror.specs.declared.mirror.Mirror.{Mirror}
use Rattle.op_mirror.specs.declared.opening.OpenCause.{OpenCause}
use Rattle.op_mirror.specs.declared.opening.OpenCause.TheVariants as cause
use Rattle.op_mirror.specs.Mirrors.{known_mirror}

-- the count of the copy that is out rose, and the other's didn't
abbrev pub RoseAt : Gone → ℕ → ℕ → ℕ → ℕ → Type 0
RoseAt Neither a a' b b' = (a' ≡ a) × (b' ≡ b)
RoseAt First a a' b b' = Rises a a' × (b' ≡ b)
RoseAt Second a a' b b' = (a' ≡ a) × Rises b b'

-- where the first copy isn't out
abbrev pub UnlessOut : Gone → Type 0 → Type 0
UnlessOut Neither P = P
UnlessOut First P = Unit {0}
UnlessOut Second P = P

-- What a crash in the opening, or after it, leaves: of the first copy what it might have left before, and of
-- the second one that or what mixes both copies' bytes with an image of then. Where the first copy failed in
-- its first call the second one is only synced.
pub record LeavesBoth (a b a' b' : DiskState) : Type 0 where
  pub first : a.obeys → LeavesOnly (MayLeave a) a a'
  pub second : a.obeys → LeavesMixes a.content b.content b b'
  pub at_once : a.obeys → b.obeys → IsOneCall a a' → GoesOn Nothing b b'

-- A mirror of these two: at least one of them lives, and one is out only where it failed in the opening.
-- It reads as the first one did, unless that failed.
pub record Opens {D : Type 0} {g : _} (state : D → DiskState) (a b : D) (m : Mirror D g) : Type 0 where
  pub model : (known_mirror state m).obeys ↔ ((state a).obeys × (state b).obeys)
  pub mark : (known_mirror state m).mark
      ≡ mark_of ((state a).faults ∷ (state b).faults ∷ []) (state a).mark (state b).mark
  pub faults : (known_mirror state m).faults ≡ 0
  pub lives : m.is_dead ≡ false
  pub rose : RoseAt m.gone (state a).faults (state m.first).faults (state b).faults (state m.second).faults
  pub first_mark : (state m.first).mark ≡ (state a).mark
  pub second_mark : (state m.second).mark ≡ (state b).mark
  pub leaves : LeavesBoth (state a) (state b) (state m.first) (state m.second)
  pub at_once : (state a).obeys → IsOneCall (state a) (state m.first) → m.gone ≡ First
  pub sound : (known_mirror state m).obeys → IsSound (known_mirror state m)
  pub content : UnlessOut m.gone
      ((state a).obeys → (state b).obeys → (known_mirror state m).content ≡ (state a).content)

-- it is refused where both failed, or for want of memory, before any call
abbrev pub RefusedFor : {D : Type 0} (state : D → DiskState) (a b a' b' : D) → OpenCause → Type 0
RefusedFor state a b a' b' cause.NoMemory = (a' ≡ a) × (b' ≡ b)
RefusedFor state a b a' b' cause.DiskFail =
    Rises (state a).faults (state a').faults × Rises (state b).faults (state b').faults
    × ((state a').obeys ↔ (state a).obeys) × ((state b').obeys ↔ (state b).obeys)
    × ((state a').mark ≡ (state a).mark) × ((state b').mark ≡ (state b).mark)
    × LeavesBoth (state a) (state b) (state a') (state b')
