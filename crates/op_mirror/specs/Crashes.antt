-- What a crash leaves of a copy that is being made equal to another one.
use Rattle.std.specs.Prelude.{◌≡◌, ◌≢◌, ◌⊎◌, ◌<◌, ◌≤◌, ◌+◌, ℕ, List, length, take, drop, slice_index}
use Rattle.op_outside.specs.Causes.{last_count}
use Rattle.op_outside.specs.Pendings.{IsMixed}
use Rattle.op_outside.specs.Disks.{DiskState, MayLeave, LeavesOnly}
use Rattle.op_mirror.specs.declared.gone.Gone.TheVariants.{Neither}
use Rattle.op_mirror.specs.declared.mirror.Mirror.{Mirror}
use Rattle.op_mirror.specs.Mirrors.{known_mirror}

-- a crash now may leave it of one of two disks
abbrev pub LeftOfEither : DiskState → DiskState → List ℕ → Type 0
LeftOfEither a b x = MayLeave a x ⊎ MayLeave b x

-- what mixes these two and an image of a disk
abbrev pub MixOf : List ℕ → List ℕ → DiskState → List ℕ → Type 0
MixOf x y d c = (w : List ℕ) × MayLeave d w × IsMixed x y w c

-- of a disk that obeys the model a crash since leaves what it might have left before, or what mixes these two
-- and an image of then
abbrev pub LeavesMixes : List ℕ → List ℕ → DiskState → DiskState → Type 0
LeavesMixes x y old new = old.obeys → LeavesOnly (MixOf x y old) old new

-- So many places from this one on stand in the first of two lists,
-- and the second one lacks them or differs there.
pub record Differ (x y : List ℕ) (at n : ℕ) : Type 0 where
  pub within : at + n ≤ length x
  pub apart : (p : ℕ) → at ≤ p → p < at + n → p < length y → slice_index x p ≢ slice_index y p

-- a piece of this list, from this place on
abbrev pub IsPieceOf : List ℕ → ℕ → List ℕ → Type 0
IsPieceOf l at piece = piece ≡ take (length piece) (drop at l)

-- a piece of a list ends before the other one's only where the list does
abbrev pub EndsWith : List ℕ → ℕ → List ℕ → List ℕ → Type 0
EndsWith l at piece other = length piece < length other → length l ≤ at + length piece

-- one call was made of a disk, which still counts its calls
abbrev pub IsOneCall : DiskState → DiskState → Type 0
IsOneCall old new = (old.calls + 1 < last_count) × (new.calls ≡ old.calls + 1)

-- Two copies that are alike and obey the model: all that mixes what a crash may leave of either
-- is what it may leave of the mirror.
abbrev pub LeavesAllMixes : {D : Type 0} {g : _} (state : D → DiskState) → Mirror D g → Type 0
LeavesAllMixes state m =
    m.gone ≡ Neither → (state m.first).obeys → (state m.second).obeys → (x y w z : List ℕ)
    → LeftOfEither (state m.first) (state m.second) x → LeftOfEither (state m.first) (state m.second) y
    → LeftOfEither (state m.first) (state m.second) w → IsMixed x y w z → MayLeave (known_mirror state m) z
