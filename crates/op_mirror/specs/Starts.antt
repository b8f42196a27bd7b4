-- Copies that a crash left of a mirror, and what an opening of them leaves.
use Rattle.std.specs.Prelude.{◌≡◌, ◌⊎◌, ℕ, List}
use Rattle.op_outside.specs.Pendings.{IsMixed}
use Rattle.op_outside.specs.Disks.{DiskState, MayLeave, IsAtRest}
use Rattle.op_mirror.specs.declared.gone.Gone.TheVariants.{Neither}
use Rattle.op_mirror.specs.declared.mirror.Mirror.{Mirror}
use Rattle.op_mirror.specs.Crashes.{LeavesAllMixes}
use Rattle.op_mirror.specs.Mirrors.{known_mirror}

-- a disk at rest with what a crash may have left of a mirror
pub record HoldsLeft {D : Type 0} {g : _} (state : D → DiskState) (m : Mirror D g) (d : D) : Type 0 where
  pub rests : IsAtRest (state d)
  pub left : MayLeave (known_mirror state m) (state d).content

-- two of them, of a mirror of which no copy was out
pub record HoldLeft {D : Type 0} {g : _} (state : D → DiskState) (m : Mirror D g) (a b : D) : Type 0 where
  pub none_out : m.gone ≡ Neither
  pub obeys : (known_mirror state m).obeys
  pub mixes : LeavesAllMixes state m
  pub first : HoldsLeft state m a
  pub second : HoldsLeft state m b

-- a crash in calls of this disk, which became that, may leave it
abbrev pub LeftWhile : (old new : DiskState) → List ℕ → Type 0
LeftWhile old new x = new.left_since old.moment x

-- a crash in calls of these two disks may leave it of one of them
abbrev pub LeftOfBothWhile : (a b a' b' : DiskState) → List ℕ → Type 0
LeftOfBothWhile a b a' b' x = LeftWhile a a' x ⊎ LeftWhile b b' x

-- all that mixes what has P is what a crash may have left of the mirror
abbrev pub MixesAreLeft : {D : Type 0} {g : _} (state : D → DiskState) → Mirror D g
    → (List ℕ → Type 0) → Type 0
MixesAreLeft state m P =
    (x y w z : List ℕ) → P x → P y → P w → IsMixed x y w z → MayLeave (known_mirror state m) z

-- what has P is what a crash may have left of the mirror
abbrev pub AreLeft : {D : Type 0} {g : _} (state : D → DiskState) → Mirror D g → (List ℕ → Type 0) → Type 0
AreLeft state m P = (x : List ℕ) → P x → MayLeave (known_mirror state m) x

-- A mirror reads what a crash may have left of an earlier one, and a crash leaves no more of it.
pub record GoesOnFrom {D : Type 0} {g : _} (state : D → DiskState) (old new : Mirror D g) : Type 0 where
  pub reads : MayLeave (known_mirror state old) (known_mirror state new).content
  pub leaves : AreLeft state old (MayLeave (known_mirror state new))
