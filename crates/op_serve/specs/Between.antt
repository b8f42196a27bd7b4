-- What stands of a mirrored node's disks between two processes, where one copy of an area may have failed for
-- good.
use Rattle.std.specs.Prelude.{◌≡◌, ◌⊎◌, ◌<◌, ℕ, List}
use Rattle.op_outside.specs.declared.disk.Disk.{Ghosts}
use Rattle.op_outside.specs.Disks.{DiskState, MayLeave}
use Rattle.op_store.specs.Stored.{Obey, disks_with}
use Rattle.op_mirror.specs.Crashes.{IsOneCall, LeavesAllMixes}
use Rattle.op_mirror.specs.Mirrors.{known_mirror}
use Rattle.op_mirror.specs.Opens.{LeavesBoth, Opens}
use Rattle.op_mirror.specs.Starts.{LeftWhile}
use Rattle.op_mirror.specs.declared.gone.Gone.{Gone}
use Rattle.op_mirror.specs.declared.gone.Gone.TheVariants.{Neither, First, Second}
use Rattle.op_mirror.specs.declared.mirror.Mirror.{Mirror}
use Rattle.op_setup.specs.declared.config.Settings.{Settings}
use Rattle.op_serving.specs.declared.mark.Mark.{Mark}
use Rattle.op_status.specs.declared.status.Status.{Status}
use Rattle.op_serve.specs.Mirrored.{AreCopies, Environment, over}
use Rattle.op_serve.specs.Nodes.{Ends}
use Rattle.op_serve.specs.declared.node_disks.NodeDisks.{NodeDisks}

-- ---- which copy of an area has failed for good: neither, the first one or the second one

-- the same one next, or one of two that lived
abbrev pub StaysOut : Gone → Gone → Type 0
StaysOut Neither next = Unit {0}
StaysOut First next = next ≡ First
StaysOut Second next = next ≡ Second

-- What is granted of the one that has: it fails every call, over starts too. So an opening of these two calls
-- the first one once, or fails in a call of the second one. Else nothing is asked of it but that it counts as
-- a disk that obeys the model, which says of a call that fails nothing that anyone reads.
abbrev pub FailsAgain : Gone → (a b a' b' : DiskState) → Type 0
FailsAgain Neither a b a' b' = Unit {0}
FailsAgain First a b a' b' = a.obeys × IsOneCall a a'
FailsAgain Second a b a' b' = b.obeys × (b.faults < b'.faults)

-- ---- what stands of an area's copies

-- this disk obeys the model, and what a read of it gives has P, and so has what a crash leaves of it
pub record GivesOnly (P : List ℕ → Type 0) (d : DiskState) : Type 0 where
  pub obeys : d.obeys
  pub reads : P d.content
  pub leaves : (x : List ℕ) → MayLeave d x → P x

-- each of two copies that has not failed for good gives nothing else, the first one P and the second one Q
abbrev pub LivingGive : Gone → (P Q : List ℕ → Type 0) → (a b : DiskState) → Type 0
LivingGive Neither P Q a b = GivesOnly P a × GivesOnly Q b
LivingGive First P Q a b = GivesOnly Q b
LivingGive Second P Q a b = GivesOnly P a

module _ {D : Type 0} (disk : Ghosts D) where
  -- no copy of this mirror is out, both obey the model, and what mixes what a crash leaves of them is what a
  -- crash may leave of the mirror
  pub record HasBoth (m : Mirror D disk) : Type 0 where
    pub none_out : m.gone ≡ Neither
    pub obeys : (known_mirror disk.state m).obeys
    pub mixes : LeavesAllMixes disk.state m

  -- Of these two disks each that has not failed for good gives what a crash may have left of this mirror, of
  -- which no copy was out if neither has.
  pub record HoldLeftOf (out : Gone) (m : Mirror D disk) (first second : D) : Type 0 where
    pub living : LivingGive out (MayLeave (known_mirror disk.state m)) (MayLeave (known_mirror disk.state m))
        (disk.state first) (disk.state second)
    pub both : out ≡ Neither → HasBoth m

  -- such disks are opened as the mirror n
  pub record OpensLeftOf (out : Gone) (m : Mirror D disk) (first second : D)
      (n : Mirror D disk) : Type 0 where
    pub held : HoldLeftOf out m first second
    pub opened : Opens disk.state first second n
    pub fails_again : FailsAgain out (disk.state first) (disk.state second)
        (disk.state n.first) (disk.state n.second)

  -- These stand of two copies after calls that made them the second pair, or after a crash in these calls:
  -- each that has not failed for good gives what a crash in them may have left of it.
  abbrev pub StandAfter : Gone → (a b a' b' now_first now_second : D) → Type 0
  StandAfter out a b a' b' now_first now_second =
      LivingGive out (LeftWhile (disk.state a) (disk.state a')) (LeftWhile (disk.state b) (disk.state b'))
      (disk.state now_first) (disk.state now_second)

  -- What stands of this mirror's copies, as they are or after a crash, is left of the mirror, whichever copy
  -- has failed for good: one that was out has.
  abbrev pub PassesOn : Mirror D disk → Type 0
  PassesOn m = (out : Gone) (first second : D) → StaysOut m.gone out
      → LivingGive out (MayLeave (disk.state m.first)) (MayLeave (disk.state m.second))
      (disk.state first) (disk.state second)
      → HoldLeftOf out m first second

  -- an opening made the second pair of two copies, or they were not called
  abbrev pub OpeningLeft : (a b a' b' : D) → Type 0
  OpeningLeft a b a' b' = LeavesBoth (disk.state a) (disk.state b) (disk.state a') (disk.state b')
      ⊎ ((a' ≡ a) × (b' ≡ b))

  -- What a mirrored process leaves that ends: of both areas what openings do, and no node was begun; or the
  -- copies of the mirrors over which a node ended, which pass on what they hold.
  pub data LeavesNext (id : ℕ) (o : Settings) (old new : Environment D) (s : Status)
      (lost : List Mark) : Type 0 where
    not_begun : OpeningLeft old.disks.first old.disks.first_copy new.disks.first new.disks.first_copy
        → OpeningLeft old.disks.second old.disks.second_copy new.disks.second new.disks.second_copy
        → LeavesNext id o old new s lost
    has_ended : (a b c d : Mirror D disk)
        → Opens disk.state old.disks.first old.disks.first_copy a
        → Opens disk.state old.disks.second old.disks.second_copy b
        → Ends (known_mirror disk.state) id o (over old a b) (over new c d) s lost
        → AreCopies disk c d new.disks → PassesOn c → PassesOn d → LeavesNext id o old new s lost

  -- each of four disks obeys the model
  abbrev pub AllObey : NodeDisks D → Type 0
  AllObey disks = Obey (disks_with disk.state disks.first disks.first_copy)
      × Obey (disks_with disk.state disks.second disks.second_copy)
