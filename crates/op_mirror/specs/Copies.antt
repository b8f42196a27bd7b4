-- What two copies mean as one disk.
use Rattle.std.specs.Prelude.{◌≡◌, ◌⊎◌, ℕ, List, ◌∷◌, ◌++◌, length, Bool, true, false, not, ◌&&◌}
use Rattle.op_outside.specs.Disks.{DiskState}
use Rattle.op_outside.specs.Moments.{Moment}
use Rattle.op_outside.specs.Moments.Moment.{At, Both}
use Rattle.op_mirror.specs.declared.gone.Gone.{Gone}
use Rattle.op_mirror.specs.declared.gone.Gone.TheVariants.{Neither, First, Second}

-- ---- which copies are called

-- the first copy is called, where both have failed or not
abbrev pub has_first : Gone → Bool → Bool
has_first Neither is_dead = not is_dead
has_first First is_dead = false
has_first Second is_dead = not is_dead

-- and the second one
abbrev pub has_second : Gone → Bool → Bool
has_second Neither is_dead = not is_dead
has_second First is_dead = not is_dead
has_second Second is_dead = false

-- the second one is asked, when a call that changes nothing was done on the first one, or wasn't
abbrev pub asks_second : Gone → Bool → Bool → Bool
asks_second gone is_dead first = not first && has_second gone is_dead

-- which copy has failed first, when a call was done on these
abbrev pub gone_after : Gone → Bool → Bool → Gone
gone_after Neither false second = First
gone_after Neither true false = Second
gone_after Neither true true = Neither
gone_after First first second = First
gone_after Second first second = Second

-- the same, when the second one was asked only where the first one failed
abbrev pub gone_after_read : Gone → Bool → Gone
gone_after_read Neither false = First
gone_after_read Neither true = Neither
gone_after_read First first = First
gone_after_read Second first = Second

-- whether the call was done on the copy that is read then
abbrev pub is_read_ok : Gone → Bool → Bool → Bool
is_read_ok Neither first second = first
is_read_ok First first second = second
is_read_ok Second first second = first

-- how many copies live
abbrev pub living_of : Gone → Bool → ℕ
living_of Neither true = 0
living_of Neither false = 2
living_of First true = 0
living_of First false = 1
living_of Second true = 0
living_of Second false = 1

-- copies that read the same, and of which the same is pending
pub record IsAlike (a b : DiskState) : Type 0 where
  pub content : a.content ≡ b.content
  pub pending : a.pending ≡ b.pending

-- while none is out the copies are alike
abbrev pub AreAlike : Gone → DiskState → DiskState → Type 0
AreAlike gone a b = gone ≡ Neither → a.obeys → b.obeys → IsAlike a b

-- ---- images

-- before a copy failed, and after
abbrev pub number : Gone → ℕ
number Neither = 0
number First = 1
number Second = 1

-- a crash at that moment might leave what the first copy holds
abbrev pub FirstCounts : Gone → ℕ → Type 0
FirstCounts Neither n = Unit {0}
FirstCounts First n = n ≡ 0
FirstCounts Second n = Unit {0}

-- and what the second one holds
abbrev pub SecondCounts : Gone → ℕ → Type 0
SecondCounts Neither n = Unit {0}
SecondCounts First n = Unit {0}
SecondCounts Second n = n ≡ 0

-- what a crash since that moment may have left of either copy
abbrev pub EitherLeft : Gone → DiskState → DiskState → Moment → List ℕ → Type 0
EitherLeft gone a b (Both (At n) (Both t u)) c =
    (FirstCounts gone n × a.left_since t c) ⊎ (SecondCounts gone n × b.left_since u c)
EitherLeft gone a b (Both (At n) (At m)) c = ⊥
EitherLeft gone a b (Both (Both s t) u) c = ⊥
EitherLeft gone a b (At n) c = ⊥

-- the second copy is read, since the first one failed first
abbrev pub reads_second : Gone → Bool
reads_second Neither = false
reads_second First = true
reads_second Second = false

-- the copy that is read
abbrev pub read_copy : Gone → DiskState → DiskState → DiskState
read_copy Neither a b = a
read_copy First a b = b
read_copy Second a b = a

-- A mirror's mark: the two counts that its copies had when it was opened, and then the mark of each copy, of
-- which the first one's length tells where it ends.
abbrev pub mark_of : List ℕ → List ℕ → List ℕ → List ℕ
mark_of counts first second = counts ++ length first ∷ first ++ second

-- Two copies as one disk. Its images are those of the copies that have not failed or, where both have,
-- of the one that failed later; and that one is read.
abbrev pub mirrored : Gone → ℕ → ℕ → List ℕ → DiskState → DiskState → DiskState
mirrored gone faults calls counts a b =
    record {
      obeys = a.obeys × b.obeys;
      content = (read_copy gone a b).content;
      pending = (read_copy gone a b).pending;
      moment = Both (At (number gone)) (Both a.moment b.moment);
      left_since = EitherLeft gone a b;
      faults = faults;
      calls = calls;
      mark = mark_of counts a.mark b.mark;
    }
