-- What stands of a mirrored node's disks between two processes is what the one before left.
use Rattle.std.proofs.Common.{◌≡◌, ◌⊎◌, ◌<◌, inl, inr, ⊎_elim, ℕ, List, [], ◌∷◌, Option, refl, sym, subst, arith}
use Rattle.op_outside.specs.declared.disk.Disk.{Ghosts}
use Rattle.op_outside.specs.Pendings.{IsMixed}
use Rattle.op_outside.specs.Disks.{DiskState, MayLeave, TornOf}
use Rattle.op_outside.specs.Disks.Edit.{Nothing}
use Rattle.op_outside.proofs.Runs.{before-refl, now_torn}
use Rattle.op_mirror.specs.Copies.{mirrored}
use Rattle.op_mirror.specs.Crashes.{IsOneCall, LeavesAllMixes, LeftOfEither, MixOf}
use Rattle.op_mirror.specs.Mirrors.{known_mirror}
use Rattle.op_mirror.specs.Opens.{LeavesBoth, RefusedFor, RoseAt}
use Rattle.op_mirror.specs.Starts.{GoesOnFrom, LeftWhile}
use Rattle.op_mirror.specs.declared.gone.Gone.{Gone}
use Rattle.op_mirror.specs.declared.gone.Gone.TheVariants.{Neither, First, Second}
use Rattle.op_mirror.specs.declared.mirror.Mirror.{Mirror}
use Rattle.op_mirror.proofs.Starts.{of_either}
use Rattle.op_mirror.specs.declared.opening.OpenCause.{OpenCause}
use Rattle.op_mirror.specs.declared.opening.OpenCause.TheVariants as cause
use Rattle.op_store.specs.Stored.{disks_with}
use Rattle.op_setup.specs.declared.config.Settings.{Settings}
use Rattle.op_serving.specs.declared.mark.Mark.{Mark}
use Rattle.op_status.specs.declared.status.Status.{Status}
use Rattle.op_cluster_laws.specs.Traces.{Lived}
use Rattle.op_serve.specs.Between.{AllObey, FailsAgain, GivesOnly, HasBoth, HoldLeftOf, LeavesNext, not_begun, has_ended, LivingGive, OpeningLeft, OpensLeftOf, PassesOn, StandAfter, StaysOut}
use Rattle.op_serve.specs.Lives.{Leaves}
use Rattle.op_serve.specs.Mirrored.{AreKept, Environment, EndsMirrored, EndsOverMirrors, first_refused, second_refused, are_open}
use Rattle.op_serve.specs.declared.node_disks.NodeDisks.{NodeDisks}

-- ---- what an opening of two copies leaves, at some moment or in the end

-- each image is one of these, or has P
abbrev Among : (was P now : List ℕ → Type 0) → Type 0
Among was P now = (x : List ℕ) → now x → was x ⊎ P x

-- what it leaves of the first one has P, and of the second one Q
record LeavesSo (a b a' b' : DiskState) (P Q : List ℕ → Type 0) : Type 0 where
  pub first : a.obeys → Among (MayLeave a) (MayLeave a) P
  pub second : a.obeys → b.obeys → Among (MayLeave b) (MixOf a.content b.content b) Q
  pub alone : a.obeys → b.obeys → IsOneCall a a' → Among (MayLeave b) (TornOf Nothing (MayLeave b)) Q

module _ (a b a' b' : DiskState) (leaves : LeavesBoth a b a' b') where
  at_some_moment : LeavesSo a b a' b' (LeftWhile a a') (LeftWhile b b')
  at_some_moment = record {
    first = λ oa x left. (leaves.first oa).each a.moment x (before-refl a.moment) left;
    second = λ oa ob x left. (leaves.second oa ob).each b.moment x (before-refl b.moment) left;
    alone = λ oa ob one x left. (leaves.at_once oa ob one).nothing_else b.moment x (before-refl b.moment) left;
  }

  in_the_end : LeavesSo a b a' b' (MayLeave a') (MayLeave b')
  in_the_end = record {
    first = λ oa x left. (leaves.first oa).now x left;
    second = λ oa ob x left. (leaves.second oa ob).now x left;
    alone = λ oa ob one x left. inr (now_torn Nothing b b' (leaves.at_once oa ob one) x left);
  }

-- ---- of copies that live

-- what is left of them has K
abbrev LivingLeave : Gone → (P Q K : List ℕ → Type 0) → Type 0
LivingLeave Neither P Q K = ((x : List ℕ) → P x → K x) × ((x : List ℕ) → Q x → K x)
LivingLeave First P Q K = (x : List ℕ) → Q x → K x
LivingLeave Second P Q K = (x : List ℕ) → P x → K x

-- all that mixes what has K has it
abbrev IsMixing : (List ℕ → Type 0) → Type 0
IsMixing K = (x y w z : List ℕ) → K x → K y → K w → IsMixed x y w z → K z

module _ (K : List ℕ → Type 0) (a b a' b' : DiskState) (P Q : List ℕ → Type 0) (so : LeavesSo a b a' b' P Q) where
  of_first : GivesOnly K a → (x : List ℕ) → P x → K x
  of_first gives x left = ⊎_elim (λ was. gives.leaves x was) (λ was. gives.leaves x was) (so.first gives.obeys x left)

  of_second : IsMixing K → GivesOnly K a → GivesOnly K b → (x : List ℕ) → Q x → K x
  of_second mixing one two x left = ⊎_elim
      (λ was. two.leaves x was)
      (λ mix. mixing a.content b.content mix.0 x one.reads two.reads (two.leaves mix.0 mix.1) mix.2)
      (so.second one.obeys two.obeys x left)

  of_second_alone : a.obeys → IsOneCall a a' → GivesOnly K b → (x : List ℕ) → Q x → K x
  of_second_alone oa one gives x left = ⊎_elim
      (λ was. gives.leaves x was)
      (λ torn. subst K (sym torn.2) (gives.leaves torn.0 torn.1))
      (so.alone oa gives.obeys one x left)

  living : (out : Gone) → (out ≡ Neither → IsMixing K) → LivingGive out K K a b → FailsAgain out a b a' b' → LivingLeave out P Q K
  living Neither mixing gives again = (of_first gives.0, of_second (mixing refl) gives.0 gives.1)
  living First mixing gives again = of_second_alone again.0 again.1 gives
  living Second mixing gives again = of_first gives

gives_too : (P K : List ℕ → Type 0) (d : DiskState) → ((x : List ℕ) → P x → K x) → GivesOnly P d → GivesOnly K d
gives_too P K d has gives = record { obeys = gives.obeys; reads = has d.content gives.reads; leaves = λ x left. has x (gives.leaves x left) }

-- copies that are not called
uncalled : (K : List ℕ → Type 0) (a b : DiskState) (out : Gone) → LivingGive out K K a b → LivingLeave out (MayLeave a) (MayLeave b) K
uncalled K a b Neither gives = (gives.0.leaves, gives.1.leaves)
uncalled K a b First gives = gives.leaves
uncalled K a b Second gives = gives.leaves

-- copies that live still
still_give : (P Q K : List ℕ → Type 0) (u v : DiskState) (out next : Gone) → StaysOut out next → LivingLeave out P Q K → LivingGive next P Q u v → LivingGive next K K u v
still_give P Q K u v Neither Neither stays leave gives = (gives_too P K u leave.0 gives.0, gives_too Q K v leave.1 gives.1)
still_give P Q K u v Neither First stays leave gives = gives_too Q K v leave.1 gives
still_give P Q K u v Neither Second stays leave gives = gives_too P K u leave.0 gives
still_give P Q K u v First Neither stays leave gives = absurd (cc)
still_give P Q K u v First First stays leave gives = gives_too Q K v leave gives
still_give P Q K u v First Second stays leave gives = absurd (cc)
still_give P Q K u v Second Neither stays leave gives = absurd (cc)
still_give P Q K u v Second First stays leave gives = absurd (cc)
still_give P Q K u v Second Second stays leave gives = gives_too P K u leave gives

-- where none is out none was
none_before : (out next : Gone) → StaysOut out next → next ≡ Neither → out ≡ Neither
none_before Neither next stays none = refl
none_before First next stays none = absurd (cc)
none_before Second next stays none = absurd (cc)

-- ---- of a mirror

-- a mirror leaves what its copies do that live
of_living : (K : List ℕ → Type 0) (f c : ℕ) (counts : List ℕ) (a b : DiskState) (x : List ℕ) (out gone : Gone) → StaysOut out gone → LivingLeave out (MayLeave a) (MayLeave b) K
    → MayLeave (mirrored gone f c counts a b) x → K x
of_living K f c counts a b x Neither gone stays leave left = ⊎_elim (leave.0 x) (leave.1 x) (of_either gone f c counts a b x left)
of_living K f c counts a b x First Neither stays leave left = absurd (cc)
of_living K f c counts a b x First First stays leave left = ⊎_elim (λ p. let no : 1 ≡ 0 = p.0 in absurd (omega arith)) (λ p. leave x p.1) left
of_living K f c counts a b x First Second stays leave left = absurd (cc)
of_living K f c counts a b x Second Neither stays leave left = absurd (cc)
of_living K f c counts a b x Second First stays leave left = absurd (cc)
of_living K f c counts a b x Second Second stays leave left = ⊎_elim (λ p. leave x p.1) (λ p. let no : 1 ≡ 0 = p.0 in absurd (omega arith)) left

-- and they leave what the mirror does
living_copies : (f c : ℕ) (counts : List ℕ) (a b : DiskState) (gone : Gone) → LivingLeave gone (MayLeave a) (MayLeave b) (MayLeave (mirrored gone f c counts a b))
living_copies f c counts a b Neither = (λ x left. inl (tt, left), λ x left. inr (tt, left))
living_copies f c counts a b First = λ x left. inr (tt, left)
living_copies f c counts a b Second = λ x left. inl (tt, left)

-- a count that rose tells which copy failed in an opening
second_failed : (gone : Gone) (a a' b b' : ℕ) → RoseAt gone a a' b b' → b < b' → gone ≡ Second
second_failed Neither a a' b b' rose more = absurd (omega arith)
second_failed First a a' b b' rose more = absurd (omega arith)
second_failed Second a a' b b' rose more = refl

both_obey : (K : List ℕ → Type 0) (a b a' b' : DiskState) (out : Gone) → LivingGive out K K a b → FailsAgain out a b a' b' → a.obeys × b.obeys
both_obey K a b a' b' Neither gives again = (gives.0.obeys, gives.1.obeys)
both_obey K a b a' b' First gives again = (again.0, gives.obeys)
both_obey K a b a' b' Second gives again = (gives.obeys, again.0)

module _ {D : Type 0} (disk : Ghosts D) where
  -- what a crash may leave of a mirror
  abbrev LeftOf : Mirror D disk → List ℕ → Type 0
  LeftOf m = MayLeave (known_mirror disk.state m)

  mixing : (m : Mirror D disk) → HasBoth disk m → IsMixing (LeftOf m)
  mixing m h x y w z kx ky kw mix = h.mixes h.none_out h.obeys.0 h.obeys.1 x y w z (either x kx) (either y ky) (either w kw) mix
    where
      either : (x : List ℕ) → LeftOf m x → LeftOfEither (disk.state m.first) (disk.state m.second) x
      either x left = of_either m.gone m.faults m.calls (m.first_mark ∷ m.second_mark ∷ []) (disk.state m.first) (disk.state m.second) x left

  -- what an opening leaves that is cut short, refused or done
  pub stands_again : (out next : Gone) (m : Mirror D disk) (a b a' b' u v : D) → HoldLeftOf disk out m a b → FailsAgain out (disk.state a) (disk.state b) (disk.state a') (disk.state b')
      → LeavesBoth (disk.state a) (disk.state b) (disk.state a') (disk.state b') → StaysOut out next → StandAfter disk next a b a' b' u v → HoldLeftOf disk next m u v
  stands_again out next m a b a' b' u v held again leaves stays stand = record {
    living = still_give _ _ (LeftOf m) (disk.state u) (disk.state v) out next stays
        (living (LeftOf m) (disk.state a) (disk.state b) (disk.state a') (disk.state b') _ _ (at_some_moment _ _ _ _ leaves) out (λ none. mixing m (held.both none)) held.living again) stand;
    both = λ none. held.both (none_before out next stays none);
  }

  -- and where there was none
  pub stands_still : (out next : Gone) (m : Mirror D disk) (a b u v : D) → HoldLeftOf disk out m a b → StaysOut out next → StandAfter disk next a b a b u v → HoldLeftOf disk next m u v
  stands_still out next m a b u v held stays stand = record {
    living = still_give _ _ (LeftOf m) (disk.state u) (disk.state v) out next stays (uncalled (LeftOf m) (disk.state a) (disk.state b) out held.living) stand;
    both = λ none. held.both (none_before out next stays none);
  }

  -- what the copies of a mirror leave
  pub passes_on : (m : Mirror D disk) → (known_mirror disk.state m).obeys → LeavesAllMixes disk.state m → PassesOn disk m
  passes_on m obeys mixes out u v stays gives = record {
    living = still_give _ _ _ (disk.state u) (disk.state v) m.gone out stays
        (living_copies m.faults m.calls (m.first_mark ∷ m.second_mark ∷ []) (disk.state m.first) (disk.state m.second) m.gone) gives;
    both = λ none. record { none_out = none_before m.gone out stays none; obeys = obeys; mixes = mixes };
  }

  module _ (out : Gone) (m : Mirror D disk) (a b : D) (n : Mirror D disk) (o : OpensLeftOf disk out m a b n) where
    -- the one that failed for good is out in it
    found_out : (out : Gone) → FailsAgain out (disk.state a) (disk.state b) (disk.state n.first) (disk.state n.second) → StaysOut out n.gone
    found_out Neither again = tt
    found_out First again = o.opened.at_once again.0 again.1
    found_out Second again = second_failed n.gone _ _ _ _ o.opened.rose again.1

    leaves : (x : List ℕ) → MayLeave (known_mirror disk.state n) x → LeftOf m x
    leaves x left =
        of_living (LeftOf m) n.faults n.calls (n.first_mark ∷ n.second_mark ∷ []) (disk.state n.first) (disk.state n.second) x out n.gone (found_out out o.fails_again)
        (living (LeftOf m) (disk.state a) (disk.state b) (disk.state n.first) (disk.state n.second) _ _ (in_the_end _ _ _ _ o.opened.leaves) out (λ none. mixing m (o.held.both none)) o.held.living o.fails_again)
        left

    pub mirror_obeys : (known_mirror disk.state n).obeys
    mirror_obeys = o.opened.model.1 (both_obey (LeftOf m) (disk.state a) (disk.state b) (disk.state n.first) (disk.state n.second) out o.held.living o.fails_again)

    pub goes_on : GoesOnFrom disk.state m n
    goes_on = record { reads = leaves (known_mirror disk.state n).content (o.opened.sound mirror_obeys).image; leaves = leaves }

    pub images : MayLeave (known_mirror disk.state n) (known_mirror disk.state n).content
    images = (o.opened.sound mirror_obeys).image

  -- ---- of a node

  -- what a life left of two mirrors is left of those that are opened over it
  pub lives_on : (l : Lived) (a b c d : Mirror D disk) (first_out second_out : Gone) (disks : NodeDisks D)
      → OpensLeftOf disk first_out a disks.first disks.first_copy c → OpensLeftOf disk second_out b disks.second disks.second_copy d
      → Leaves l (disks_with (known_mirror disk.state) a b) → Leaves l (disks_with (known_mirror disk.state) c d)
  lives_on l a b c d first_out second_out disks one two k =
      let first = goes_on first_out a disks.first disks.first_copy c one in
      let second = goes_on second_out b disks.second disks.second_copy d two in
      record {
        left = k.left;
        is = k.is;
        stored = record {
          obey = (mirror_obeys first_out a disks.first disks.first_copy c one, mirror_obeys second_out b disks.second disks.second_copy d two);
          read = k.stored.left (known_mirror disk.state c).content (known_mirror disk.state d).content first.reads second.reads;
          left = λ x y at_first at_second. k.stored.left x y (first.leaves x at_first) (second.leaves y at_second);
        };
        whole = k.whole;
      }

  refused_left : (c : OpenCause) (a b x y : D) → RefusedFor disk.state a b x y c → OpeningLeft disk a b x y
  refused_left cause.DiskFail a b x y r = inl r.6
  refused_left cause.NoMemory a b x y r = inr r

  left_by : (begins : Option ℕ) (id : ℕ) (o : Settings) (old new : Environment D) (s : Status) (lost : List Mark) → EndsOverMirrors disk begins id o old new s lost → AreKept disk old.disks new.disks → AllObey disk old.disks
      → LeavesNext disk id o old new s lost
  left_by begins id o old new s lost (first_refused c x y r same) kept obey = rw same (not_begun (refused_left c _ _ x y r) (inr (refl, refl)))
  left_by begins id o old new s lost (second_refused c a x y opens r same) kept obey = rw same (not_begun (inl opens.leaves) (refused_left c _ _ x y r))
  left_by begins id o old new s lost (are_open a b c d at_a at_b ends copies marked failed) kept obey =
      let there = subst (AreKept disk old.disks) copies.are kept in
      has_ended a b c d at_a at_b ends copies (passes_on c (there.first.model.1 obey.0) copies.first_mixes) (passes_on d (there.second.model.1 obey.1) copies.second_mixes)

  -- what a process leaves to the next
  pub leaves_next : (begins : Option ℕ) (id : ℕ) (o : Settings) (old new : Environment D) (s : Status) (lost : List Mark) → EndsMirrored disk begins id o old new s lost → AllObey disk old.disks → LeavesNext disk id o old new s lost
  leaves_next begins id o old new s lost e obey = left_by begins id o old new s lost e.ends e.kept obey
