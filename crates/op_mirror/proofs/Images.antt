-- What a crash may leave of a mirror goes on as what it may leave of its copies.
use Rattle.std.proofs.Common.{◌≡◌, ◌≤◌, ◌⊎◌, inl, inr, ⊎_elim, ℕ, Bool, true, false, List, refl, sym, subst, arith, Result}
use Rattle.std.specs.Prelude.{◌↔◌}
use Rattle.op_outside.specs.Pendings.{Pending, IsImage, IsMixed}
use Rattle.op_outside.proofs.Mixing.{mixed_image}
use Rattle.op_outside.specs.Moments.{Moment, Before}
use Rattle.op_outside.specs.Moments.Moment.{At, Both}
use Rattle.op_outside.specs.Disks.{DiskState, MayLeave, Edit, TornOf, GoesOn, Does, IsSound}
use Rattle.op_outside.proofs.Runs.{before-refl}
use Rattle.op_mirror.specs.declared.gone.Gone.{Gone}
use Rattle.op_mirror.specs.declared.gone.Gone.TheVariants.{Neither, First, Second}
use Rattle.op_mirror.specs.Copies.{has_first, has_second, number, FirstCounts, SecondCounts, EitherLeft, read_copy, AreAlike, mirrored}
use Rattle.op_mirror.specs.Tries.{outcome, Tries}

-- ---- one copy
-- a read gives one of its images, and an image now is one since earlier
pub record IsSeen (d : DiskState) : Type 0 where
  pub image : MayLeave d d.content
  pub now_too : (t : Moment) (c : List ℕ) → Before t d.moment → MayLeave d c → d.left_since t c

-- What a copy's images do in a call of the mirror, whether the copy is called or not:
-- only one that counts now is torn.
pub record Went (edit : Edit) (counts : Type 0) (a b : DiskState) : Type 0 where
  pub model : b.obeys ↔ a.obeys
  pub mark : b.mark ≡ a.mark
  pub later : a.obeys → Before a.moment b.moment
  pub nothing_else : a.obeys → (t : Moment) (c : List ℕ) → Before t a.moment → b.left_since t c → a.left_since t c ⊎ (counts × TornOf edit (MayLeave a) c)
  pub keeps : a.obeys → (t : Moment) (c : List ℕ) → Before t a.moment → a.left_since t c → b.left_since t c
  pub seen : a.obeys → IsSeen b

-- one that is called
went_called : {T E : Type 0} (edit : Edit) (counts : Type 0) (a b : DiskState) (r : Result T E) → counts → Does edit a b r → Went edit counts a b
went_called edit counts a b r here d = record {
  model = d.model;
  mark = d.mark;
  later = λ o. (d.goes_on o).later;
  nothing_else = λ o t c le left. ⊎_elim (λ was. inl was) (λ torn. inr (here, torn)) ((d.goes_on o).nothing_else t c le left);
  keeps = λ o. (d.goes_on o).keeps;
  seen = λ o. record { image = (d.goes_on o).image; now_too = (d.goes_on o).now_too };
}

-- one that is left alone
went_nowhere : (edit : Edit) (counts : Type 0) (a : DiskState) → (a.obeys → IsSound a) → Went edit counts a a
went_nowhere edit counts a sound = record {
  model = (λ o. o, λ o. o);
  mark = refl;
  later = λ o. before-refl a.moment;
  nothing_else = λ o t c le left. inl left;
  keeps = λ o t c le left. left;
  seen = λ o. record { image = (sound o).image; now_too = (sound o).now_too };
}

pub went : {D : Type 0} (state : D → DiskState) (edit : Edit) (counts : Type 0) (lives : Bool) (old new : D) (ok : Bool) → Tries state edit lives old new ok → (lives ≡ true → counts) → Went edit counts (state old) (state new)
went state edit counts true old new ok t here = went_called edit counts (state old) (state new) (outcome ok) (here refl) (t.called refl)
went {D} state edit counts false old new ok t here = subst (λ (d : D). Went edit counts (state old) (state d)) (sym (t.out refl).0) (went_nowhere edit counts (state old) (t.sound refl))

-- a copy that is called counts
pub first_counts : (gone : Gone) (is_dead : Bool) → has_first gone is_dead ≡ true → FirstCounts gone (number gone)
first_counts Neither d h = tt
first_counts First d h = absurd (cc)
first_counts Second d h = tt

pub second_counts : (gone : Gone) (is_dead : Bool) → has_second gone is_dead ≡ true → SecondCounts gone (number gone)
second_counts Neither d h = tt
second_counts First d h = tt
second_counts Second d h = absurd (cc)

-- ---- which copy has failed first
-- it stays so, or one fails
pub data Follows : Gone → Gone → Type 0 where
  same : (g : Gone) → Follows g g
  loses : (g : Gone) → Follows Neither g

zero_one : (n : ℕ) → n ≤ 0 → n ≡ 0
zero_one n h = omega arith

one_zero : ◌≡◌ {A = ℕ} 1 0 → ⊥
one_zero e = absurd (omega arith)

number_later : (old new : Gone) → Follows old new → number old ≤ number new
number_later old new (same g) = omega arith
number_later old new (loses g) = omega arith

first_before : (old new : Gone) (n : ℕ) → Follows old new → FirstCounts new n → FirstCounts old n
first_before old new n (same g) h = h
first_before old new n (loses g) h = tt

second_before : (old new : Gone) (n : ℕ) → Follows old new → SecondCounts new n → SecondCounts old n
second_before old new n (same g) h = h
second_before old new n (loses g) h = tt

first_at_zero : (g : Gone) (n : ℕ) → n ≡ 0 → FirstCounts g n
first_at_zero Neither n e = tt
first_at_zero First n e = e
first_at_zero Second n e = tt

second_at_zero : (g : Gone) (n : ℕ) → n ≡ 0 → SecondCounts g n
second_at_zero Neither n e = tt
second_at_zero First n e = tt
second_at_zero Second n e = e

first_after : (old new : Gone) (n : ℕ) → Follows old new → n ≤ number old → FirstCounts old n → FirstCounts new n
first_after old new n (same g) le h = h
first_after old new n (loses g) le h = first_at_zero g n (zero_one n le)

second_after : (old new : Gone) (n : ℕ) → Follows old new → n ≤ number old → SecondCounts old n → SecondCounts new n
second_after old new n (same g) le h = h
second_after old new n (loses g) le h = second_at_zero g n (zero_one n le)

-- a copy that counts now has always counted
first_always : (g : Gone) (n : ℕ) → FirstCounts g (number g) → FirstCounts g n
first_always Neither n h = tt
first_always First n h = absurd (one_zero h)
first_always Second n h = tt

second_always : (g : Gone) (n : ℕ) → SecondCounts g (number g) → SecondCounts g n
second_always Neither n h = tt
second_always First n h = tt
second_always Second n h = absurd (one_zero h)

-- ---- both copies
-- images of a mirror, from those of its copies
module _ (gone : Gone) (f c : ℕ) (counts : List ℕ) (a b : DiskState) (sa : IsSeen a) (sb : IsSeen b) where
  abbrev it : DiskState
  it = mirrored gone f c counts a b

  now_too : (t : Moment) (x : List ℕ) → Before t it.moment → MayLeave it x → it.left_since t x
  now_too (At n) x le left = absurd le
  now_too (Both (Both s r) u) x le left = absurd le.0
  now_too (Both (At n) (At m)) x le left = absurd le.1
  now_too (Both (At n) (Both t u)) x le (inl p) = inl (first_always gone n p.0, sa.now_too t x le.1.0 p.1)
  now_too (Both (At n) (Both t u)) x le (inr p) = inr (second_always gone n p.0, sb.now_too u x le.1.1 p.1)

  pub mirror_is_seen : IsSeen (mirrored gone f c counts a b)
  mirror_is_seen = record { image = read gone; now_too = now_too }
    where
      read : (g : Gone) → EitherLeft g a b (Both (At (number g)) (Both a.moment b.moment)) (read_copy g a b).content
      read Neither = inl (tt, sa.image)
      read First = inr (tt, sb.image)
      read Second = inl (tt, sa.image)

module _ (edit : Edit) (gone next : Gone) (f f' c c' : ℕ) (counts : List ℕ) (a a' b b' : DiskState) (follows : Follows gone next)
    (wa : Went edit (FirstCounts gone (number gone)) a a') (wb : Went edit (SecondCounts gone (number gone)) b b') (oa : a.obeys) (ob : b.obeys) where
  abbrev was : DiskState
  was = mirrored gone f c counts a b

  abbrev is : DiskState
  is = mirrored next f' c' counts a' b'

  else_ : (t : Moment) (x : List ℕ) → Before t was.moment → is.left_since t x → was.left_since t x ⊎ TornOf edit (MayLeave was) x
  else_ (At n) x le left = absurd le
  else_ (Both (Both s r) u) x le left = absurd le.0
  else_ (Both (At n) (At m)) x le left = absurd le.1
  else_ (Both (At n) (Both t u)) x le (inl p) =
      ⊎_elim (λ past. inl (inl (first_before gone next n follows p.0, past))) (λ torn. inr (torn.1.0, inl (torn.0, torn.1.1), torn.1.2)) (wa.nothing_else oa t x le.1.0 p.1)
  else_ (Both (At n) (Both t u)) x le (inr p) =
      ⊎_elim (λ past. inl (inr (second_before gone next n follows p.0, past))) (λ torn. inr (torn.1.0, inr (torn.0, torn.1.1), torn.1.2)) (wb.nothing_else ob u x le.1.1 p.1)

  keeps : (t : Moment) (x : List ℕ) → Before t was.moment → was.left_since t x → is.left_since t x
  keeps (At n) x le left = absurd le
  keeps (Both (Both s r) u) x le left = absurd le.0
  keeps (Both (At n) (At m)) x le left = absurd le.1
  keeps (Both (At n) (Both t u)) x le (inl p) = inl (first_after gone next n follows le.0 p.0, wa.keeps oa t x le.1.0 p.1)
  keeps (Both (At n) (Both t u)) x le (inr p) = inr (second_after gone next n follows le.0 p.0, wb.keeps ob u x le.1.1 p.1)

  pub goes_on : GoesOn edit (mirrored gone f c counts a b) (mirrored next f' c' counts a' b')
  goes_on =
      let s : IsSeen (mirrored next f' c' counts a' b') = mirror_is_seen next f' c' counts a' b' (wa.seen oa) (wb.seen ob) in
      record {
        later = (number_later gone next follows, (wa.later oa, wb.later ob));
        nothing_else = else_;
        keeps = keeps;
        now_too = s.now_too;
        image = s.image;
      }

-- ---- a mirror at a moment
module _ (a b : DiskState) (sa : IsSound a) (sb : IsSound b) (oa : a.obeys) (ob : b.obeys) where
  -- what a crash leaves of a mirror is what it leaves of the copy that is read
  images : (gone : Gone) → AreAlike gone a b → (x : List ℕ) → EitherLeft gone a b (Both (At (number gone)) (Both a.moment b.moment)) x ↔ IsImage (read_copy gone a b).pending x
  images Neither alike x = (
    λ left. ⊎_elim (λ p. (sa.images x).0 p.1) (λ p. subst (λ (s : Pending). IsImage s x) (sym (alike refl oa ob).pending) ((sb.images x).0 p.1)) left,
    λ im. inl (tt, (sa.images x).1 im),
  )
  images First alike x = (λ left. ⊎_elim (λ p. absurd (one_zero p.0)) (λ p. (sb.images x).0 p.1) left, λ im. inr (tt, (sb.images x).1 im))
  images Second alike x = (λ left. ⊎_elim (λ p. (sa.images x).0 p.1) (λ p. absurd (one_zero p.0)) left, λ im. inl (tt, (sa.images x).1 im))

  pub mirror_is_sound : (gone : Gone) (f c : ℕ) (counts : List ℕ) → AreAlike gone a b → IsSound (mirrored gone f c counts a b)
  mirror_is_sound gone f c counts alike =
      let s : IsSeen (mirrored gone f c counts a b) =
      mirror_is_seen gone f c counts a b (record { image = sa.image; now_too = sa.now_too }) (record { image = sb.image; now_too = sb.now_too }) in
      record { image = s.image; images = images gone alike; now_too = s.now_too }

  -- while none is out, an image of either copy is one of what is pending of the copy that is read
  image_of_read : (gone : Gone) → gone ≡ Neither → AreAlike gone a b → (x : List ℕ) → MayLeave a x ⊎ MayLeave b x → IsImage (read_copy gone a b).pending x
  image_of_read Neither none alike x left =
      ⊎_elim (λ p. (sa.images x).0 p) (λ p. subst (λ (s : Pending). IsImage s x) (sym (alike refl oa ob).pending) ((sb.images x).0 p)) left
  image_of_read First none alike x left = absurd (cc)
  image_of_read Second none alike x left = absurd (cc)

  pub all_mixes : (gone : Gone) (f c : ℕ) (counts : List ℕ) → AreAlike gone a b → gone ≡ Neither → (x y w z : List ℕ)
      → MayLeave a x ⊎ MayLeave b x → MayLeave a y ⊎ MayLeave b y → MayLeave a w ⊎ MayLeave b w → IsMixed x y w z → MayLeave (mirrored gone f c counts a b) z
  all_mixes gone f c counts alike none x y w z lx ly lw mix =
      let image = image_of_read gone none alike in
      ((mirror_is_sound gone f c counts alike).images z).1 (mixed_image (read_copy gone a b).pending x y w z (image x lx) (image y ly) (image w lw) mix)
