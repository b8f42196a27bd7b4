-- How a run of calls goes on, and what a crash may leave of it.
use Rattle.std.proofs.Common.{inl, inr, ⊎_elim, ℕ, List, refl, sym, ◌∙◌, subst, arith, Result, Ok, Err}
use Rattle.std.specs.Prelude.{◌↔◌, IsErr}
use Rattle.op_outside.specs.Causes.{FaultsRose}
use Rattle.op_outside.specs.Moments.{Moment, Before}
use Rattle.op_outside.specs.Moments.Moment.{At, Both}
use Rattle.op_outside.specs.Disks.{DiskState, MayLeave, Only, IsAtRest, IsSynced, Edit, Edits, Tears, TornOf, GoesOn, Does, LeavesOnly}
use Rattle.op_outside.specs.Disks.Edit.{Nothing, Write, Cut}

pub before-refl : (t : Moment) → Before t t
before-refl (At n) = omega arith
before-refl (Both a b) = (before-refl a, before-refl b)

pub before-trans : (s t u : Moment) → Before s t → Before t u → Before s u
before-trans (At l) (At m) (At n) p q = omega arith
before-trans (At l) (At m) (Both a b) p q = absurd q
before-trans (At l) (Both a b) u p q = absurd p
before-trans (Both a b) (At n) u p q = absurd p
before-trans (Both a b) (Both c d) (At n) p q = absurd q
before-trans (Both a b) (Both c d) (Both e f) p q = (before-trans a c e p.0 q.0, before-trans b d f p.1 q.1)

-- a crash may leave an image as it was
pub tears-refl : (edit : Edit) (c : List ℕ) → Tears edit c c
tears-refl Nothing c = refl
tears-refl (Write at bytes) c = record { before = refl; after = refl; no_shorter = omega arith; no_longer = omega arith }
tears-refl (Cut n) c = record { no_shorter = omega arith; no_longer = omega arith; prefix = refl }

-- an image of now is one of before, torn by the call
pub now_torn : (edit : Edit) (old new : DiskState) → GoesOn edit old new → (c : List ℕ) → MayLeave new c → TornOf edit (MayLeave old) c
now_torn edit old new g c left =
    ⊎_elim (λ was. (c, was, tears-refl edit c)) (λ torn. torn) (g.nothing_else old.moment c (before-refl old.moment) (g.now_too old.moment c g.later left))

-- a call, and one after it that changes nothing
module _ (edit : Edit) (old mid new : DiskState) where
  from_mid : GoesOn edit old mid → (c : List ℕ) → TornOf Nothing (MayLeave mid) c → TornOf edit (MayLeave old) c
  from_mid one c (d, left, same) = subst (TornOf edit (MayLeave old)) (sym same) (now_torn edit old mid one d left)

  pub goes_on_still : GoesOn edit old mid → GoesOn Nothing mid new → GoesOn edit old new
  goes_on_still one two = record {
    later = before-trans old.moment mid.moment new.moment one.later two.later;
    nothing_else = λ t c le left. ⊎_elim (λ was. one.nothing_else t c le was) (λ torn. inr (from_mid one c torn))
        (two.nothing_else t c (before-trans t old.moment mid.moment le one.later) left);
    keeps = λ t c le left. two.keeps t c (before-trans t old.moment mid.moment le one.later) (one.keeps t c le left);
    now_too = two.now_too;
    image = two.image;
  }

-- ---- what a crash leaves

-- before the first call
pub started : (P : List ℕ → Type 0) (d : DiskState) → LeavesOnly P d d
started P d = record { later = before-refl d.moment; each = λ t c le left. inl left; now = λ c left. inl left }

-- one call more
pub called : (P : List ℕ → Type 0) (edit : Edit) (old mid new : DiskState) → LeavesOnly P old mid → GoesOn edit mid new
    → ((c : List ℕ) → TornOf edit (MayLeave mid) c → P c) → LeavesOnly P old new
called P edit old mid new so_far g has = record {
  later = before-trans old.moment mid.moment new.moment so_far.later g.later;
  each = λ t c le left. ⊎_elim (λ past. so_far.each t c le past) (λ torn. inr (has c torn))
      (g.nothing_else t c (before-trans t old.moment mid.moment le so_far.later) left);
  now = λ c left. inr (has c (now_torn edit mid new g c left));
}

-- a call of a disk that is synced
pub one_call : (P : List ℕ → Type 0) (edit : Edit) (old new : DiskState) → Only old.content (MayLeave old) → GoesOn edit old new
    → ((c : List ℕ) → Tears edit old.content c → P c) → LeavesOnly P old new
one_call P edit old new only g has =
    called P edit old old new (started P old) g (λ c torn. has c (subst (λ (l : List ℕ). Tears edit l c) (only.no_other torn.0 torn.1) torn.2))

-- one run after another
pub joined : (P Q R : List ℕ → Type 0) (old mid new : DiskState) → LeavesOnly P old mid → LeavesOnly Q mid new
    → ((c : List ℕ) → P c → R c) → ((c : List ℕ) → Q c → R c) → LeavesOnly R old new
joined P Q R old mid new one two p q = record {
  later = before-trans old.moment mid.moment new.moment one.later two.later;
  each = λ t c le left. ⊎_elim
      (λ past. ⊎_elim (λ was. inl was) (λ has. inr (p c has)) (one.each t c le past))
      (λ has. inr (q c has))
      (two.each t c (before-trans t old.moment mid.moment le one.later) left);
  now = λ c left. ⊎_elim
      (λ past. ⊎_elim (λ was. inl was) (λ has. inr (p c has)) (one.now c past))
      (λ has. inr (q c has))
      (two.now c left);
}

pub weaker : (P Q : List ℕ → Type 0) (old new : DiskState) → LeavesOnly P old new → ((c : List ℕ) → P c → Q c) → LeavesOnly Q old new
weaker P Q old new leaves has = record {
  later = leaves.later;
  each = λ t c le left. ⊎_elim (λ was. inl was) (λ p. inr (has c p)) (leaves.each t c le left);
  now = λ c left. ⊎_elim (λ was. inl was) (λ p. inr (has c p)) (leaves.now c left);
}

-- of calls that change nothing a crash leaves what it might have left before
pub still_leaves : (old new : DiskState) → GoesOn Nothing old new → LeavesOnly (MayLeave old) old new
still_leaves old new g = called (MayLeave old) Nothing old old new (started (MayLeave old) old) g (λ c torn. subst (MayLeave old) (sym torn.2) torn.1)

-- ---- a call that was done, and one after it that changes nothing

module _ {T E U F : Type 0} (edit : Edit) (old mid new : DiskState) (x : T) (one : Does {T = T} {E = E} edit old mid (Ok x)) where
  still : (r : Result U F) → Does Nothing mid new r → old.obeys → GoesOn edit old new
  still r two f = goes_on_still edit old mid new (one.goes_on f) (two.goes_on (one.model.1 f))

  model : (r : Result U F) → Does Nothing mid new r → new.obeys ↔ old.obeys
  model r two = (λ f. one.model.0 (two.model.0 f), λ f. two.model.1 (one.model.1 f))

  pub done_still : {V G : Type 0} (y : U) (z : V) → Does {T = U} {E = F} Nothing mid new (Ok y) → Does {T = V} {E = G} edit old new (Ok z)
  done_still y z two = record {
    cause = record { later = omega (arith, one.cause.ok, two.cause.ok); ok = two.cause.ok ∙ one.cause.ok; err = λ e. absurd (cc) };
    model = model (Ok y) two;
    mark = two.mark ∙ one.mark;
    done = λ f. subst (λ (l : List ℕ). Edits edit old.content l) (sym (two.done (one.model.1 f))) (one.done f);
    goes_on = still (Ok y) two;
  }

  pub failed_still : {V G : Type 0} (r : Result U F) (e : G) → IsErr r → Does Nothing mid new r → Does {T = V} {E = G} edit old new (Err e)
  failed_still r e err two = record {
    cause = record { later = omega (arith, one.cause.ok, two.cause.later); ok = tt; err = λ _. subst (λ (n : ℕ). FaultsRose n new.faults) one.cause.ok (two.cause.err err) };
    model = model r two;
    mark = two.mark ∙ one.mark;
    done = λ f. tt;
    goes_on = still r two;
  }

-- a disk that is synced stays so in a call that changes nothing
module _ {T E : Type 0} (mid new : DiskState) (x : T) (does : Does {T = T} {E = E} Nothing mid new (Ok x)) where
  pub synced_still : IsSynced mid → IsSynced new
  synced_still synced f =
      let before = does.model.0 f in
      let same = does.done before in
      record {
        no_other = λ c left. let from = now_torn Nothing mid new (does.goes_on before) c left in from.2 ∙ (synced before).no_other from.0 from.1 ∙ sym same;
        itself = (does.goes_on before).image;
      }

  pub rests_still : IsAtRest mid → IsAtRest new
  rests_still rests = let obeys = does.model.1 rests.obeys in record { obeys = obeys; only = synced_still (λ _. rests.only) obeys }
