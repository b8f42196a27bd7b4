-- What is staged when a run has come: what stands at each place, and how far it goes without a gap.
use Rattle.std.proofs.Common.{◌≡◌, ℕ, zero, suc, ◌+◌, ◌-◌, ◌<◌, ◌≤◌, Bool, true, false, cond, eqb, ltb, List, [], ◌∷◌, length, get_or, refl, sym, ap, ◌∙◌, subst, arith, All, Option, Some, None, is_some, ⊎_elim}
use Rattle.std.specs.Prelude.{slice_get, nat_lt, nat_le}
use Rattle.std.specs.Ordering.{nat_cmp, match_ordering}
use Rattle.std.specs.declared.cmp.Ordering.TheVariants.{Less, Equal, Greater}
use Rattle.std.specs.BTreeMap.{insert_entry}
use Rattle.std.specs.Cmp.{unsigned_ties}
use Rattle.std.proofs.lemmas.Bool.{true≢false, false≢true, cond_both, eqb-true, eqb-false, cases_eq, cases_lt, lt-ltb, le-ltb, ltb-true, ltb-false, leb-false}
use Rattle.op_types.specs.Limits.{positions_end}
use Rattle.op_types.specs.Changes.{IsCommand, EndsNowhere}
use Rattle.op_types.specs.declared.log.Entry.{Entry}
use Rattle.op_types.specs.Joinings.{Held, held_at, held_with_entry, held_with, held_run, with_first}
use Rattle.op_types.specs.Rises.{Rises}
use Rattle.op_types.specs.Rings.{is_first_below, AreBelow}
use Rattle.op_types.specs.Stages.{front_with, front_up_to, front_from, staged_from}
use Rattle.std.proofs.lemmas.Option.{slice_get_within}
use Rattle.std.proofs.lemmas.List.Elements.{All-nil, All-cons, All-head, All-tail, All-filter}
use Rattle.op_types.proofs.Elements.{none_some, some_is}
use Rattle.op_types.proofs.HeldLists.{at_before, none_above, above_less}
use Rattle.op_types.proofs.Stages.{Has, front_far}
use Rattle.op_follower.specs.Staging.{brought_at, StagedIsAdmitted}

-- ---- what stands at a place

-- what is staged there, or else what comes
abbrev pub kept_or : Option Entry → Option Entry → Option Entry
kept_or None o = o
kept_or (Some e) o = Some e

head_is : (n : ℕ) (x : ℕ × Entry) (xs : Held) → held_at (x ∷ xs) n ≡ cond (eqb n x.0) (Some x.1) (held_at xs n)
head_is n x xs = ap (λ (b : Bool). cond b (Some x.1) (held_at xs n)) (sym (unsigned_ties n x.0))

twice : (c d : Bool) (v w o : Option Entry) → (c ≡ true → d ≡ true → ⊥) → cond d v (cond c w o) ≡ cond c w (cond d v o)
twice true true v w o f = absurd (f refl refl)
twice true false v w o f = refl
twice false true v w o f = refl
twice false false v w o f = refl

over : (c d : Bool) (v w o : Option Entry) → c ≡ d → cond d w o ≡ cond c w (cond d v o)
over true true v w o f = refl
over true false v w o f = absurd (true≢false f)
over false true v w o f = absurd (false≢true f)
over false false v w o f = refl

-- what is put at a position is found there, and nothing else changes
put_is : (xs : Held) (a : ℕ) (v : Entry) (n : ℕ) → held_at (insert_entry nat_cmp xs a v) n ≡ cond (eqb n a) (Some v) (held_at xs n)
put_is [] a v n = head_is n (a, v) []
put_is (x ∷ xs) a v n = by (ltb a x.0) refl (eqb a x.0) refl (put_is xs a v n)
  where
    by : (b : Bool) → ltb a x.0 ≡ b → (c : Bool) → eqb a x.0 ≡ c → held_at (insert_entry nat_cmp xs a v) n ≡ cond (eqb n a) (Some v) (held_at xs n)
        → held_at (match_ordering (cond b Less (cond c Equal Greater)) ((a, v) ∷ x ∷ xs) ((x.0, v) ∷ xs) (x ∷ insert_entry nat_cmp xs a v)) n ≡ cond (eqb n a) (Some v) (held_at (x ∷ xs) n)
    by true l c e ih = head_is n (a, v) (x ∷ xs)
    by false l true e ih =
        head_is n (x.0, v) xs
        ∙ over (eqb n a) (eqb n x.0) (Some x.1) (Some v) (held_at xs n) (ap (eqb n) (eqb-true a x.0 e))
        ∙ ap (λ (o : Option Entry). cond (eqb n a) (Some v) o) (sym (head_is n x xs))
    by false l false e ih =
        head_is n x (insert_entry nat_cmp xs a v)
        ∙ ap (λ (o : Option Entry). cond (eqb n x.0) (Some x.1) o) ih
        ∙ twice (eqb n a) (eqb n x.0) (Some x.1) (Some v) (held_at xs n) (λ g h. eqb-false a x.0 e (sym (eqb-true n a g) ∙ eqb-true n x.0 h))
        ∙ ap (λ (o : Option Entry). cond (eqb n a) (Some v) o) (sym (head_is n x xs))

entry_is : (h : Held) (a : ℕ) (v : Entry) (i : ℕ) → held_at (held_with_entry h a v) i ≡ kept_or (held_at h i) (cond (eqb i a) (Some v) None)
entry_is h a v i =
    cond_both (is_some (held_at h a)) h (insert_entry nat_cmp h a v) (λ k. held_at k i ≡ kept_or (held_at h i) (cond (eqb i a) (Some v) None))
    (λ c. here (held_at h i) (eqb i a) (λ d. subst (λ n. is_some (held_at h n) ≡ true) (sym (eqb-true i a d)) c))
    (λ c. put_is h a v i ∙ new (held_at h i) (eqb i a) (λ d. subst (λ n. is_some (held_at h n) ≡ false) (sym (eqb-true i a d)) c))
  where
    here : (o : Option Entry) (b : Bool) → (b ≡ true → is_some o ≡ true) → o ≡ kept_or o (cond b (Some v) None)
    here (Some e) b f = refl
    here None true f = absurd (false≢true (f refl))
    here None false f = refl

    new : (o : Option Entry) (b : Bool) → (b ≡ true → is_some o ≡ false) → cond b (Some v) o ≡ kept_or o (cond b (Some v) None)
    new (Some e) true f = absurd (true≢false (f refl))
    new (Some e) false f = refl
    new None b f = refl

none_brought : (a i : ℕ) → brought_at a [] i ≡ None
none_brought a i = by (nat_lt i a)
  where
    by : (b : Bool) → cond b None (slice_get {X = Entry} [] (i - a)) ≡ None
    by true = refl
    by false = refl

kept_none : (o : Option Entry) → o ≡ kept_or o None
kept_none None = refl
kept_none (Some e) = refl

-- the first of a run, and the others behind it
more_brought : (a : ℕ) (v : Entry) (es : List Entry) (i : ℕ) (o : Option Entry) → kept_or (kept_or o (cond (eqb i a) (Some v) None)) (brought_at (a + 1) es i) ≡ kept_or o (brought_at a (v ∷ es) i)
more_brought a v es i (Some e) = refl
more_brought a v es i None = by (eqb i a) refl (nat_lt i a) refl
  where
    by : (b : Bool) → eqb i a ≡ b → (c : Bool) → nat_lt i a ≡ c → kept_or (cond b (Some v) None) (brought_at (a + 1) es i) ≡ cond c None (slice_get (v ∷ es) (i - a))
    by true e true l = absurd (omega (arith, eqb-true i a e, ltb-true i a l))
    by true e false l = let z : zero ≡ i - a = omega (arith, eqb-true i a e) in ap (λ (k : ℕ). slice_get (v ∷ es) k) z
    by false e true l = ap (λ (b : Bool). cond b None (slice_get es (i - (a + 1)))) (lt-ltb i (a + 1) (omega (arith, ltb-true i a l)))
    by false e false l =
        let above : a + 1 ≤ i = ⊎_elim (λ (s : i ≡ a). absurd (eqb-false i a e s)) (λ (n : i ≡ a → ⊥). past (ltb-false i a l) n) (cases_eq i a) in
        let z : suc (i - (a + 1)) ≡ i - a = omega arith in
        ap (λ (b : Bool). cond b None (slice_get es (i - (a + 1)))) (le-ltb i (a + 1) above) ∙ ap (λ (k : ℕ). slice_get (v ∷ es) k) z
      where
        past : a ≤ i → (i ≡ a → ⊥) → a + 1 ≤ i
        past le n = ⊎_elim (λ (x : a < i). omega arith) (λ (x : i ≤ a). absurd (n (omega arith))) (cases_lt a i)

-- what stands at a place when a run has come
pub with_at : (h : Held) (a : ℕ) (es : List Entry) (i : ℕ) → held_at (held_with h a es) i ≡ kept_or (held_at h i) (brought_at a es i)
with_at h a [] i = kept_none (held_at h i) ∙ ap (λ (o : Option Entry). kept_or (held_at h i) o) (sym (none_brought a i))
with_at h a (v ∷ es) i =
    with_at (held_with_entry h a v) (a + 1) es i
    ∙ ap (λ (o : Option Entry). kept_or o (brought_at (a + 1) es i)) (entry_is h a v i)
    ∙ more_brought a v es i (held_at h i)

-- what is staged at a place stays there
pub stays_at : (h : Held) (a : ℕ) (es : List Entry) (i : ℕ) (e : Entry) → held_at h i ≡ Some e → held_at (held_with h a es) i ≡ Some e
stays_at h a es i e is = with_at h a es i ∙ ap (λ (o : Option Entry). kept_or o (brought_at a es i)) is

-- what comes to a place where nothing is staged stands there
pub comes_at : (h : Held) (a : ℕ) (es : List Entry) (i : ℕ) (o : Option Entry) → held_at h i ≡ None → brought_at a es i ≡ o → held_at (held_with h a es) i ≡ o
comes_at h a es i o none is = with_at h a es i ∙ ap (λ (p : Option Entry). kept_or p (brought_at a es i)) none ∙ is

-- where the same is staged at a place, the same stands there when a run has come
pub same_at : (h k : Held) (a : ℕ) (es : List Entry) (i : ℕ) → held_at h i ≡ held_at k i → held_at (held_with h a es) i ≡ held_at (held_with k a es) i
same_at h k a es i same = with_at h a es i ∙ ap (λ (o : Option Entry). kept_or o (brought_at a es i)) same ∙ sym (with_at k a es i)

-- ---- what is passed

-- nothing is found at a place that was reached, where the first one stands elsewhere
pub first_elsewhere : (h : Held) (n : ℕ) (x : ℕ × Entry) → 1 ≤ length h → x ≡ get_or h 0 x → Rises h → is_first_below h n ≡ false → (x.0 ≡ n → ⊥) → held_at h n ≡ None
first_elsewhere [] n x some is rises passed other = refl
first_elsewhere (y ∷ h) n x some is rises passed other =
    let low : n ≤ y.0 = ltb-false y.0 n passed in
    ⊎_elim (λ (lt : n < y.0). at_before n y h lt ∙ none_above n h (above_less n y.0 h low rises.0))
    (λ (le : y.0 ≤ n). let same : y.0 ≡ n = omega arith in absurd (other (ap (λ (z : ℕ × Entry). z.0) is ∙ same))) (cases_lt n y.0)

-- ---- what may come to the log

-- where each that is staged passes, each that is found at a place does
pub all_held : (P : ℕ × Entry → Type 0) (h : Held) → All P h → (i : ℕ) (e : Entry) → held_at h i ≡ Some e → P (i, e)
all_held P [] all i e is = none_some e is
all_held P (x ∷ h) all i e is = by (eqb i x.0) refl (sym (head_is i x h) ∙ is) (all_held P h (All-tail P x h all) i e)
  where
    by : (b : Bool) → eqb i x.0 ≡ b → cond b (Some x.1) (held_at h i) ≡ Some e → (held_at h i ≡ Some e → P (i, e)) → P (i, e)
    by true c d rest =
        let one : P (x.0, x.1) = All-head P x h all in
        subst (λ n. P (n, e)) (sym (eqb-true i x.0 c)) (subst (λ y. P (x.0, y)) (some_is x.1 e d) one)
    by false c d rest = rest d

put_all : (P : ℕ × Entry → Type 0) (h : Held) (a : ℕ) (v : Entry) → All P h → P (a, v) → All P (insert_entry nat_cmp h a v)
put_all P [] a v all one = All-cons P (a, v) [] one all
put_all P (x ∷ h) a v all one = by (ltb a x.0) (eqb a x.0) refl (put_all P h a v (All-tail P x h all) one)
  where
    by : (b c : Bool) → eqb a x.0 ≡ c → All P (insert_entry nat_cmp h a v) → All P (match_ordering (cond b Less (cond c Equal Greater)) ((a, v) ∷ x ∷ h) ((x.0, v) ∷ h) (x ∷ insert_entry nat_cmp h a v))
    by true c e rest = All-cons P (a, v) (x ∷ h) one all
    by false true e rest = All-cons P (x.0, v) h (subst (λ n. P (n, v)) (eqb-true a x.0 e) one) (All-tail P x h all)
    by false false e rest = All-cons P x (insert_entry nat_cmp h a v) (All-head P x h all) rest

-- where each that is staged passes, and each that comes, all pass that are staged then
pub all_with : (P : ℕ × Entry → Type 0) (h : Held) (a : ℕ) (es : List Entry) → All P h → ((j : ℕ) (e : Entry) → slice_get es j ≡ Some e → P (a + j, e)) → All P (held_with h a es)
all_with P h a [] all each = all
all_with P h a (v ∷ es) all each =
    all_with P (held_with_entry h a v) (a + 1) es
    (cond_both (is_some (held_at h a)) h (insert_entry nat_cmp h a v) (All P) (λ c. all)
    (λ c. put_all P h a v all (let z : a + 0 ≡ a = omega arith in subst (λ n. P (n, v)) z (each 0 v refl))))
    (λ j e is. let z : a + suc j ≡ a + 1 + j = omega arith in subst (λ n. P (n, e)) z (each (suc j) e is))

pub below_all : (n : ℕ) (h : Held) → AreBelow n h → All (λ x. x.0 < n) h
below_all n [] low = All-nil (λ x. x.0 < n)
below_all n (x ∷ h) low = All-cons (λ x. x.0 < n) x h low.0 (below_all n h low.1)

pub all_below : (n : ℕ) (h : Held) → All (λ x. x.0 < n) h → AreBelow n h
all_below n [] all = tt
all_below n (x ∷ h) all = (All-head (λ x. x.0 < n) x h all, all_below n h (All-tail (λ x. x.0 < n) x h all))

-- each of entries passes where all do
pub get_each : (P : Entry → Type 0) (es : List Entry) → All P es → (j : ℕ) (e : Entry) → slice_get es j ≡ Some e → P e
get_each P [] all j e is = none_some e is
get_each P (v ∷ es) all zero e is = subst P (some_is v e is) (All-head P v es all)
get_each P (v ∷ es) all (suc j) e is = get_each P es (All-tail P v es all) j e is

-- what is staged lies below an end, with a run that ends there
pub below_with : (n : ℕ) (h : Held) (a : ℕ) (es : List Entry) → AreBelow n h → a + length es ≤ n → AreBelow n (held_with h a es)
below_with n h a es low ends =
    all_below n (held_with h a es)
    (all_with (λ x. x.0 < n) h a es (below_all n h low) (λ j e is. let within : j < length es = slice_get_within es j e is in omega arith))

-- what is staged may come to the log, and so may a run that comes
pub admitted_with : (conf : ℕ) (h : Held) (a : ℕ) (es : List Entry) → StagedIsAdmitted conf h → a + length es ≤ positions_end → EndsNowhere conf es → StagedIsAdmitted conf (held_with h a es)
admitted_with conf h a es old ends stops =
    record {
      small = below_with positions_end h a es old.small ends;
      stops = λ last. all_with (λ x. IsCommand x.1) h a es (old.stops last) (λ j e is. get_each IsCommand es (stops last) j e is);
    }

-- what stays may come to the log
pub admitted_from : (conf : ℕ) (h : Held) (at : ℕ) → StagedIsAdmitted conf h → StagedIsAdmitted conf (staged_from h at)
admitted_from conf h at old =
    record {
      small = all_below positions_end (staged_from h at) (All-filter (λ x. nat_le at x.0) (λ x. x.0 < positions_end) h (below_all positions_end h old.small));
      stops = λ last. All-filter (λ x. nat_le at x.0) (λ x. IsCommand x.1) h (old.stops last);
    }

pub none_admitted : (conf : ℕ) → StagedIsAdmitted conf []
none_admitted conf = record { small = tt; stops = λ last. All-nil (λ x. IsCommand x.1) }

-- what is found at a place lies below the end
held_small : (h : Held) (n : ℕ) → AreBelow n h → (i : ℕ) (e : Entry) → held_at h i ≡ Some e → i < n
held_small h n low i e is = all_held (λ x. x.0 < n) h (below_all n h low) i e is

-- a whole run ends within the positions
pub run_small : (h : Held) (at count : ℕ) (es : List Entry) → AreBelow positions_end h → at ≤ positions_end → held_run h at count ≡ Some es → at + length es ≤ positions_end
run_small h at zero es low within is = subst (λ (l : List Entry). at + length l ≤ positions_end) (some_is [] es is) (omega arith)
run_small h at (suc count) es low within is = by (held_at h at) refl (held_run h (at + 1) count) (λ rest. run_small h (at + 1) count rest low) is
  where
    by : (o : Option Entry) → held_at h at ≡ o → (r : Option (List Entry)) → ((rest : List Entry) → at + 1 ≤ positions_end → r ≡ Some rest → at + 1 + length rest ≤ positions_end) → with_first o r ≡ Some es → at + length es ≤ positions_end
    by None a r more d = none_some es d
    by (Some v) a None more d = none_some es d
    by (Some v) a (Some rest) more d =
        let here : at < positions_end = held_small h positions_end low at v a in
        let ends : at + 1 + length rest ≤ positions_end = more rest (omega arith) refl in
        subst (λ (l : List Entry). at + length l ≤ positions_end) (some_is (v ∷ rest) es d) (omega arith)

-- a whole run has commands alone where all that is staged are commands
pub run_commands : (h : Held) (at count : ℕ) (es : List Entry) → All (λ x. IsCommand x.1) h → held_run h at count ≡ Some es → All IsCommand es
run_commands h at zero es all is = subst (λ (l : List Entry). All IsCommand l) (some_is [] es is) (All-nil IsCommand)
run_commands h at (suc count) es all is = by (held_at h at) refl (held_run h (at + 1) count) (λ rest. run_commands h (at + 1) count rest all) is
  where
    by : (o : Option Entry) → held_at h at ≡ o → (r : Option (List Entry)) → ((rest : List Entry) → r ≡ Some rest → All IsCommand rest) → with_first o r ≡ Some es → All IsCommand es
    by None a r more d = none_some es d
    by (Some v) a None more d = none_some es d
    by (Some v) a (Some rest) more d = subst (λ (l : List Entry). All IsCommand l) (some_is (v ∷ rest) es d) (All-cons IsCommand v rest (all_held (λ x. IsCommand x.1) h all at v a) (more rest refl))

-- so do fronts
pub front_small : (h : Held) (most at : ℕ) → AreBelow positions_end h → at ≤ positions_end → at + length (front_up_to most h at) ≤ positions_end
front_small h zero at low within = omega arith
front_small h (suc most) at low within = by (held_at h at) refl (front_small h most (at + 1) low)
  where
    by : (o : Option Entry) → held_at h at ≡ o → (at + 1 ≤ positions_end → at + 1 + length (front_up_to most h (at + 1)) ≤ positions_end) → at + length (front_with o (front_up_to most h (at + 1))) ≤ positions_end
    by None a more = omega arith
    by (Some v) a more =
        let here : at < positions_end = held_small h positions_end low at v a in
        let ends : at + 1 + length (front_up_to most h (at + 1)) ≤ positions_end = more (omega arith) in
        omega arith

pub front_commands : (h : Held) (most at : ℕ) → All (λ x. IsCommand x.1) h → All IsCommand (front_up_to most h at)
front_commands h zero at all = All-nil IsCommand
front_commands h (suc most) at all = by (held_at h at) refl (front_commands h most (at + 1) all)
  where
    by : (o : Option Entry) → held_at h at ≡ o → All IsCommand (front_up_to most h (at + 1)) → All IsCommand (front_with o (front_up_to most h (at + 1)))
    by None a rest = All-nil IsCommand
    by (Some v) a rest = All-cons IsCommand v (front_up_to most h (at + 1)) (all_held (λ x. IsCommand x.1) h all at v a) rest

-- ---- fronts

pub front_none : (h : Held) (most at : ℕ) → held_at h at ≡ None → front_up_to most h at ≡ []
front_none h zero at none = refl
front_none h (suc most) at none = ap (λ (o : Option Entry). front_with o (front_up_to most h (at + 1))) none

pub front_some : (h : Held) (most at : ℕ) (e : Entry) → held_at h at ≡ Some e → front_up_to (suc most) h at ≡ e ∷ front_up_to most h (at + 1)
front_some h most at e some = ap (λ (o : Option Entry). front_with o (front_up_to most h (at + 1))) some

-- one entry more of a front
pub front_more : (h : Held) (from to : ℕ) (e : Entry) → from < to → held_at h from ≡ Some e → front_up_to (to - from) h from ≡ e ∷ front_up_to (to - (from + 1)) h (from + 1)
front_more h from to e lt some =
    let z : to - from ≡ suc (to - (from + 1)) = omega arith in
    ap (λ (k : ℕ). front_up_to k h from) z ∙ front_some h (to - (from + 1)) from e some

-- a run that is whole is the front
pub run_front : (h : Held) (at count : ℕ) → is_some (held_run h at count) ≡ true → held_run h at count ≡ Some (front_up_to count h at)
run_front h at zero whole = refl
run_front h at (suc count) whole = by (held_at h at) (held_run h (at + 1) count) (run_front h (at + 1) count) whole
  where
    by : (o : Option Entry) (r : Option (List Entry)) → (is_some r ≡ true → r ≡ Some (front_up_to count h (at + 1))) → is_some (with_first o r) ≡ true → with_first o r ≡ Some (front_with o (front_up_to count h (at + 1)))
    by None r ih whole = absurd (false≢true whole)
    by (Some e) None ih whole = absurd (false≢true whole)
    by (Some e) (Some es) ih whole = ap (λ (r : Option (List Entry)). with_first (Some e) r) (ih refl)

-- a run is whole where its first entry and the others behind it are there
pub run_more : (h : Held) (from to : ℕ) → from < to → is_some (held_at h from) ≡ true → is_some (held_run h from (to - from)) ≡ is_some (held_run h (from + 1) (to - (from + 1)))
run_more h from to lt here =
    let z : to - from ≡ suc (to - (from + 1)) = omega arith in
    ap (λ (k : ℕ). is_some (held_run h from k)) z ∙ by (held_at h from) (held_run h (from + 1) (to - (from + 1))) here
  where
    by : (o : Option Entry) (r : Option (List Entry)) → is_some o ≡ true → is_some (with_first o r) ≡ is_some r
    by None r here = absurd (false≢true here)
    by (Some e) None here = refl
    by (Some e) (Some es) here = refl

pub run_none : (h : Held) (from to : ℕ) → from < to → held_at h from ≡ None → is_some (held_run h from (to - from)) ≡ false
run_none h from to lt none =
    let z : to - from ≡ suc (to - (from + 1)) = omega arith in
    ap (λ (k : ℕ). is_some (held_run h from k)) z
    ∙ ap (λ (o : Option Entry). is_some (with_first o (held_run h (from + 1) (to - (from + 1))))) none

-- ---- the whole front

-- each place of a front is held
front_held : (h : Held) (most at : ℕ) (i : ℕ) → at ≤ i → i < at + length (front_up_to most h at) → Has h i
front_held h zero at i le lt = absurd (omega arith)
front_held h (suc most) at i le lt = by (held_at h at) refl (front_held h most (at + 1) i) lt
  where
    by : (o : Option Entry) → held_at h at ≡ o → (at + 1 ≤ i → i < at + 1 + length (front_up_to most h (at + 1)) → Has h i) → i < at + length (front_with o (front_up_to most h (at + 1))) → Has h i
    by None is rest lt = absurd (omega arith)
    by (Some e) is rest lt =
        ⊎_elim (λ (here : i ≡ at). subst (λ n. Has h n) (sym here) (ap is_some is))
        (λ (n : i ≡ at → ⊥). ⊎_elim (λ (x : at < i). rest (omega arith) (omega arith)) (λ (x : i ≤ at). absurd (n (omega arith))) (cases_lt at i)) (cases_eq i at)

-- nothing stands behind the whole front
pub front_ends : (h : Held) (at : ℕ) → held_at h (at + length (front_from h at)) ≡ None
front_ends h at = by (held_at h (at + length (front_from h at))) refl
  where
    by : (o : Option Entry) → held_at h (at + length (front_from h at)) ≡ o → o ≡ None
    by None is = refl
    by (Some e) is =
        let far : length (front_from h at) + 1 ≤ length (front_from h at) =
        front_far h at (length (front_from h at) + 1) (λ i le lt.
        ⊎_elim (λ (here : i < at + length (front_from h at)). front_held h (length h) at i le here)
        (λ (past : at + length (front_from h at) ≤ i). let same : at + length (front_from h at) ≡ i = omega arith in subst (λ n. Has h n) same (ap is_some is))
        (cases_lt i (at + length (front_from h at)))) in
        absurd (omega arith)

-- nor where the front could go on to the end of all that is held
pub front_stops : (h : Held) (most at : ℕ) → ((i : ℕ) (e : Entry) → held_at h i ≡ Some e → i < at + most) → held_at h (at + length (front_up_to most h at)) ≡ None
front_stops h zero at low = by (held_at h (at + 0)) refl
  where
    by : (o : Option Entry) → held_at h (at + 0) ≡ o → o ≡ None
    by None is = refl
    by (Some e) is = absurd (omega (arith, low (at + 0) e is))
front_stops h (suc most) at low = by (held_at h at) refl (front_stops h most (at + 1) (λ i e is. omega (arith, low i e is)))
  where
    by : (o : Option Entry) → held_at h at ≡ o → held_at h (at + 1 + length (front_up_to most h (at + 1))) ≡ None → held_at h (at + length (front_with o (front_up_to most h (at + 1)))) ≡ None
    by None is rest = let z : at ≡ at + 0 = omega arith in ap (held_at h) (sym z) ∙ is
    by (Some e) is rest = let z : at + suc (length (front_up_to most h (at + 1))) ≡ at + 1 + length (front_up_to most h (at + 1)) = omega arith in ap (held_at h) z ∙ rest

same_front : (h : Held) (m n at : ℕ) → held_at h (at + length (front_up_to m h at)) ≡ None → held_at h (at + length (front_up_to n h at)) ≡ None → front_up_to m h at ≡ front_up_to n h at
same_front h zero n at none also = let z : at + 0 ≡ at = omega arith in sym (front_none h n at (ap (held_at h) (sym z) ∙ none))
same_front h (suc m) zero at none also = let z : at + 0 ≡ at = omega arith in front_none h (suc m) at (ap (held_at h) (sym z) ∙ also)
same_front h (suc m) (suc n) at none also = by (held_at h at) (same_front h m n (at + 1)) none also
  where
    moved : (k : ℕ) → held_at h (at + suc k) ≡ None → held_at h (at + 1 + k) ≡ None
    moved k is = let z : at + 1 + k ≡ at + suc k = omega arith in ap (held_at h) z ∙ is

    by : (o : Option Entry) → (held_at h (at + 1 + length (front_up_to m h (at + 1))) ≡ None → held_at h (at + 1 + length (front_up_to n h (at + 1))) ≡ None → front_up_to m h (at + 1) ≡ front_up_to n h (at + 1))
        → held_at h (at + length (front_with o (front_up_to m h (at + 1)))) ≡ None → held_at h (at + length (front_with o (front_up_to n h (at + 1)))) ≡ None
        → front_with o (front_up_to m h (at + 1)) ≡ front_with o (front_up_to n h (at + 1))
    by None ih none also = refl
    by (Some e) ih none also = ap (λ (es : List Entry). e ∷ es) (ih (moved (length (front_up_to m h (at + 1))) none) (moved (length (front_up_to n h (at + 1))) also))

-- a front that may go on to the end of all that is held is the whole one
pub front_whole : (h : Held) (at end : ℕ) → at ≤ end → AreBelow end h → front_up_to (end - at) h at ≡ front_from h at
front_whole h at end le low =
    same_front h (end - at) (length h) at (front_stops h (end - at) at (λ i e is. omega (arith, held_small h end low i e is))) (front_ends h at)

-- where nothing leaves, all stays
pub from_zero : (h : Held) → staged_from h 0 ≡ h
from_zero [] = refl
from_zero (x ∷ h) =
    cond_both (nat_le 0 x.0) (x ∷ staged_from h 0) (staged_from h 0) (λ l. l ≡ x ∷ h)
    (λ c. ap (λ (l : Held). x ∷ l) (from_zero h)) (λ c. absurd (omega (arith, leb-false 0 x.0 c)))
