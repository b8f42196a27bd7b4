-- What is staged: which entries a stage holds after more have come, and which runs of it are whole.
use Rattle.std.proofs.Common.{◌≡◌, ℕ, zero, suc, ◌+◌, ◌<◌, ◌≤◌, Bool, true, false, cond, eqb, ltb, List, [], ◌∷◌, length, refl, sym, ap, ◌∙◌, subst, arith, Option, Some, None, is_some, ⊎_elim}
use Rattle.std.specs.Prelude.{slice_get, nat_le}
use Rattle.std.specs.Ordering.{nat_cmp, match_ordering}
use Rattle.std.specs.declared.cmp.Ordering.TheVariants.{Less, Equal, Greater}
use Rattle.std.specs.BTreeMap.{insert_entry}
use Rattle.std.specs.Cmp.{unsigned_ties}
use Rattle.std.proofs.lemmas.Bool.{true≢false, false≢true, cond_both, eqb-true, eqb-false, eq-eqb, leb-true, leb-false, cases_eq, cases_lt}
use Rattle.op_types.specs.declared.log.Entry.{Entry}
use Rattle.op_types.specs.Joinings.{Held, held_at, held_with_entry, held_with, held_run, with_first}
use Rattle.op_types.specs.Stages.{front_with, front_up_to, front_from, staged_from}
use Rattle.op_types.proofs.Elements.{none_some, some_is}

-- the position is held
abbrev pub Has : Held → ℕ → Type 0
Has h i = is_some (held_at h i) ≡ true

-- every entry that is held passes, at its position
abbrev pub EachHeld : (ℕ → Entry → Type 0) → Held → Type 0
EachHeld P h = (i : ℕ) (e : Entry) → held_at h i ≡ Some e → P i e

-- every entry that is held stands at its position in the list
abbrev pub StandsIn : List Entry → Held → Type 0
StandsIn l h = EachHeld (λ i e. slice_get l i ≡ Some e) h

-- ---- one entry more

head_is : (n : ℕ) (x : ℕ × Entry) (xs : Held) → held_at (x ∷ xs) n ≡ cond (eqb n x.0) (Some x.1) (held_at xs n)
head_is n x xs = ap (λ (b : Bool). cond b (Some x.1) (held_at xs n)) (sym (unsigned_ties n x.0))

twice : (c d : Bool) (v w o : Option Entry) → (c ≡ true → d ≡ true → ⊥) → cond d v (cond c w o) ≡ cond c w (cond d v o)
twice true true v w o f = absurd (f refl refl)
twice true false v w o f = refl
twice false true v w o f = refl
twice false false v w o f = refl

over : (c d : Bool) (v w o : Option Entry) → c ≡ d → cond d w o ≡ cond c w (cond d v o)
over true true v w o f = refl
over true false v w o f = absurd (true≢false f)
over false true v w o f = absurd (false≢true f)
over false false v w o f = refl

-- what is put at a position is found there, and nothing else changes
put_is : (xs : Held) (a : ℕ) (v : Entry) (n : ℕ) → held_at (insert_entry nat_cmp xs a v) n ≡ cond (eqb n a) (Some v) (held_at xs n)
put_is [] a v n = head_is n (a, v) []
put_is (x ∷ xs) a v n = by (ltb a x.0) refl (eqb a x.0) refl (put_is xs a v n)
  where
    by : (b : Bool) → ltb a x.0 ≡ b → (c : Bool) → eqb a x.0 ≡ c → held_at (insert_entry nat_cmp xs a v) n ≡ cond (eqb n a) (Some v) (held_at xs n)
        → held_at (match_ordering (cond b Less (cond c Equal Greater)) ((a, v) ∷ x ∷ xs) ((x.0, v) ∷ xs) (x ∷ insert_entry nat_cmp xs a v)) n ≡ cond (eqb n a) (Some v) (held_at (x ∷ xs) n)
    by true l c e ih = head_is n (a, v) (x ∷ xs)
    by false l true e ih =
        head_is n (x.0, v) xs
        ∙ over (eqb n a) (eqb n x.0) (Some x.1) (Some v) (held_at xs n) (ap (eqb n) (eqb-true a x.0 e))
        ∙ ap (λ (o : Option Entry). cond (eqb n a) (Some v) o) (sym (head_is n x xs))
    by false l false e ih =
        head_is n x (insert_entry nat_cmp xs a v)
        ∙ ap (λ (o : Option Entry). cond (eqb n x.0) (Some x.1) o) ih
        ∙ twice (eqb n a) (eqb n x.0) (Some x.1) (Some v) (held_at xs n) (λ g h. eqb-false a x.0 e (sym (eqb-true n a g) ∙ eqb-true n x.0 h))
        ∙ ap (λ (o : Option Entry). cond (eqb n a) (Some v) o) (sym (head_is n x xs))

more_each : (P : ℕ → Entry → Type 0) (h : Held) (a : ℕ) (v : Entry) → EachHeld P h → P a v → EachHeld P (held_with_entry h a v)
more_each P h a v f p i e =
    cond_both (is_some (held_at h a)) h (insert_entry nat_cmp h a v) (λ k. held_at k i ≡ Some e → P i e)
    (λ c d. f i e d)
    (λ c d. put_each i e (sym (put_is h a v i) ∙ d))
  where
    put_each : (i : ℕ) (e : Entry) → cond (eqb i a) (Some v) (held_at h i) ≡ Some e → P i e
    put_each i e = cond_both (eqb i a) (Some v) (held_at h i) (λ o. o ≡ Some e → P i e)
        (λ c d. subst (λ n. P n e) (sym (eqb-true i a c)) (subst (λ y. P a y) (some_is v e d) p))
        (λ c d. f i e d)

-- what passes in a stage and in what comes passes in both together
pub with_each : (P : ℕ → Entry → Type 0) (h : Held) (a : ℕ) (es : List Entry) → EachHeld P h → ((j : ℕ) (e : Entry) → slice_get es j ≡ Some e → P (a + j) e) → EachHeld P (held_with h a es)
with_each P h a [] f p = f
with_each P h a (v ∷ es) f p =
    with_each P (held_with_entry h a v) (a + 1) es
    (more_each P h a v f (let z : a + 0 ≡ a = omega arith in subst (λ n. P n v) z (p 0 v refl)))
    (λ j e is. let z : a + suc j ≡ a + 1 + j = omega arith in subst (λ n. P n e) z (p (suc j) e is))

more_has : (h : Held) (a : ℕ) (v : Entry) (i : ℕ) → Has h i → Has (held_with_entry h a v) i
more_has h a v i has =
    cond_both (is_some (held_at h a)) h (insert_entry nat_cmp h a v) (λ k. Has k i) (λ c. has)
    (λ c. ap is_some (put_is h a v i) ∙ cond_both (eqb i a) (Some v) (held_at h i) (λ o. is_some o ≡ true) (λ d. refl) (λ d. has))

more_here : (h : Held) (a : ℕ) (v : Entry) → Has (held_with_entry h a v) a
more_here h a v =
    cond_both (is_some (held_at h a)) h (insert_entry nat_cmp h a v) (λ k. Has k a) (λ c. c)
    (λ c. ap is_some (put_is h a v a) ∙ ap (λ (b : Bool). is_some (cond b (Some v) (held_at h a))) (eq-eqb a a refl))

-- what was held stays
pub with_has : (h : Held) (a : ℕ) (es : List Entry) (i : ℕ) → Has h i → Has (held_with h a es) i
with_has h a [] i has = has
with_has h a (v ∷ es) i has = with_has (held_with_entry h a v) (a + 1) es i (more_has h a v i has)

-- and what comes is held
pub with_here : (h : Held) (a : ℕ) (es : List Entry) (i : ℕ) → a ≤ i → i < a + length es → Has (held_with h a es) i
with_here h a [] i le lt = absurd (omega arith)
with_here h a (v ∷ es) i le lt =
    ⊎_elim
    (λ (e : i ≡ a). subst (λ n. Has (held_with (held_with_entry h a v) (a + 1) es) n) (sym e) (with_has (held_with_entry h a v) (a + 1) es a (more_here h a v)))
    (λ (n : i ≡ a → ⊥). with_here (held_with_entry h a v) (a + 1) es i (above n) (omega (arith, lt)))
    (cases_eq i a)
  where
    above : (i ≡ a → ⊥) → a + 1 ≤ i
    above n = ⊎_elim (λ (x : a < i). omega arith) (λ (x : i ≤ a). absurd (n (omega arith))) (cases_lt a i)

-- ---- whole runs

-- a run whose positions are all held is whole
pub run_full : (h : Held) (at count : ℕ) → ((i : ℕ) → at ≤ i → i < at + count → Has h i) → is_some (held_run h at count) ≡ true
run_full h at zero f = refl
run_full h at (suc count) f = by (held_at h at) (held_run h (at + 1) count) (f at (omega arith) (omega arith)) (run_full h (at + 1) count (λ i le lt. f i (omega arith) (omega arith)))
  where
    by : (o : Option Entry) (p : Option (List Entry)) → is_some o ≡ true → is_some p ≡ true → is_some (with_first o p) ≡ true
    by None p a b = absurd (false≢true a)
    by (Some e) None a b = absurd (false≢true b)
    by (Some e) (Some es) a b = refl

-- what passes of all that is held passes in a whole run
pub run_each : (P : ℕ → Entry → Type 0) (h : Held) (at count : ℕ) (es : List Entry) → EachHeld P h → held_run h at count ≡ Some es → (length es ≡ count) × ((j : ℕ) (e : Entry) → slice_get es j ≡ Some e → P (at + j) e)
run_each P h at zero es f is = by es (some_is [] es is)
  where
    by : (es : List Entry) → [] ≡ es → (length es ≡ 0) × ((j : ℕ) (e : Entry) → slice_get es j ≡ Some e → P (at + j) e)
    by [] d = (refl, λ j e k. none_some e k)
    by (e ∷ es) d = absurd (differ e es d)
      where
        differ : (e : Entry) (es : List Entry) → [] ≡ e ∷ es → ⊥
        differ e es d = cc
run_each P h at (suc count) es f is = by (held_at h at) refl (held_run h (at + 1) count) (λ rest b. run_each P h (at + 1) count rest f b) is
  where
    by : (o : Option Entry) → held_at h at ≡ o → (p : Option (List Entry)) → ((rest : List Entry) → p ≡ Some rest → (length rest ≡ count) × ((j : ℕ) (e : Entry) → slice_get rest j ≡ Some e → P (at + 1 + j) e)) → with_first o p ≡ Some es → (length es ≡ suc count) × ((j : ℕ) (e : Entry) → slice_get es j ≡ Some e → P (at + j) e)
    by None a p b d = none_some es d
    by (Some v) a None b d = none_some es d
    by (Some v) a (Some rest) b d =
        let r = b rest refl in
        let same : v ∷ rest ≡ es = some_is (v ∷ rest) es d in
        subst (λ (y : List Entry). (length y ≡ suc count) × ((j : ℕ) (e : Entry) → slice_get y j ≡ Some e → P (at + j) e)) same
        (omega (arith, r.0), λ j e k. at_place v rest a r.1 j e k)
      where
        at_place : (v : Entry) (rest : List Entry) → held_at h at ≡ Some v → ((j : ℕ) (e : Entry) → slice_get rest j ≡ Some e → P (at + 1 + j) e) → (j : ℕ) (e : Entry) → slice_get (v ∷ rest) j ≡ Some e → P (at + j) e
        at_place v rest a r zero e k = let z : at ≡ at + 0 = omega arith in subst (λ n. P n e) z (f at e (a ∙ k))
        at_place v rest a r (suc j) e k = let z : at + 1 + j ≡ at + suc j = omega arith in subst (λ n. P n e) z (r j e k)

-- ---- the front

-- so it does in the front
pub front_each : (P : ℕ → Entry → Type 0) (h : Held) (most at : ℕ) → EachHeld P h → (j : ℕ) (e : Entry) → slice_get (front_up_to most h at) j ≡ Some e → P (at + j) e
front_each P h zero at f j e k = none_some e k
front_each P h (suc most) at f j e k = by (held_at h at) refl (λ j. front_each P h most (at + 1) f j e) j k
  where
    by : (o : Option Entry) → held_at h at ≡ o → ((j : ℕ) → slice_get (front_up_to most h (at + 1)) j ≡ Some e → P (at + 1 + j) e) → (j : ℕ) → slice_get (front_with o (front_up_to most h (at + 1))) j ≡ Some e → P (at + j) e
    by None a r j k = none_some e k
    by (Some v) a r zero k = let z : at ≡ at + 0 = omega arith in subst (λ n. P n e) z (f at e (a ∙ k))
    by (Some v) a r (suc j) k = let z : at + 1 + j ≡ at + suc j = omega arith in subst (λ n. P n e) z (r j k)

-- a whole run, and the front, are of the list in which all that is held stands
pub run_is : (l : List Entry) (h : Held) (at count : ℕ) (es : List Entry) → StandsIn l h → held_run h at count ≡ Some es → (length es ≡ count) × ((j : ℕ) (e : Entry) → slice_get es j ≡ Some e → slice_get l (at + j) ≡ Some e)
run_is l h at count es f is = run_each (λ i e. slice_get l i ≡ Some e) h at count es f is

pub front_is : (l : List Entry) (h : Held) (most at : ℕ) → StandsIn l h → (j : ℕ) (e : Entry) → slice_get (front_up_to most h at) j ≡ Some e → slice_get l (at + j) ≡ Some e
front_is l h most at f = front_each (λ i e. slice_get l i ≡ Some e) h most at f

-- how many of these positions are held
hits : Held → ℕ → ℕ → ℕ
hits h at zero = 0
hits h at (suc count) = cond (is_some (held_at h at)) 1 0 + hits h (at + 1) count

one_at : ℕ → ℕ → ℕ → ℕ
one_at p at zero = 0
one_at p at (suc count) = cond (eqb at p) 1 0 + one_at p (at + 1) count

one_past : (p at count : ℕ) → p < at → one_at p at count ≡ 0
unfolding one_at
one_past p at zero lt = refl
one_past p at (suc count) lt = cond_both (eqb at p) 1 0 (λ x. x + one_at p (at + 1) count ≡ 0) (λ c. absurd (omega (arith, lt, eqb-true at p c))) (λ c. omega (arith, one_past p (at + 1) count (omega arith)))

one_low : (p at count : ℕ) → one_at p at count ≤ 1
unfolding one_at
one_low p at zero = omega arith
one_low p at (suc count) = cond_both (eqb at p) 1 0 (λ x. x + one_at p (at + 1) count ≤ 1) (λ c. omega (arith, one_past p (at + 1) count (omega (arith, eqb-true at p c)))) (λ c. omega (arith, one_low p (at + 1) count))

hits_head : (x : ℕ × Entry) (xs : Held) (at count : ℕ) → hits (x ∷ xs) at count ≤ one_at x.0 at count + hits xs at count
unfolding hits one_at
hits_head x xs at zero = omega arith
hits_head x xs at (suc count) =
    let e : ◌≡◌ {A = ℕ} (cond (is_some (held_at (x ∷ xs) at)) 1 0) (cond (is_some (cond (eqb at x.0) (Some x.1) (held_at xs at))) 1 0) = ap (λ (o : Option Entry). cond (is_some o) 1 0) (head_is at x xs) in
    let f = by (eqb at x.0) (held_at xs at) in
    omega (arith, e, f, hits_head x xs (at + 1) count)
  where
    by : (b : Bool) (o : Option Entry) → cond (is_some (cond b (Some x.1) o)) 1 0 ≤ cond b 1 0 + cond (is_some o) 1 0
    by true o = omega arith
    by false o = omega arith

hits_none : (at count : ℕ) → hits [] at count ≡ 0
unfolding hits
hits_none at zero = refl
hits_none at (suc count) = omega (arith, hits_none (at + 1) count)

hits_low : (h : Held) (at count : ℕ) → hits h at count ≤ length h
hits_low [] at count = omega (arith, hits_none at count)
hits_low (x ∷ xs) at count = omega (arith, hits_head x xs at count, one_low x.0 at count, hits_low xs at count)

hits_all : (h : Held) (at count : ℕ) → ((i : ℕ) → at ≤ i → i < at + count → Has h i) → hits h at count ≡ count
unfolding hits
hits_all h at zero f = refl
hits_all h at (suc count) f =
    let e : ◌≡◌ {A = ℕ} (cond (is_some (held_at h at)) 1 0) 1 = ap (λ (b : Bool). cond b 1 0) (f at (omega arith) (omega arith)) in
    omega (arith, e, hits_all h (at + 1) count (λ i le lt. f i (omega arith) (omega arith)))

front_up : (h : Held) (most at count : ℕ) → count ≤ most → ((i : ℕ) → at ≤ i → i < at + count → Has h i) → count ≤ length (front_up_to most h at)
front_up h most at zero le f = omega arith
front_up h zero at (suc count) le f = absurd (omega arith)
front_up h (suc most) at (suc count) le f = by (held_at h at) (f at (omega arith) (omega arith)) (front_up h most (at + 1) count (omega arith) (λ i l lt. f i (omega arith) (omega arith)))
  where
    by : (o : Option Entry) → is_some o ≡ true → count ≤ length (front_up_to most h (at + 1)) → suc count ≤ length (front_with o (front_up_to most h (at + 1)))
    by None a r = absurd (false≢true a)
    by (Some e) a r = omega (arith, r)

-- it reaches over all that is held without a gap
pub front_far : (h : Held) (at count : ℕ) → ((i : ℕ) → at ≤ i → i < at + count → Has h i) → count ≤ length (front_from h at)
front_far h at count f = front_up h (length h) at count (omega (arith, hits_low h at count, hits_all h at count f)) f

-- ---- what leaves

-- what stays was held, and isn't below
pub left_is : (h : Held) (at i : ℕ) (e : Entry) → held_at (staged_from h at) i ≡ Some e → (at ≤ i) × (held_at h i ≡ Some e)
left_is [] at i e = λ k. none_some e k
left_is (x ∷ xs) at i e =
    cond_both (nat_le at x.0) (x ∷ staged_from xs at) (staged_from xs at) (λ y. held_at y i ≡ Some e → (at ≤ i) × (held_at (x ∷ xs) i ≡ Some e))
    (λ c k. kept (leb-true at x.0 c) (left_is xs at i e) (sym (head_is i x (staged_from xs at)) ∙ k))
    (λ c k. let r = left_is xs at i e k in (r.0, head_is i x xs ∙ ap (λ (b : Bool). cond b (Some x.1) (held_at xs i)) (apart (leb-false at x.0 c) r.0) ∙ r.1))
  where
    kept : at ≤ x.0 → (held_at (staged_from xs at) i ≡ Some e → (at ≤ i) × (held_at xs i ≡ Some e)) → cond (eqb i x.0) (Some x.1) (held_at (staged_from xs at) i) ≡ Some e → (at ≤ i) × (held_at (x ∷ xs) i ≡ Some e)
    kept le h = by (eqb i x.0) refl
      where
        by : (b : Bool) → eqb i x.0 ≡ b → cond b (Some x.1) (held_at (staged_from xs at) i) ≡ Some e → (at ≤ i) × (held_at (x ∷ xs) i ≡ Some e)
        by true c k = (omega (arith, le, eqb-true i x.0 c), head_is i x xs ∙ ap (λ (b : Bool). cond b (Some x.1) (held_at xs i)) c ∙ k)
        by false c k = let r = h k in (r.0, head_is i x xs ∙ ap (λ (b : Bool). cond b (Some x.1) (held_at xs i)) c ∙ r.1)

    apart : x.0 < at → at ≤ i → eqb i x.0 ≡ false
    apart lt le = by (eqb i x.0) refl
      where
        by : (b : Bool) → eqb i x.0 ≡ b → b ≡ false
        by true c = absurd (omega (arith, lt, le, eqb-true i x.0 c))
        by false c = refl

pub left_each : (P : ℕ → Entry → Type 0) (h : Held) (at : ℕ) → EachHeld P h → EachHeld P (staged_from h at)
left_each P h at f i e k = f i e (left_is h at i e k).1
