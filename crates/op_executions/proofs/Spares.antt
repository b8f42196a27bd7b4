-- An id that is put at its place among others.
use Rattle.std.proofs.Common.{◌≡◌, ◌<◌, ◌≤◌, ◌+◌, ℕ, zero, suc, Bool, cond, eqb, ltb, List, [], ◌∷◌, length, get_or, insert, refl, sym, ap, subst, ◌∙◌, arith, ⊎_elim}
use Rattle.std.proofs.lemmas.Bool.{cases_lt, cases_eq, lt-ltb, le-ltb, eq-eqb, ne_eqb, cond-true, cond-false}
use Rattle.std.specs.BTreeSet.{insert_key}
use Rattle.std.specs.Ordering.{nat_cmp, match_ordering}
use Rattle.std.specs.declared.cmp.Ordering.{Ordering}
use Rattle.std.specs.declared.cmp.Ordering.TheVariants.{Less, Equal, Greater}
use Rattle.op_executions.specs.Ids.{count_below}

-- ---- one step of the way to the place

abbrev by_cmp : ℕ → ℕ → List ℕ → Ordering → List ℕ
by_cmp k x ids o = match_ordering o (k ∷ x ∷ ids) (x ∷ ids) (x ∷ insert_key nat_cmp ids k)

pub above : (k x : ℕ) (ids : List ℕ) → x < k → insert_key nat_cmp (x ∷ ids) k ≡ x ∷ insert_key nat_cmp ids k
above k x ids less =
    ap (λ (b : Bool). by_cmp k x ids (cond b Less (cond (eqb k x) Equal Greater))) (le-ltb k x (omega (arith, less)))
    ∙ ap (λ (c : Bool). by_cmp k x ids (cond c Equal Greater)) (ne_eqb k x (λ e. omega (arith, less, e)))

pub equal : (k x : ℕ) (ids : List ℕ) → k ≡ x → insert_key nat_cmp (x ∷ ids) k ≡ x ∷ ids
equal k x ids same =
    ap (λ (b : Bool). by_cmp k x ids (cond b Less (cond (eqb k x) Equal Greater))) (le-ltb k x (omega (arith, same)))
    ∙ ap (λ (c : Bool). by_cmp k x ids (cond c Equal Greater)) (eq-eqb k x same)

pub below : (k x : ℕ) (ids : List ℕ) → k < x → insert_key nat_cmp (x ∷ ids) k ≡ k ∷ x ∷ ids
below k x ids less = ap (λ (b : Bool). by_cmp k x ids (cond b Less (cond (eqb k x) Equal Greater))) (lt-ltb k x less)

count_more : (x : ℕ) (ids : List ℕ) (k : ℕ) → x < k → count_below (x ∷ ids) k ≡ suc (count_below ids k)
count_more x ids k less = let next : 1 + count_below ids k ≡ suc (count_below ids k) = omega arith in cond-true (ltb x k) (1 + count_below ids k) 0 (lt-ltb x k less) ∙ next

count_none : (x : ℕ) (ids : List ℕ) (k : ℕ) → k ≤ x → count_below (x ∷ ids) k ≡ 0
count_none x ids k most = cond-false (ltb x k) (1 + count_below ids k) 0 (le-ltb x k most)

-- ---- at its place

-- the id stands there already
pub put_same : (ids : List ℕ) (k : ℕ) → count_below ids k < length ids → get_or ids (count_below ids k) 0 ≡ k → insert_key nat_cmp ids k ≡ ids
put_same [] k there same = absurd (omega (arith, there))
put_same (x ∷ ids) k there same = ⊎_elim (more (put_same ids k)) none (cases_lt x k)
  where
    more : (count_below ids k < length ids → get_or ids (count_below ids k) 0 ≡ k → insert_key nat_cmp ids k ≡ ids) → x < k → insert_key nat_cmp (x ∷ ids) k ≡ x ∷ ids
    more rest less =
        let count = count_more x ids k less in
        let at : suc (count_below ids k) < suc (length ids) = subst (λ (n : ℕ). n < suc (length ids)) count there in
        above k x ids less ∙ ap (λ (ks : List ℕ). x ∷ ks) (rest (omega (arith, at)) (subst (λ (n : ℕ). get_or (x ∷ ids) n 0 ≡ k) count same))

    none : k ≤ x → insert_key nat_cmp (x ∷ ids) k ≡ x ∷ ids
    none most = equal k x ids (sym (subst (λ (n : ℕ). get_or (x ∷ ids) n 0 ≡ k) (count_none x ids k most) same))

-- it doesn't, and is put there
pub put_new : (ids : List ℕ) (k : ℕ) → (count_below ids k < length ids → get_or ids (count_below ids k) 0 ≡ k → ⊥) → insert_key nat_cmp ids k ≡ insert ids (count_below ids k) k
put_new [] k new = refl
put_new (x ∷ ids) k new = ⊎_elim (more (put_new ids k)) none (cases_lt x k)
  where
    more : ((count_below ids k < length ids → get_or ids (count_below ids k) 0 ≡ k → ⊥) → insert_key nat_cmp ids k ≡ insert ids (count_below ids k) k) → x < k → insert_key nat_cmp (x ∷ ids) k ≡ insert (x ∷ ids) (count_below (x ∷ ids) k) k
    more rest less =
        let count = count_more x ids k less in
        let fresh : count_below ids k < length ids → get_or ids (count_below ids k) 0 ≡ k → ⊥ =
        λ there same. new (subst (λ (n : ℕ). n < suc (length ids)) (sym count) (let at : suc (count_below ids k) < suc (length ids) = omega (arith, there) in at)) (subst (λ (n : ℕ). get_or (x ∷ ids) n 0 ≡ k) (sym count) same) in
        above k x ids less ∙ ap (λ (ks : List ℕ). x ∷ ks) (rest fresh) ∙ ap (λ (n : ℕ). insert (x ∷ ids) n k) (sym count)

    none : k ≤ x → insert_key nat_cmp (x ∷ ids) k ≡ insert (x ∷ ids) (count_below (x ∷ ids) k) k
    none most =
        let count = count_none x ids k most in
        let differ : k ≡ x → ⊥ = λ e. new (subst (λ (n : ℕ). n < suc (length ids)) (sym count) (let at : 0 < suc (length ids) = omega arith in at)) (subst (λ (n : ℕ). get_or (x ∷ ids) n 0 ≡ k) (sym count) (sym e)) in
        below k x ids (⊎_elim (λ (e : k ≡ x). absurd (differ e)) (λ (d : k ≡ x → ⊥). omega (arith, most, d)) (cases_eq k x)) ∙ ap (λ (n : ℕ). insert (x ∷ ids) n k) (sym count)

-- an element that is there is the same whatever stands for one that isn't
pub at_any : (xs : List ℕ) (n d e : ℕ) → n < length xs → get_or xs n d ≡ get_or xs n e
at_any [] n d e there = absurd (omega (arith, there))
at_any (x ∷ xs) zero d e there = refl
at_any (x ∷ xs) (suc n) d e there = at_any xs n d e (omega (arith, there))

-- the same, of a place that was counted
pub same_there : (ids : List ℕ) (k place : ℕ) → place ≡ count_below ids k → place < length ids → get_or ids place 0 ≡ k → ids ≡ insert_key nat_cmp ids k
same_there ids k place is there same = sym (put_same ids k (subst (λ (n : ℕ). n < length ids) is there) (subst (λ (n : ℕ). get_or ids n 0 ≡ k) is same))

pub new_there : (ids : List ℕ) (k place : ℕ) → place ≡ count_below ids k → (place < length ids → get_or ids place 0 ≡ k → ⊥) → insert ids place k ≡ insert_key nat_cmp ids k
new_there ids k place is new =
    ap (λ (n : ℕ). insert ids n k) is ∙ sym (put_new ids k (λ there same. new (subst (λ (n : ℕ). n < length ids) (sym is) there) (subst (λ (n : ℕ). get_or ids n 0 ≡ k) (sym is) same)))
