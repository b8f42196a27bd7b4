-- Entries that come to a ring: what was passed and what is left, read as one list, is what is held.
use Rattle.std.proofs.Common.{◌≡◌, ℕ, zero, suc, ◌+◌, ◌-◌, ◌<◌, ◌≤◌, true, false, List, [], ◌∷◌, ◌++◌, length, take, drop, sym, ap, ◌∙◌, subst, append_assoc, arith}
use Rattle.std.proofs.lemmas.Bool.{ltb-true, ltb-false, eqb-true, eqb-false}
use Rattle.std.proofs.lemmas.List.{take-append-le, drop-append-le, length-append}
use Rattle.op_types.specs.declared.log.Entry.{Entry}
use Rattle.op_types.specs.Rises.{AreAbove, Rises}
use Rattle.op_types.specs.Rings.{is_first_below, is_first_at, AreBelow, AreFrom, IsPassed, unrolled, Merging}
use Rattle.op_types.specs.Joinings.{held_with}
use Rattle.op_types.proofs.HeldLists.{below-append, below_more, comes_between, from_above, rises_between, rises_tail, stays_there}

abbrev Placed : Type 0
Placed = List (ℕ × Entry)

-- ---- the first one goes to the back

drop_turned : (k : ℕ) (x : ℕ × Entry) (r : Placed) → k ≤ length r → drop k (r ++ x ∷ []) ≡ drop k r ++ x ∷ []
drop_turned k x r le = drop-append-le k r (x ∷ []) le

take_turned : (k : ℕ) (x : ℕ × Entry) (r : Placed) → k ≤ length r → take k (r ++ x ∷ []) ≡ take k r
take_turned k x r le = take-append-le k r (x ∷ []) le

same_turned : (k : ℕ) (x : ℕ × Entry) (r : Placed) → k ≤ length r → unrolled k (r ++ x ∷ []) ≡ unrolled (suc k) (x ∷ r)
same_turned k x r le =
    ap (λ (l : Placed). l ++ take k (r ++ x ∷ [])) (drop_turned k x r le) ∙ ap (λ (l : Placed). (drop k r ++ x ∷ []) ++ l) (take_turned k x r le)
    ∙ append_assoc (drop k r) (x ∷ []) (take k r)

-- ---- passing what is below

-- so far: the list is the same, and what was passed is below
pub record Passing (old : Placed) (place : ℕ) (ring : Placed) (left : ℕ) : Type 0 where
  pub items : unrolled left ring ≡ old
  pub within : left ≤ length ring
  pub below : AreBelow place (drop left ring)

pub passing_next : (old : Placed) (place : ℕ) (ring new : Placed) (left : ℕ) → Passing old place ring left → 0 < left → is_first_below ring place ≡ true → new ≡ drop 1 ring ++ take 1 ring
    → Passing old place new (left - 1)
passing_next old place ring new zero p some first is = absurd (omega arith)
passing_next old place [] new (suc k) p some first is = absurd (let h = p.within in omega arith)
passing_next old place (x ∷ r) new (suc k) p some first is =
    let le : k ≤ length r = let h = p.within in omega arith in
    let less : k ≡ suc k - 1 = omega arith in
    subst (λ (n : ℕ). Passing old place new n) less (
    subst (λ (l : Placed). Passing old place l k) (sym is) (
    record {
      items = same_turned k x r le ∙ p.items;
      within = omega (arith, length-append r (x ∷ []));
      below = subst (λ (l : Placed). AreBelow place l) (sym (drop_turned k x r le)) (below-append place (drop k r) (x ∷ []) p.below (ltb-true x.0 place first, tt));
    }
    )
    )

above_from : (n place : ℕ) (xs : Placed) → place ≤ n → AreAbove n xs → AreFrom place xs
above_from n place [] le h = tt
above_from n place (x ∷ xs) le h = (omega (arith, h.0), above_from n place xs le h.1)

-- where the first one that is left isn't below, none that is left is
left_from : (place left : ℕ) (ring : Placed) → Rises (unrolled left ring) → (0 < left → is_first_below ring place ≡ false) → AreFrom place (take left ring)
left_from place zero ring rises none = tt
left_from place (suc k) [] rises none = tt
left_from place (suc k) (x ∷ r) rises none =
    let le : place ≤ x.0 = ltb-false x.0 place (none (omega arith)) in
    (le, above_from x.0 place (take k r) le (rises_tail (drop k r) x (take k r) rises))

pub passed_all : (old : Placed) (place : ℕ) (ring : Placed) (left : ℕ) → Rises old → Passing old place ring left → (0 < left → is_first_below ring place ≡ false) → IsPassed old place ring left
passed_all old place ring left rises p none =
    record {
      items = p.items;
      within = p.within;
      below = p.below;
      from = left_from place left ring (subst (λ (l : Placed). Rises l) (sym p.items) rises) none;
    }

-- ---- entries come

-- the first one that is left holds the position, and is passed
pub merging_kept : (ring new : Placed) (left place : ℕ) (e : Entry) (rest : List Entry) (whole : Placed) → Merging ring left place (e ∷ rest) whole → 0 < left → is_first_at ring place ≡ true
    → new ≡ drop 1 ring ++ take 1 ring → Merging new (left - 1) (place + 1) rest whole
merging_kept ring new zero place e rest whole m some first is = absurd (omega arith)
merging_kept [] new (suc k) place e rest whole m some first is = absurd (let h = m.within in omega arith)
merging_kept (x ∷ r) new (suc k) place e rest whole m some first is =
    let le : k ≤ length r = let h = m.within in omega arith in
    let less : k ≡ suc k - 1 = omega arith in
    let here : x.0 ≡ place = eqb-true x.0 place first in
    let above : AreAbove x.0 (take k r) = rises_tail (drop k r) x (take k r) m.rises in
    let same : unrolled k (r ++ x ∷ []) ≡ unrolled (suc k) (x ∷ r) = same_turned k x r le in
    subst (λ (n : ℕ). Merging new n (place + 1) rest whole) less (
    subst (λ (l : Placed). Merging l k (place + 1) rest whole) (sym is) (
    record {
      rises = subst (λ (l : Placed). Rises l) (sym same) m.rises;
      within = omega (arith, length-append r (x ∷ []));
      below = subst (λ (l : Placed). AreBelow (place + 1) l) (sym (drop_turned k x r le)) (below-append (place + 1) (drop k r) (x ∷ []) (below_more place (place + 1) (drop k r) (omega arith) m.below) (omega (arith, here), tt));
      from = subst (λ (l : Placed). AreFrom (place + 1) l) (sym (take_turned k x r le)) (subst (λ (n : ℕ). AreFrom (n + 1) (take k r)) here (from_above x.0 (take k r) above));
      total =
          ap (λ (l : Placed). held_with l (place + 1) rest) (same ∙ sym (stays_there place e (drop k r) x (take k r) m.below (sym here))) ∙ m.total;
    }
    )
    )

-- none that is left holds the position
none_here : (place left : ℕ) (ring : Placed) → Rises (unrolled left ring) → AreFrom place (take left ring) → (0 < left → is_first_at ring place ≡ false) → AreAbove place (take left ring)
none_here place zero ring rises from none = tt
none_here place (suc k) [] rises from none = tt
none_here place (suc k) (x ∷ r) rises from none =
    let other = eqb-false x.0 place (none (omega arith)) in
    let lt : place < x.0 = let le = from.0 in omega (arith, other) in
    (lt, above_of x.0 place (take k r) lt (rises_tail (drop k r) x (take k r) rises))
  where
    above_of : (n m : ℕ) (xs : Placed) → m < n → AreAbove n xs → AreAbove m xs
    above_of n m [] lt h = tt
    above_of n m (y ∷ ys) lt h = (omega (arith, h.0), above_of n m ys lt h.1)

-- the entry comes behind what was passed
pub merging_added : (ring new : Placed) (left place : ℕ) (e : Entry) (rest : List Entry) (whole : Placed) → Merging ring left place (e ∷ rest) whole → (0 < left → is_first_at ring place ≡ false)
    → new ≡ ring ++ (place, e) ∷ [] → Merging new left (place + 1) rest whole
merging_added ring new left place e rest whole m none is =
    let y : ℕ × Entry = (place, e) in
    let above : AreAbove place (take left ring) = none_here place left ring m.rises m.from none in
    let dropped : drop left (ring ++ y ∷ []) ≡ drop left ring ++ y ∷ [] = drop-append-le left ring (y ∷ []) m.within in
    let taken : take left (ring ++ y ∷ []) ≡ take left ring = take-append-le left ring (y ∷ []) m.within in
    let same : unrolled left (ring ++ y ∷ []) ≡ drop left ring ++ y ∷ take left ring =
    ap (λ (l : Placed). l ++ take left (ring ++ y ∷ [])) dropped ∙ ap (λ (l : Placed). (drop left ring ++ y ∷ []) ++ l) taken ∙ append_assoc (drop left ring) (y ∷ []) (take left ring) in
    subst (λ (l : Placed). Merging l left (place + 1) rest whole) (sym is) (
    record {
      rises = subst (λ (l : Placed). Rises l) (sym same) (rises_between place e (drop left ring) (take left ring) m.rises m.below above);
      within = let h = m.within in omega (arith, length-append ring (y ∷ []));
      below = subst (λ (l : Placed). AreBelow (place + 1) l) (sym dropped) (below-append (place + 1) (drop left ring) (y ∷ []) (below_more place (place + 1) (drop left ring) (omega arith) m.below) (omega arith, tt));
      from = subst (λ (l : Placed). AreFrom (place + 1) l) (sym taken) (from_above place (take left ring) above);
      total = ap (λ (l : Placed). held_with l (place + 1) rest) (same ∙ sym (comes_between place e (drop left ring) (take left ring) m.below above)) ∙ m.total;
    }
    )
