-- What is held from a position to another, taken out, and whether it is whole.
use Rattle.std.proofs.Common.{◌≡◌, ℕ, zero, suc, ◌+◌, ◌-◌, ◌<◌, ◌≤◌, Bool, true, false, cond, eqb, ltb, leb, ◌&&◌, List, [], ◌∷◌, refl, sym, ap, ◌∙◌, subst, arith, ⊎_elim, true≢false}
use Rattle.std.specs.Prelude.{Option, Some, None, is_some}
use Rattle.std.proofs.lemmas.Bool.{lt-ltb, le-ltb, le-leb, lt-leb, eq-eqb, eqb-true, ltb-true, cases_lt}
use Rattle.op_types.specs.declared.log.Entry.{Entry}
use Rattle.op_types.specs.declared.durable.Joining.{Joining}
use Rattle.op_types.specs.declared.durable.Closed.{Closed}
use Rattle.op_types.specs.declared.durable.Durable.{Durable}
use Rattle.op_types.specs.Rises.{AreAbove, Rises}
use Rattle.op_types.specs.Rings.{entries_between, next_after}
use Rattle.op_types.specs.Joinings.{Base, held_at, with_first, held_run, covered, cover_of, IsWhole}
use Rattle.op_types.specs.declared.durable.Part.{Part}
use Rattle.op_types.specs.declared.changes.Change.TheVariants as change
use Rattle.op_types.specs.Changes.{new_part, closed_joined, durable_joined, durable_joining, JoiningOptionApplies}
use Rattle.op_types.proofs.HeldLists.{at_first, none_above, run_past, run_broken}

abbrev Placed : Type 0
Placed = List (ℕ × Entry)

-- ---- entries between two positions

abbrev step : Bool → Entry → List Entry → List Entry
step b e es = cond b (e ∷ es) es

skips : (x : ℕ × Entry) (xs : Placed) (from to : ℕ) → (leb from x.0 && ltb x.0 to) ≡ false → entries_between (x ∷ xs) from to ≡ entries_between xs from to
skips x xs from to h = ap (λ (b : Bool). step b x.1 (entries_between xs from to)) h

below_skips : (x : ℕ × Entry) (from to : ℕ) → x.0 < from → (leb from x.0 && ltb x.0 to) ≡ false
below_skips x from to h = ap (λ (b : Bool). b && ltb x.0 to) (lt-leb from x.0 h)

beyond_skips : (x : ℕ × Entry) (from to : ℕ) → to ≤ x.0 → (leb from x.0 && ltb x.0 to) ≡ false
beyond_skips x from to h = ap (λ (b : Bool). leb from x.0 && b) (le-ltb x.0 to h) ∙ and_false (leb from x.0)
  where
    and_false : (b : Bool) → (b && false) ≡ false
    and_false true = refl
    and_false false = refl

none_between : (xs : Placed) (from to : ℕ) → to ≤ from → entries_between xs from to ≡ []
none_between [] from to le = refl
none_between (x ∷ xs) from to le =
    skips x xs from to (⊎_elim (λ (h : x.0 < from). below_skips x from to h) (λ (h : from ≤ x.0). beyond_skips x from to (omega arith)) (cases_lt x.0 from)) ∙ none_between xs from to le

past_first : (xs : Placed) (from to : ℕ) → AreAbove from xs → entries_between xs from to ≡ entries_between xs (from + 1) to
past_first [] from to h = refl
past_first (x ∷ xs) from to h =
    let lt : from < x.0 = h.0 in
    let same : leb from x.0 ≡ leb (from + 1) x.0 = le-leb from x.0 (omega arith) ∙ sym (le-leb (from + 1) x.0 (omega arith)) in
    ap (λ (b : Bool). step (b && ltb x.0 to) x.1 (entries_between xs from to)) same
    ∙ ap (λ (l : List Entry). step (leb (from + 1) x.0 && ltb x.0 to) x.1 l) (past_first xs from to h.1)

some_not_none : {A : Type 0} (x : A) → Some x ≡ None → ⊥
some_not_none x e = absurd (true≢false (ap is_some e))

-- the parts of a run of at least one position
first_of_run : (o : Option Entry) (r : Option (List Entry)) (es : List Entry) → with_first o r ≡ Some es → (e : Entry) × (rest : List Entry) × (o ≡ Some e) × (r ≡ Some rest) × (e ∷ rest ≡ es)
first_of_run None r es h = absurd (some_not_none es (sym h))
first_of_run (Some e) None es h = absurd (some_not_none es (sym h))
first_of_run (Some e) (Some rest) es h = (e, rest, refl, refl, cc)

same_some : {A : Type 0} (x y : A) → Some x ≡ Some y → x ≡ y
same_some x y e = cc

above_of : (n m : ℕ) (ys : Placed) → m < n → AreAbove n ys → AreAbove m ys
above_of n m [] lt h = tt
above_of n m (y ∷ ys) lt h = (omega (arith, h.0), above_of n m ys lt h.1)

-- the same, where the first one stands at the first position or above it
run_is_at : (x : ℕ × Entry) (xs : Placed) (from to k : ℕ) (es : List Entry) → AreAbove x.0 xs → suc k ≡ to - from → from ≤ x.0 → held_run (x ∷ xs) from (suc k) ≡ Some es
    → ((rest : List Entry) → held_run xs (from + 1) k ≡ Some rest → entries_between xs (from + 1) to ≡ rest) → entries_between (x ∷ xs) from to ≡ es
run_is_at x xs from to k es above size le h next = ⊎_elim
    (λ (lt : from < x.0). absurd (some_not_none es (sym h ∙ run_broken (x ∷ xs) from (suc k) (none_above from (x ∷ xs) (lt, above_of x.0 from xs lt above)) (omega arith))))
    (λ (ge : x.0 ≤ from).
    let same : from ≡ x.0 = omega arith in
    let p = first_of_run (held_at (x ∷ xs) from) (held_run (x ∷ xs) (from + 1) k) es h in
    let is_e : x.1 ≡ p.0 = same_some x.1 p.0 (sym (at_first from x xs same) ∙ p.2) in
    let rest : entries_between xs (from + 1) to ≡ p.1 = next p.1 (sym (run_past x xs (from + 1) k (omega arith)) ∙ p.3) in
    let in_range : (leb from x.0 && ltb x.0 to) ≡ true = ap (λ (b : Bool). b && ltb x.0 to) (le-leb from x.0 le) ∙ lt-ltb x.0 to (omega arith) in
    let behind : AreAbove from xs = subst (λ (n : ℕ). AreAbove n xs) (sym same) above in
    ap (λ (b : Bool). step b x.1 (entries_between xs from to)) in_range
    ∙ ap (λ (l : List Entry). x.1 ∷ l) (past_first xs from to behind ∙ rest) ∙ ap (λ (e : Entry). e ∷ p.1) is_e ∙ p.4)
    (cases_lt from x.0)

pub run_is : (xs : Placed) (from to count : ℕ) (es : List Entry) → Rises xs → count ≡ to - from → held_run xs from count ≡ Some es → entries_between xs from to ≡ es
run_is [] from to zero es rises size h = same_some [] es h
run_is (x ∷ xs) from to zero es rises size h = none_between (x ∷ xs) from to (omega arith) ∙ same_some [] es h
run_is [] from to (suc k) es rises size h = absurd (some_not_none es (sym h))
run_is (x ∷ xs) from to (suc k) es rises size h = ⊎_elim
    (λ (lt : x.0 < from). skips x xs from to (below_skips x from to lt) ∙ run_is xs from to (suc k) es rises.1 size (sym (run_past x xs from (suc k) lt) ∙ h))
    (λ (le : from ≤ x.0). run_is_at x xs from to k es rises.0 size le h (λ rest r. run_is xs (from + 1) to k rest rises.1 (omega arith) r))
    (cases_lt x.0 from)

-- ---- whole

-- a joining that is whole has a base and entries
pub whole_parts : (j : Joining) (o : Option Base) → is_some (covered o j.held.items j.len) ≡ true → (b : Base) × (es : List Entry) × (o ≡ Some b) × (held_run j.held.items b.0 (j.len - b.0) ≡ Some es)
whole_parts j None h = absurd (true≢false (sym h))
whole_parts j (Some b) h = some_run (held_run j.held.items b.0 (j.len - b.0)) refl h
  where
    some_run : (r : Option (List Entry)) → held_run j.held.items b.0 (j.len - b.0) ≡ r → is_some r ≡ true → (c : Base) × (es : List Entry) × (Some b ≡ Some c) × (held_run j.held.items c.0 (j.len - c.0) ≡ Some es)
    some_run None e h = absurd (true≢false (sym h))
    some_run (Some es) e h = (b, es, refl, e)

-- the durable state of a node that goes on with the closed list that it covered
pub joined_is : (j : Joining) (base : List ℕ) (d : Durable) (closed : Closed) → IsWhole j
    → ((b : Base) (es : List Entry) → j.base ≡ Some b → cover_of j ≡ Some es → closed ≡ closed_joined j b es)
    → record d { part = Some (new_part j.conf j.members base); closed = Some closed; joining = None } ≡ durable_joined j base j.base (cover_of j) d
joined_is j base d closed whole is =
    let p = whole_parts j j.base whole in
    let covers : cover_of j ≡ Some p.1 = ap (λ (o : Option Base). covered o j.held.items j.len) p.2 ∙ p.3 in
    let closed_is : closed ≡ closed_joined j p.0 p.1 = is p.0 p.1 p.2 covers in
    ap (λ (k : Closed). let e : Durable = record d { part = Some (new_part j.conf j.members base); closed = Some k; joining = None } in e) closed_is
    ∙ sym (ap (λ (o : Option Base). durable_joined j base o (cover_of j) d) p.2 ∙ ap (λ (o : Option (List Entry)). durable_joined j base (Some p.0) o d) covers)

-- the same, of what stands in its place
pub joined_from : (d : Durable) (j : Joining) (base copy : List ℕ) (part : Part) (closed : Closed) (after : Option Joining) → d.joining ≡ Some j → JoiningOptionApplies d.joining (change.JoinDone base)
    → part ≡ new_part j.conf copy base → copy ≡ j.members → ((b : Base) (es : List Entry) → j.base ≡ Some b → cover_of j ≡ Some es → closed ≡ closed_joined j b es) → after ≡ None
    → record { part = Some part; closed = Some closed; joining = after } ≡ durable_joining d.joining d base
joined_from d j base copy part closed after e applies part_is same is none =
    let whole : IsWhole j = subst (λ (o : Option Joining). JoiningOptionApplies o (change.JoinDone base)) e applies in
    let made : part ≡ new_part j.conf j.members base = part_is ∙ ap (λ (members : List ℕ). new_part j.conf members base) same in
    ap (λ (p : Part). let x : Durable = record { part = Some p; closed = Some closed; joining = after } in x) made
    ∙ ap (λ (i : Option Joining). let x : Durable = record { part = Some (new_part j.conf j.members base); closed = Some closed; joining = i } in x) none
    ∙ joined_is j base d closed whole is ∙ sym (ap (λ (o : Option Joining). durable_joining o d base) e)

-- ---- a walk that looks whether all positions are held

covers_next : (x : ℕ × Entry) (xs : Placed) (next to : ℕ) → Rises (x ∷ xs) → next < to → x.0 ≡ next → is_some (held_run xs (next + 1) (to - (next + 1))) ≡ is_some (held_run (x ∷ xs) next (to - next))
covers_next x xs next to rises lt here =
    let size : to - next ≡ suc (to - (next + 1)) = omega arith in
    let r : held_run (x ∷ xs) (next + 1) (to - (next + 1)) ≡ held_run xs (next + 1) (to - (next + 1)) = run_past x xs (next + 1) (to - (next + 1)) (omega arith) in
    sym (ap (λ (n : ℕ). is_some (held_run (x ∷ xs) next n)) size
    ∙ ap (λ (o : Option Entry). is_some (with_first o (held_run (x ∷ xs) (next + 1) (to - (next + 1))))) (at_first next x xs (sym here))
    ∙ some_first x.1 (held_run (x ∷ xs) (next + 1) (to - (next + 1))) ∙ ap is_some r)
  where
    some_first : (e : Entry) (o : Option (List Entry)) → is_some (with_first (Some e) o) ≡ is_some o
    some_first e None = refl
    some_first e (Some es) = refl

covers_same : (x : ℕ × Entry) (xs : Placed) (next to : ℕ) → Rises (x ∷ xs) → (next < to → x.0 ≡ next → ⊥) → is_some (held_run xs next (to - next)) ≡ is_some (held_run (x ∷ xs) next (to - next))
covers_same x xs next to rises other = ⊎_elim
    (λ (lt : next < to). ⊎_elim
    (λ (low : x.0 < next). sym (ap is_some (run_past x xs next (to - next) low)))
    (λ (le : next ≤ x.0). ⊎_elim
    (λ (high : next < x.0).
    ap is_some (run_broken xs next (to - next) (none_above next xs (above_of x.0 next xs high rises.0)) (omega arith)) ∙ sym (ap is_some (run_broken (x ∷ xs) next (to - next) (none_above next (x ∷ xs) (high, above_of x.0 next xs high rises.0)) (omega arith))))
    (λ (ge : x.0 ≤ next). absurd (other lt (omega arith)))
    (cases_lt next x.0))
    (cases_lt x.0 next))
    (λ (ge : to ≤ next). let none : to - next ≡ 0 = omega arith in ap (λ (n : ℕ). is_some (held_run xs next n)) none ∙ sym (ap (λ (n : ℕ). is_some (held_run (x ∷ xs) next n)) none))
    (cases_lt next to)

and_parts_true : (a b : Bool) → (a && b) ≡ true → (a ≡ true) × (b ≡ true)
and_parts_true true b h = (refl, h)
and_parts_true false b h = absurd (true≢false (sym h))

by_test : (x : ℕ × Entry) (xs : Placed) (next to : ℕ) (b : Bool) → (ltb next to && eqb x.0 next) ≡ b → Rises (x ∷ xs)
    → is_some (held_run xs (cond b (next + 1) next) (to - cond b (next + 1) next)) ≡ is_some (held_run (x ∷ xs) next (to - next))
by_test x xs next to true e rises = let p = and_parts_true (ltb next to) (eqb x.0 next) e in covers_next x xs next to rises (ltb-true next to p.0) (eqb-true x.0 next p.1)
by_test x xs next to false e rises = covers_same x xs next to rises (λ lt here. true≢false (sym (ap (λ (b : Bool). b && eqb x.0 next) (lt-ltb next to lt) ∙ eq-eqb x.0 next here) ∙ e))

pub covers_step : (x : ℕ × Entry) (xs : Placed) (next to : ℕ) → Rises (x ∷ xs) → is_some (held_run xs (next_after next to x.0) (to - next_after next to x.0)) ≡ is_some (held_run (x ∷ xs) next (to - next))
covers_step x xs next to rises = by_test x xs next to (ltb next to && eqb x.0 next) refl rises

pub covers_end : (next to : ℕ) → is_some (held_run [] next (to - next)) ≡ leb to next
covers_end next to = ⊎_elim
    (λ (lt : next < to). let size : to - next ≡ suc (to - (next + 1)) = omega arith in ap (λ (n : ℕ). is_some (held_run [] next n)) size ∙ sym (lt-leb to next lt))
    (λ (ge : to ≤ next). let none : to - next ≡ 0 = omega arith in ap (λ (n : ℕ). is_some (held_run [] next n)) none ∙ sym (le-leb to next ge))
    (cases_lt next to)
