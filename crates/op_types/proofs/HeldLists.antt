-- Entries by rising positions: what is held at a position, and entries that come between.
use Rattle.std.proofs.Common.{◌≡◌, ℕ, zero, suc, ◌+◌, ◌<◌, ◌≤◌, Bool, false, cond, eqb, List, [], ◌∷◌, ◌++◌, refl, ap, ◌∙◌, arith}
use Rattle.std.specs.Prelude.{Option, Some, None, is_some, filter}
use Rattle.std.specs.declared.cmp.Ordering.{Ordering}
use Rattle.std.specs.declared.cmp.Ordering.TheVariants.{Less, Equal, Greater}
use Rattle.std.specs.Ordering.{nat_cmp, is_eq, match_ordering}
use Rattle.std.specs.BTreeMap.{insert_entry}
use Rattle.std.proofs.lemmas.Bool.{lt-ltb, le-ltb, eq-eqb, cond_both}
use Rattle.op_types.specs.declared.log.Entry.{Entry}
use Rattle.op_types.specs.Rises.{AreAbove, Rises}
use Rattle.op_types.specs.Rings.{AreBelow, AreFrom}
use Rattle.op_types.specs.Joinings.{held_at, held_with_entry, with_first, held_run}

-- ---- the order of positions

pub less : (m n : ℕ) → m < n → nat_cmp m n ≡ Less
less m n h = ap (λ (b : Bool). cond b Less (cond (eqb m n) Equal Greater)) (lt-ltb m n h)

pub equal : (n : ℕ) → nat_cmp n n ≡ Equal
equal n =
    ap (λ (b : Bool). cond b Less (cond (eqb n n) Equal Greater)) (le-ltb n n (omega arith))
    ∙ ap (λ (b : Bool). cond b Equal Greater) (eq-eqb n n refl)

not_equal : (m n : ℕ) → n < m → eqb m n ≡ false
not_equal m n h = grind arith

pub greater : (m n : ℕ) → n < m → nat_cmp m n ≡ Greater
greater m n h =
    ap (λ (b : Bool). cond b Less (cond (eqb m n) Equal Greater)) (le-ltb m n (omega arith))
    ∙ ap (λ (b : Bool). cond b Equal Greater) (not_equal m n h)

-- ---- what is held at a position

pub at_other : (n : ℕ) (x : ℕ × Entry) (xs : List (ℕ × Entry)) (o : Ordering) → nat_cmp n x.0 ≡ o → is_eq o ≡ false → held_at (x ∷ xs) n ≡ held_at xs n
at_other n x xs o e other = ap (λ (p : Ordering). cond (is_eq p) (Some x.1) (held_at xs n)) e ∙ ap (λ (b : Bool). cond b (Some x.1) (held_at xs n)) other

pub at_past : (n : ℕ) (x : ℕ × Entry) (xs : List (ℕ × Entry)) → x.0 < n → held_at (x ∷ xs) n ≡ held_at xs n
at_past n x xs h = at_other n x xs Greater (greater n x.0 h) refl

pub at_before : (n : ℕ) (x : ℕ × Entry) (xs : List (ℕ × Entry)) → n < x.0 → held_at (x ∷ xs) n ≡ held_at xs n
at_before n x xs h = at_other n x xs Less (less n x.0 h) refl

pub at_first : (n : ℕ) (x : ℕ × Entry) (xs : List (ℕ × Entry)) → n ≡ x.0 → held_at (x ∷ xs) n ≡ Some x.1
at_first n x xs same =
    ap (λ (m : ℕ). cond (is_eq (nat_cmp m x.0)) (Some x.1) (held_at xs n)) same
    ∙ ap (λ (p : Ordering). cond (is_eq p) (Some x.1) (held_at xs n)) (equal x.0)

pub none_above : (n : ℕ) (xs : List (ℕ × Entry)) → AreAbove n xs → held_at xs n ≡ None
none_above n [] h = refl
none_above n (x ∷ xs) h = at_before n x xs h.0 ∙ none_above n xs h.1

pub above_less : (m n : ℕ) (xs : List (ℕ × Entry)) → m ≤ n → AreAbove n xs → AreAbove m xs
above_less m n [] le h = tt
above_less m n (x ∷ xs) le h = (omega (arith, h.0), above_less m n xs le h.1)

pub from_above : (n : ℕ) (xs : List (ℕ × Entry)) → AreAbove n xs → AreFrom (n + 1) xs
from_above n [] h = tt
from_above n (x ∷ xs) h = (omega (arith, h.0), from_above n xs h.1)

pub below_more : (m n : ℕ) (xs : List (ℕ × Entry)) → m ≤ n → AreBelow m xs → AreBelow n xs
below_more m n [] le h = tt
below_more m n (x ∷ xs) le h = (omega (arith, h.0), below_more m n xs le h.1)

pub below-append : (n : ℕ) (xs ys : List (ℕ × Entry)) → AreBelow n xs → AreBelow n ys → AreBelow n (xs ++ ys)
below-append n [] ys h k = k
below-append n (x ∷ xs) ys h k = (h.0, below-append n xs ys h.1 k)

-- ---- what comes behind those below a position, and before those above it

pub at_behind : (n : ℕ) (xs ys : List (ℕ × Entry)) → AreBelow n xs → held_at (xs ++ ys) n ≡ held_at ys n
at_behind n [] ys h = refl
at_behind n (x ∷ xs) ys h = at_past n x (xs ++ ys) h.0 ∙ at_behind n xs ys h.1

insert_before : (n : ℕ) (e : Entry) (ys : List (ℕ × Entry)) → AreAbove n ys → insert_entry nat_cmp ys n e ≡ (n, e) ∷ ys
insert_before n e [] h = refl
insert_before n e (y ∷ ys) h = ap (λ (o : Ordering). match_ordering o ((n, e) ∷ y ∷ ys) ((y.0, e) ∷ ys) (y ∷ insert_entry nat_cmp ys n e)) (less n y.0 h.0)

insert_behind : (n : ℕ) (e : Entry) (xs ys : List (ℕ × Entry)) → AreBelow n xs → AreAbove n ys → insert_entry nat_cmp (xs ++ ys) n e ≡ xs ++ (n, e) ∷ ys
insert_behind n e [] ys h k = insert_before n e ys k
insert_behind n e (x ∷ xs) ys h k =
    ap (λ (o : Ordering). match_ordering o ((n, e) ∷ x ∷ (xs ++ ys)) ((x.0, e) ∷ (xs ++ ys)) (x ∷ insert_entry nat_cmp (xs ++ ys) n e)) (greater n x.0 h.0)
    ∙ ap (λ (l : List (ℕ × Entry)). x ∷ l) (insert_behind n e xs ys h.1 k)

-- a position that isn't held gets its entry
pub comes_between : (n : ℕ) (e : Entry) (xs ys : List (ℕ × Entry)) → AreBelow n xs → AreAbove n ys → held_with_entry (xs ++ ys) n e ≡ xs ++ (n, e) ∷ ys
comes_between n e xs ys h k =
    ap (λ (o : Option Entry). cond (is_some o) (xs ++ ys) (insert_entry nat_cmp (xs ++ ys) n e)) (at_behind n xs ys h ∙ none_above n ys k)
    ∙ insert_behind n e xs ys h k

-- a position that is held keeps its entry
pub stays_there : (n : ℕ) (e : Entry) (xs : List (ℕ × Entry)) (y : ℕ × Entry) (ys : List (ℕ × Entry)) → AreBelow n xs → n ≡ y.0 → held_with_entry (xs ++ y ∷ ys) n e ≡ xs ++ y ∷ ys
stays_there n e xs y ys h same =
    ap (λ (o : Option Entry). cond (is_some o) (xs ++ y ∷ ys) (insert_entry nat_cmp (xs ++ y ∷ ys) n e)) (at_behind n xs (y ∷ ys) h ∙ at_first n y ys same)

-- ---- rising

pub rises_tail : (xs : List (ℕ × Entry)) (y : ℕ × Entry) (ys : List (ℕ × Entry)) → Rises (xs ++ y ∷ ys) → AreAbove y.0 ys
rises_tail [] y ys h = h.0
rises_tail (x ∷ xs) y ys h = rises_tail xs y ys h.1

above-append : (n : ℕ) (xs ys : List (ℕ × Entry)) → AreAbove n (xs ++ ys) → AreAbove n xs × AreAbove n ys
above-append n [] ys h = (tt, h)
above-append n (x ∷ xs) ys h = let t = above-append n xs ys h.1 in ((h.0, t.0), t.1)

above_both : (n : ℕ) (xs ys : List (ℕ × Entry)) → AreAbove n xs → AreAbove n ys → AreAbove n (xs ++ ys)
above_both n [] ys h k = k
above_both n (x ∷ xs) ys h k = (h.0, above_both n xs ys h.1 k)

pub rises_between : (n : ℕ) (e : Entry) (xs ys : List (ℕ × Entry)) → Rises (xs ++ ys) → AreBelow n xs → AreAbove n ys → Rises (xs ++ (n, e) ∷ ys)
rises_between n e [] ys r h k = (k, r)
rises_between n e (x ∷ xs) ys r h k =
    let t = above-append x.0 xs ys r.0 in
    (above_both x.0 xs ((n, e) ∷ ys) t.0 (h.0, t.1), rises_between n e xs ys r.1 h.1 k)

-- ---- runs of positions

pub run_past : (x : ℕ × Entry) (xs : List (ℕ × Entry)) (n count : ℕ) → x.0 < n → held_run (x ∷ xs) n count ≡ held_run xs n count
run_past x xs n zero h = refl
run_past x xs n (suc count) h =
    ap (λ (o : Option Entry). with_first o (held_run (x ∷ xs) (n + 1) count)) (at_past n x xs h)
    ∙ ap (λ (o : Option (List Entry)). with_first (held_at xs n) o) (run_past x xs (n + 1) count (omega arith))

-- a run that begins at what isn't held isn't there
pub run_broken : (xs : List (ℕ × Entry)) (n count : ℕ) → held_at xs n ≡ None → 0 < count → held_run xs n count ≡ None
run_broken xs n zero none lt = absurd (omega arith)
run_broken xs n (suc count) none lt = ap (λ (o : Option Entry). with_first o (held_run xs (n + 1) count)) none

-- ---- some let go

above-filter : (t : ℕ × Entry → Bool) (n : ℕ) (xs : List (ℕ × Entry)) → AreAbove n xs → AreAbove n (filter t xs)
above-filter t n [] h = tt
above-filter t n (x ∷ xs) h = cond_both (t x) (x ∷ filter t xs) (filter t xs) (AreAbove n) (λ _. (h.0, above-filter t n xs h.1)) (λ _. above-filter t n xs h.1)

-- what stays rises
pub rises-filter : (t : ℕ × Entry → Bool) (xs : List (ℕ × Entry)) → Rises xs → Rises (filter t xs)
rises-filter t [] h = tt
rises-filter t (x ∷ xs) h = cond_both (t x) (x ∷ filter t xs) (filter t xs) Rises (λ _. (above-filter t x.0 xs h.0, rises-filter t xs h.1)) (λ _. rises-filter t xs h.1)
