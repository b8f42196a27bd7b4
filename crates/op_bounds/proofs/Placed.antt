-- Lists by rising numbers: what holds of each entry holds of each after one more is put at its place.
use Rattle.std.proofs.Common.{◌≡◌, ◌≤◌, ◌<◌, ◌+◌, ℕ, zero, suc, eqb, ltb, cond, is_some, List, [], ◌∷◌, length, Option, Some, None, refl, ap, subst, arith, All}
use Rattle.std.specs.Prelude.{IfSome}
use Rattle.std.specs.Ordering.{nat_cmp, match_ordering}
use Rattle.std.specs.declared.cmp.Ordering.{Ordering}
use Rattle.std.specs.declared.cmp.Ordering.TheVariants.{Less, Equal, Greater}
use Rattle.std.specs.BTreeMap.{insert_entry, is_at}
use Rattle.std.proofs.lemmas.Bool.{cond_both, ltb-true, ltb-false, eqb-true, eqb-false}
use Rattle.std.proofs.lemmas.List.Elements.{All-nil, All-cons, All-head, All-tail}
use Rattle.std.proofs.lemmas.Map.Entries.{All-lookup}
use Rattle.op_types.specs.Limits.{greatest_pid}
use Rattle.op_types.specs.Ranges.{EntryInRange}
use Rattle.op_types.specs.Joinings.{held_at, held_with_entry, held_with, with_first, held_run}
use Rattle.op_types.specs.declared.log.Entry.{Entry}
use Rattle.op_record.specs.Ranges.{DonorsInRange, HeldInRange}
use Rattle.op_bounds.specs.Messages.{NamesKnown, EntryOf}

-- ---- an entry more, by what its number is to the first one's

abbrev put : {X : Type 0} → ℕ → X → ℕ × X → List (ℕ × X) → Ordering → List (ℕ × X)
put n v e es o = match_ordering o ((n, v) ∷ e ∷ es) ((e.0, v) ∷ es) (e ∷ insert_entry nat_cmp es n v)

by_place : {X : Type 0} (P : List (ℕ × X) → Type 0) (n : ℕ) (v : X) (e : ℕ × X) (es : List (ℕ × X)) → (n < e.0 → P ((n, v) ∷ e ∷ es)) → (n ≡ e.0 → P ((e.0, v) ∷ es)) → (e.0 < n → P (e ∷ insert_entry nat_cmp es n v))
    → P (insert_entry nat_cmp (e ∷ es) n v)
by_place {X = X} P n v e es less same more =
    cond_both (ltb n e.0) Less (cond (eqb n e.0) Equal Greater) (λ (o : Ordering). P (put n v e es o))
    (λ h. less (ltb-true n e.0 h))
    (λ h. cond_both (eqb n e.0) Equal Greater (λ (o : Ordering). P (put n v e es o))
    (λ k. same (eqb-true n e.0 k))
    (λ k. let le = ltb-false n e.0 h in let other = eqb-false n e.0 k in more (omega arith)))

pub put_all : {X : Type 0} (P : ℕ × X → Type 0) (n : ℕ) (v : X) (es : List (ℕ × X)) → All P es → P (n, v) → All P (insert_entry nat_cmp es n v)
put_all {X = X} P n v [] each one = All-cons P (n, v) [] one each
put_all {X = X} P n v (e ∷ es) each one =
    by_place (All P) n v e es (λ h. All-cons P (n, v) (e ∷ es) one each)
    (λ h. All-cons P (e.0, v) es (subst (λ (m : ℕ). P (m, v)) h one) (All-tail P e es each))
    (λ h. All-cons P e (insert_entry nat_cmp es n v) (All-head P e es each) (put_all P n v es (All-tail P e es each) one))

pub put_few : {X : Type 0} (n : ℕ) (v : X) (es : List (ℕ × X)) → length (insert_entry nat_cmp es n v) ≤ length es + 1
put_few {X = X} n v [] = omega arith
put_few {X = X} n v (e ∷ es) =
    by_place (λ (l : List (ℕ × X)). length l ≤ length (e ∷ es) + 1) n v e es (λ h. omega arith) (λ h. omega arith) (λ h. let k = put_few n v es in omega arith)

-- ---- donors

pub donors_with : (len low q trimmed : ℕ) (ds : List (ℕ × ℕ)) → DonorsInRange len low ds → low < q → q ≤ greatest_pid → trimmed ≤ len → DonorsInRange len low (insert_entry nat_cmp ds q trimmed)
donors_with len low q trimmed [] k lt small within = (lt, small, within, tt)
donors_with len low q trimmed (d ∷ ds) k lt small within =
    by_place (DonorsInRange len low) q trimmed d ds (λ h. (lt, small, within, (h, k.1, k.2, k.3)))
    (λ h. (k.0, k.1, within, k.3))
    (λ h. (k.0, k.1, k.2, donors_with len d.0 q trimmed ds k.3 h small within))

-- ---- held entries

held_put : (len low n : ℕ) (e : Entry) (xs : List (ℕ × Entry)) → HeldInRange len low xs → low ≤ n → n < len → EntryInRange e → HeldInRange len low (insert_entry nat_cmp xs n e)
held_put len low n e [] k le lt one = (le, lt, one, tt)
held_put len low n e (x ∷ xs) k le lt one =
    by_place (HeldInRange len low) n e x xs (λ h. (le, lt, one, (omega (arith, h), k.1, k.2, k.3)))
    (λ h. (k.0, k.1, one, k.3))
    (λ h. (k.0, k.1, k.2, held_put len (x.0 + 1) n e xs k.3 (omega (arith, h)) lt one))

-- held entries in range, which name known ids
pub record HeldIn (Known : ℕ → Type 0) (len : ℕ) (xs : List (ℕ × Entry)) : Type 0 where
  pub range : HeldInRange len 0 xs
  pub names : All (λ x. NamesKnown Known x.1) xs

module _ (Known : ℕ → Type 0) (len : ℕ) where
  one_held : (xs : List (ℕ × Entry)) (n : ℕ) (e : Entry) → HeldIn Known len xs → n < len → EntryOf Known e → HeldIn Known len (held_with_entry xs n e)
  one_held xs n e k lt one =
      cond_both (is_some (held_at xs n)) xs (insert_entry nat_cmp xs n e) (HeldIn Known len) (λ _. k)
      (λ _. record { range = held_put len 0 n e xs k.range (omega arith) lt one.0; names = put_all (λ x. NamesKnown Known x.1) n e xs k.names one.1 })

  pub more_held : (es : List Entry) (xs : List (ℕ × Entry)) (at : ℕ) → HeldIn Known len xs → at + length es ≤ len → All (EntryOf Known) es → HeldIn Known len (held_with xs at es)
  more_held [] xs at k within each = k
  more_held (e ∷ es) xs at k within each =
      more_held es (held_with_entry xs at e) (at + 1) (one_held xs at e k (omega (arith, within)) (All-head (EntryOf Known) e es each)) (omega (arith, within)) (All-tail (EntryOf Known) e es each)

-- ---- runs of them

pub held_each : (len low : ℕ) (xs : List (ℕ × Entry)) → HeldInRange len low xs → All (λ x. EntryInRange x.1) xs
held_each len low [] k = All-nil (λ x. EntryInRange x.1)
held_each len low (x ∷ xs) k = All-cons (λ x. EntryInRange x.1) x xs k.2 (held_each len (x.0 + 1) xs k.3)

some_is : {A : Type 0} (a b : A) → Some a ≡ Some b → a ≡ b
some_is a b e = cc

none_is : {A : Type 0} (a : A) → None ≡ Some a → ⊥
none_is a e = cc

-- so many entries
pub record RunIn (Known : ℕ → Type 0) (count : ℕ) (es : List Entry) : Type 0 where
  pub size : length es ≡ count
  pub each : All (EntryOf Known) es

-- what holds of each that is held holds of each in a run
module _ (P : Entry → Type 0) (xs : List (ℕ × Entry)) (each : All (λ x. P x.1) xs) where
  abbrev RunOf : ℕ → List Entry → Type 0
  RunOf count es = (length es ≡ count) × All P es

  pub run_all : (n count : ℕ) (es : List Entry) → held_run xs n count ≡ Some es → RunOf count es
  run_all n zero es h = subst (RunOf 0) (some_is [] es h) (refl, All-nil P)
  run_all n (suc count) es h =
      by (held_at xs n) (held_run xs (n + 1) count) refl (All-lookup P (is_at (nat_cmp n)) xs each) h (λ ds k. run_all (n + 1) count ds k)
    where
      by : (o : Option Entry) (r : Option (List Entry)) → held_run xs (n + 1) count ≡ r → IfSome o P → with_first o r ≡ Some es
          → ((ds : List Entry) → held_run xs (n + 1) count ≡ Some ds → RunOf count ds) → RunOf (suc count) es
      by None r e one k rest = absurd (none_is es k)
      by (Some x) None e one k rest = absurd (none_is es k)
      by (Some x) (Some ds) e one k rest =
          let more = rest ds e in
          subst (RunOf (suc count)) (some_is (x ∷ ds) es k) (ap suc more.0, All-cons P x ds one more.1)

pub run_in : (Known : ℕ → Type 0) (xs : List (ℕ × Entry)) → All (λ x. EntryOf Known x.1) xs → (n count : ℕ) (es : List Entry) → held_run xs n count ≡ Some es → RunIn Known count es
run_in Known xs each n count es h = let run = run_all (EntryOf Known) xs each n count es h in record { size = run.0; each = run.1 }

pub held_entries : (Known : ℕ → Type 0) (len : ℕ) (xs : List (ℕ × Entry)) → HeldIn Known len xs → All (λ x. EntryOf Known x.1) xs
held_entries Known len xs k = λ i d within. (held_each len 0 xs k.range i d within, k.names i d within)
