-- The least connection of a range for which bytes wait.
use Rattle.std.proofs.Common.{◌≡◌, ℕ, [], ◌∷◌, ◌+◌, refl, true, false, nat_lt, nat_le, Option, Bool, length, inl, inr}
use Rattle.std.specs.Prelude.{◌&&◌}
use Rattle.std.specs.List.{find, filter}
use Rattle.std.specs.Map.{keys_of}
use Rattle.std.specs.BTreeMap.Range.{entries_between, range_contains}
use Rattle.std.specs.declared.ops.Bound.TheVariants.{Included, Excluded, Unbounded}
use Rattle.std.specs.Ordering.{nat_cmp}
use Rattle.std.proofs.lemmas.Bool.{cases_Bool}
use Rattle.op_conns.specs.Tables.{Queues, queue_of}
use Rattle.op_conns.proofs.Numbers.{is_le_is, is_lt_is}

-- bytes wait for a connection
abbrev pub has : Queues → ℕ → Bool
has w c = nat_lt 0 (length (queue_of c w))

-- the first of these connections for which bytes wait
abbrev pub first_waiting : Queues → Queues → Option ℕ
first_waiting w es = find (has w) (keys_of es)

and_true : (b : Bool) → (b && true) ≡ b
and_true true = refl
and_true false = refl

-- the entries of a range, by one test or another
in_range : (w : Queues) (test inside : ℕ → Bool) → ((n : ℕ) → test n ≡ inside n) → (t : Queues)
    → first_waiting w (filter (λ e. test e.0) t) ≡ find (λ c. inside c && has w c) (keys_of t)
in_range w test inside same [] = refl
in_range w test inside same (e ∷ t) = elim (cases_Bool (inside e.0)) [
  | inl h ↦ rw (same e.0, h) (elim (cases_Bool (has w e.0)) [ inl g ↦ rw g refl | inr g ↦ rw g (in_range w test inside same t) ])
  | inr h ↦ rw (same e.0, h) (in_range w test inside same t)
]

pub included_is : (w : Queues) (low : ℕ) (t : Queues)
    → first_waiting w (entries_between nat_cmp (Included low) Unbounded t) ≡ find (λ c. nat_le low c && has w c) (keys_of t)
included_is w low t = in_range w (range_contains nat_cmp (Included low) Unbounded) (nat_le low) (λ n. rw (is_le_is low n) (and_true (nat_le low n))) t

pub excluded_is : (w : Queues) (low : ℕ) (t : Queues)
    → first_waiting w (entries_between nat_cmp (Excluded low) Unbounded t) ≡ find (λ c. nat_le (low + 1) c && has w c) (keys_of t)
excluded_is w low t = in_range w (range_contains nat_cmp (Excluded low) Unbounded) (nat_le (low + 1)) (λ n. rw (is_lt_is low n) (and_true (nat_le (low + 1) n))) t
