-- The least connection of a range for which bytes wait.
use Rattle.std.proofs.Common.{◌≡◌, ◌+◌, ℕ, [], ◌∷◌, refl, true, false, nat_lt, nat_le, Option, Bool, length, arith}
use Rattle.std.specs.Prelude.{◌&&◌}
use Rattle.std.specs.List.{find as first, filter}
use Rattle.std.specs.Map.{keys_of}
use Rattle.std.specs.BTreeMap.Range.{entries_between, range_contains}
use Rattle.std.specs.declared.ops.Bound.TheVariants.{Included, Excluded, Unbounded}
use Rattle.std.specs.Ordering.{nat_cmp}
use Rattle.op_conns.proofs.Numbers.{is_le_is, is_lt_is}
use Rattle.op_serving.specs.declared.session.Session.{Session}
use Rattle.op_serving.specs.State.{Table, find}
use Rattle.op_serving.specs.Turns.{queue_in}

-- bytes wait for a connection
abbrev pub has : Table Session → ℕ → Bool
has w c = nat_lt 0 (length (queue_in (find c w)))

-- the first of these connections for which bytes wait
abbrev pub first_waiting : Table Session → Table Session → Option ℕ
first_waiting w es = first (has w) (keys_of es)

and_true : (b : Bool) → (b && true) ≡ b
and_true true = refl
and_true false = refl

-- the entries of a range, by one test or another
in_range : (w : Table Session) (test inside : ℕ → Bool) → ((n : ℕ) → test n ≡ inside n) → (t : Table Session)
    → first_waiting w (filter (λ e. test e.0) t) ≡ first (λ c. inside c && has w c) (keys_of t)
in_range w test inside same [] = refl
in_range w test inside same (e ∷ t) = grind (arith, same e.0, in_range w test inside same t)

pub included_is : (w : Table Session) (low : ℕ) (t : Table Session)
    → first_waiting w (entries_between nat_cmp (Included low) Unbounded t) ≡ first (λ c. nat_le low c && has w c) (keys_of t)
included_is w low t = in_range w (range_contains nat_cmp (Included low) Unbounded) (nat_le low) (λ n. rw (is_le_is low n) (and_true (nat_le low n))) t

pub excluded_is : (w : Table Session) (conn : ℕ) (t : Table Session)
    → first_waiting w (entries_between nat_cmp (Excluded conn) Unbounded t) ≡ first (λ c. nat_le (conn + 1) c && has w c) (keys_of t)
excluded_is w conn t =
    in_range w (range_contains nat_cmp (Excluded conn) Unbounded) (nat_le (conn + 1)) (λ n. rw (is_lt_is conn n) (and_true (nat_le (conn + 1) n))) t
