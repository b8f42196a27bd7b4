-- The frames that wait behind, by their connections: the first one, how many there are, and where it stands.
use Rattle.std.proofs.Common.{◌≡◌, ◌<◌, ◌≤◌, ◌+◌, ◌++◌, ◌==◌, ℕ, zero, suc, length, [], ◌∷◌, not, nat_lt, List, filter, slice_index_or, Some, None, refl, inl, inr, arith}
use Rattle.std.proofs.lemmas.Bool.{cases_Bool, ltb-true, ltb-false}
use Rattle.std.specs.List.{position, position_or_len, remove}
use Rattle.op_conns.proofs.Numbers.{is_at_own, is_at_one, is_at_other}
use Rattle.op_queues.proofs.Tables.{at_is, find_without, without_none}
use Rattle.op_serving.specs.State.{Table, find, without}
use Rattle.op_serving.specs.Room.{count_at, without_first}

-- the entries of the others
pub filtered_without : {X : Type 0} (c : ℕ) (t : Table X) → filter (λ e. not (e.0 == c)) t ≡ without c t
filtered_without c [] = refl
filtered_without c (e ∷ t) = rw (at_is c e.0) (grind (arith, filtered_without c t))

-- of frames
pub first_none : (c : ℕ) (t : Table (List ℕ)) → find c t ≡ None → without_first c t ≡ t
first_none c [] e = refl
first_none c (x ∷ t) e = grind (arith, first_none c t)

pub count_none : (c : ℕ) (t : Table (List ℕ)) → find c t ≡ None → count_at c t ≡ 0
count_none c [] e = refl
count_none c (x ∷ t) e = grind (arith, count_none c t)

-- the first one less
pub first_less : (c : ℕ) (bytes : List ℕ) (t : Table (List ℕ)) → find c t ≡ Some bytes → count_at c t ≡ suc (count_at c (without_first c t))
first_less c bytes [] e = absurd cc
first_less c bytes (x ∷ t) e = grind (arith, first_less c bytes t)

-- where the first one stands
pub found_place : (c : ℕ) (t : Table (List ℕ)) (x : ℕ × List ℕ) (n : ℕ) → position_or_len (λ f. f.0 == c) t ≡ n → n < length t
    → (find c t ≡ Some (slice_index_or t n x).1) × (without_first c t ≡ remove t n)
found_place c [] x n e h = absurd (omega (arith, h))
found_place c (f ∷ t) x zero e h = grind (arith, at_is)
found_place c (f ∷ t) x (suc n) e h = grind (arith, at_is, found_place c t x n)

pub found_nowhere : {X : Type 0} (c : ℕ) (t : Table X) → length t ≤ position_or_len (λ f. f.0 == c) t → find c t ≡ None
found_nowhere c [] h = refl
found_nowhere c (f ∷ t) h = grind (arith, at_is, found_nowhere c t)

pub no_place : {X : Type 0} (c : ℕ) (t : Table X) → position (λ f. f.0 == c) t ≡ None → find c t ≡ None
no_place c t e = elim (cases_Bool (nat_lt (position_or_len (λ f. f.0 == c) t) (length t))) [
  | inl h ↦ absurd (let bad = rw h at e in cc)
  | inr h ↦ found_nowhere c t (ltb-false (position_or_len (λ f. f.0 == c) t) (length t) h)
]

pub is_place : {X : Type 0} (c : ℕ) (t : Table X) (at : ℕ) → position (λ f. f.0 == c) t ≡ Some at → (position_or_len (λ f. f.0 == c) t ≡ at) × (at < length t)
is_place c t at e = elim (cases_Bool (nat_lt (position_or_len (λ f. f.0 == c) t) (length t))) [
  | inl h ↦ (
      let same = rw h at e in
      let here : position_or_len (λ f. f.0 == c) t ≡ at = cc in
      (here, omega (arith, here, ltb-true (position_or_len (λ f. f.0 == c) t) (length t) h)))
  | inr h ↦ absurd (let bad = rw h at e in cc)
]

pub count_apart : (c d : ℕ) (t : Table (List ℕ)) → (c ≡ d → ⊥) → count_at c (without d t) ≡ count_at c t
count_apart c d [] apart = refl
count_apart c d (x ∷ t) apart = grind (arith, is_at_one, count_apart c d t apart)

-- one connection's frames go, and the first of the same or of another
pub without_both : (c d : ℕ) (t : Table (List ℕ)) → without d (without_first c t) ≡ without_first c (without d t)
without_both c d [] = refl
without_both c d (x ∷ t) = grind (arith, is_at_one, without_both c d t, first_none c (without d t), find_without c t)

pub count_apart_first : (c d : ℕ) (t : Table (List ℕ)) → (c ≡ d → ⊥) → count_at c (without_first d t) ≡ count_at c t
count_apart_first c d [] apart = refl
count_apart_first c d (x ∷ t) apart = grind (arith, is_at_one, count_apart_first c d t apart)

-- one frame less
pub first_shorter : (c : ℕ) (bytes : List ℕ) (t : Table (List ℕ)) → find c t ≡ Some bytes → length (without_first c t) + 1 ≡ length t
first_shorter c bytes [] e = absurd cc
first_shorter c bytes (x ∷ t) e = grind (arith, first_shorter c bytes t)

pub count_few : (c : ℕ) (t : Table (List ℕ)) → count_at c t ≤ length t
count_few c [] = omega arith
count_few c (x ∷ t) = grind (arith, count_few c t)

-- where none is counted there is none
pub none_found : (c : ℕ) (t : Table (List ℕ)) → count_at c t ≡ 0 → find c t ≡ None
none_found c [] e = refl
none_found c (x ∷ t) e = grind (arith, none_found c t)

pub count_push_own : (c : ℕ) (frame : List ℕ) (t : Table (List ℕ)) → count_at c (t ++ (c, frame) ∷ []) ≡ count_at c t + 1
count_push_own c frame [] = rw (is_at_own c) refl
count_push_own c frame (x ∷ t) = grind (arith, count_push_own c frame t)

pub count_push_apart : (c d : ℕ) (frame : List ℕ) (t : Table (List ℕ)) → (c ≡ d → ⊥) → count_at c (t ++ (d, frame) ∷ []) ≡ count_at c t
count_push_apart c d frame [] apart = rw (is_at_other c d apart) refl
count_push_apart c d frame (x ∷ t) apart = grind (arith, count_push_apart c d frame t apart)

pub none_left : (c : ℕ) (t : Table (List ℕ)) → count_at c t ≡ 0 → without c t ≡ t
none_left c t e = without_none c t (none_found c t e)
