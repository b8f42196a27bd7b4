-- What a call for one connection leaves of another.
use Rattle.std.proofs.Common.{◌≡◌, ℕ, List, [], ◌∷◌, refl, ap, sym, ◌∙◌, true, false, Option, Some, None, drop, inl, inr, arith}
use Rattle.std.specs.Prelude.{IsSome}
use Rattle.std.proofs.lemmas.List.{drop_all}
use Rattle.std.specs.Map.{lookup, remove_entry, set_value}
use Rattle.std.specs.BTreeMap.{insert_entry, is_at}
use Rattle.std.specs.Ordering.{nat_cmp}
use Rattle.std.proofs.lemmas.Bool.{cases_Bool}
use Rattle.op_conns.specs.Tables.{Queues, queue_of, bytes_of, changed}
use Rattle.op_conns.proofs.Numbers.{compared, is_at_own, is_at_one, is_at_other}

pub set_other : (c d : ℕ) (x : List ℕ) (t : Queues) → (c ≡ d → ⊥) → lookup (is_at (nat_cmp d)) (set_value (is_at (nat_cmp c)) t x) ≡ lookup (is_at (nat_cmp d)) t
set_other c d x [] differ = refl
set_other c d x (e ∷ t) differ = elim (cases_Bool (is_at (nat_cmp c) e.0)) [
  | inl h ↦ (let away : is_at (nat_cmp d) e.0 ≡ false = is_at_other d e.0 (λ k. differ (is_at_one c e.0 h ∙ sym k)) in rw (h, away) refl)
  | inr h ↦ rw h (elim (cases_Bool (is_at (nat_cmp d) e.0)) [ inl g ↦ rw g refl | inr g ↦ rw g (set_other c d x t differ) ])
]

pub set_own : (c : ℕ) (x y : List ℕ) (t : Queues) → lookup (is_at (nat_cmp c)) t ≡ Some y → lookup (is_at (nat_cmp c)) (set_value (is_at (nat_cmp c)) t x) ≡ Some x
set_own c x y [] e = absurd cc
set_own c x y (d ∷ t) e = elim (cases_Bool (is_at (nat_cmp c) d.0)) [
  | inl h ↦ rw (h, h) refl
  | inr h ↦ (let later : lookup (is_at (nat_cmp c)) t ≡ Some y = rw h at e in rw (h, h) (set_own c x y t later))
]

pub insert_other : (c d : ℕ) (x : List ℕ) (t : Queues) → (c ≡ d → ⊥) → lookup (is_at (nat_cmp d)) (insert_entry nat_cmp t c x) ≡ lookup (is_at (nat_cmp d)) t
insert_other c d x [] differ = rw (is_at_other d c (λ k. differ (sym k))) refl
insert_other c d x (e ∷ t) differ = let away : is_at (nat_cmp d) c ≡ false = is_at_other d c (λ k. differ (sym k)) in elim (compared c e.0) [
  | inl h ↦ rw (h.1, away) refl
  | inr (inl h) ↦ (let there : is_at (nat_cmp d) e.0 ≡ false = is_at_other d e.0 (λ k. differ (h.0 ∙ sym k)) in rw (h.1, there) refl)
  | inr (inr h) ↦ rw h.1 (elim (cases_Bool (is_at (nat_cmp d) e.0)) [ inl g ↦ rw g refl | inr g ↦ rw g (insert_other c d x t differ) ])
]

pub insert_own : (c : ℕ) (x : List ℕ) (t : Queues) → lookup (is_at (nat_cmp c)) (insert_entry nat_cmp t c x) ≡ Some x
insert_own c x [] = rw (is_at_own c) refl
insert_own c x (e ∷ t) = elim (compared c e.0) [
  | inl h ↦ rw (h.1, is_at_own c) refl
  | inr (inl h) ↦ (let there : is_at (nat_cmp c) e.0 ≡ true = rw h.1 refl in rw (h.1, there) refl)
  | inr (inr h) ↦ (let away : is_at (nat_cmp c) e.0 ≡ false = rw h.1 refl in rw (h.1, away) (insert_own c x t))
]

pub remove_other : (c d : ℕ) (t : Queues) → (c ≡ d → ⊥) → lookup (is_at (nat_cmp d)) (remove_entry (is_at (nat_cmp c)) t) ≡ lookup (is_at (nat_cmp d)) t
remove_other c d [] differ = refl
remove_other c d (e ∷ t) differ = elim (cases_Bool (is_at (nat_cmp c) e.0)) [
  | inl h ↦ (let away : is_at (nat_cmp d) e.0 ≡ false = is_at_other d e.0 (λ k. differ (is_at_one c e.0 h ∙ sym k)) in rw (h, away) refl)
  | inr h ↦ rw h (elim (cases_Bool (is_at (nat_cmp d) e.0)) [ inl g ↦ rw g refl | inr g ↦ rw g (remove_other c d t differ) ])
]

pub changed_other : (f : List ℕ → List ℕ) (c d : ℕ) (o : Option (List ℕ)) (t : Queues) → (c ≡ d → ⊥) → queue_of d (changed f c o t) ≡ queue_of d t
changed_other f c d None t differ = refl
changed_other f c d (Some x) t differ = ap bytes_of (set_other c d (f x) t differ)

pub changed_own : (f : List ℕ → List ℕ) (c : ℕ) (o : Option (List ℕ)) (t : Queues) → lookup (is_at (nat_cmp c)) t ≡ o → IsSome o → queue_of c (changed f c o t) ≡ f (bytes_of o)
changed_own f c None t e there = absurd cc
changed_own f c (Some x) t e there = ap bytes_of (set_own c (f x) x t e)

pub dropped_own : (c n : ℕ) (o : Option (List ℕ)) (t : Queues) → lookup (is_at (nat_cmp c)) t ≡ o → queue_of c (changed (drop n) c o t) ≡ drop n (bytes_of o)
dropped_own c n None t e = ap bytes_of e ∙ sym (drop_all n [] (omega arith))
dropped_own c n (Some x) t e = ap bytes_of (set_own c (drop n x) x t e)
