-- Tables by number: what a change at one number and the removal of another leave.
use Rattle.std.proofs.Common.{◌≡◌, ◌≤◌, ◌+◌, ◌++◌, ◌==◌, ◌&&◌, ℕ, length, [], ◌∷◌, Bool, true, false, not, filter, if◌then◌else◌, Option, Some, None, is_some, option_map, refl, sym, ◌∙◌, ap, ◌⊎◌, inl, inr, arith}
use Rattle.std.proofs.lemmas.Bool.{cases_Bool, eq-eqb, eqb-true, ne_eqb}
use Rattle.std.specs.Map.{remove_entry, keys_of}
use Rattle.std.specs.List.{AllByRecursion}
use Rattle.std.specs.List.Sorted.{IsStrictlySortedBy}
use Rattle.std.proofs.lemmas.Map.Entries.{lookup-filter-keys}
use Rattle.std.proofs.lemmas.Map.Keys.{sorted_head, sorted_tail}
use Rattle.std.specs.declared.cmp.Ordering.TheVariants.{Less}
use Rattle.std.specs.BTreeMap.{is_at}
use Rattle.std.specs.Ordering.{nat_cmp, is_eq}
use Rattle.op_conns.proofs.Numbers.{is_at_own, is_at_one, is_at_other}
use Rattle.op_serving.specs.State.{Table, find, set, without, changed, changed_at}

-- two numbers are one, or not
pub same_or_not : (c d : ℕ) → (c ≡ d) ⊎ (c ≡ d → ⊥)
same_or_not c d = elim (cases_Bool (is_at (nat_cmp c) d)) [
  | inl h ↦ inl (is_at_one c d h)
  | inr h ↦ inr (λ e. let bad : true ≡ false = sym (is_at_own c) ∙ ap (λ n. is_at (nat_cmp c) n) e ∙ h in cc)
]

-- the two tests of a number
pub at_is : (c a : ℕ) → is_at (nat_cmp c) a ≡ (a == c)
at_is c a = elim (cases_Bool (a == c)) [
  | inl h ↦ ap (λ k. is_at (nat_cmp c) k) (eqb-true a c h) ∙ is_at_own c ∙ sym h
  | inr h ↦ is_at_other c a (λ k. let same : (a == c) ≡ true = eq-eqb a c (sym k) in let bad : true ≡ false = sym same ∙ h in cc) ∙ sym h
]

module _ {X : Type 0} where
  pub without_is : (c : ℕ) (t : Table X) → without c t ≡ filter (λ e. not (is_at (nat_cmp c) e.0)) t
  without_is c [] = refl
  without_is c (e ∷ t) = grind (arith, without_is c t)

  -- what was removed isn't found
  pub find_without : (c : ℕ) (t : Table X) → find c (without c t) ≡ None
  find_without c t = rw (without_is c t) (lookup-filter-keys (is_at (nat_cmp c)) (λ k. not (is_at (nat_cmp c) k)) false (λ k h. ap not h) t)

  -- another number's entry stays
  pub find_apart : (c d : ℕ) (t : Table X) → (c ≡ d → ⊥) → find c (without d t) ≡ find c t
  find_apart c d t apart =
      let other : (k : ℕ) → is_at (nat_cmp c) k ≡ true → not (is_at (nat_cmp d) k) ≡ true =
      λ k h. ap not (is_at_other d k (λ e. apart (is_at_one c k h ∙ sym e))) in
      rw (without_is d t) (lookup-filter-keys (is_at (nat_cmp c)) (λ k. not (is_at (nat_cmp d) k)) true other t)

  pub without_short : (c : ℕ) (t : Table X) → length (without c t) ≤ length t
  without_short c [] = omega arith
  without_short c (e ∷ t) = grind (arith, without_short c t)

  -- one entry less, at least
  pub without_less : (c : ℕ) (x : X) (t : Table X) → find c t ≡ Some x → length (without c t) + 1 ≤ length t
  without_less c x [] e = absurd cc
  without_less c x (d ∷ t) e = grind (arith, without_short c t, without_less c x t)

  -- what was set is found
  pub find_set : (c : ℕ) (x y : X) (t : Table X) → find c t ≡ Some y → find c (set c x t) ≡ Some x
  find_set c x y [] e = absurd cc
  find_set c x y (d ∷ t) e = grind (arith, find_set c x y t)

  pub find_set_apart : (c d : ℕ) (x : X) (t : Table X) → (c ≡ d → ⊥) → find d (set c x t) ≡ find d t
  find_set_apart c d x [] apart = refl
  find_set_apart c d x (e ∷ t) apart = grind (arith, is_at_one, find_set_apart c d x t apart)

  -- a change and a removal of one number
  pub without_set : (d : ℕ) (x : X) (t : Table X) → without d (set d x t) ≡ without d t
  without_set d x [] = refl
  without_set d x (e ∷ t) = grind (arith, without_set d x t)

  -- and of two
  without_set_apart : (c d : ℕ) (x : X) (t : Table X) → (c ≡ d → ⊥) → without d (set c x t) ≡ set c x (without d t)
  without_set_apart c d x [] apart = refl
  without_set_apart c d x (e ∷ t) apart = grind (arith, is_at_one, without_set_apart c d x t apart)

  pub without_either : (c d : ℕ) (t : Table X) → without d (without c t) ≡ without c (without d t)
  without_either c d [] = refl
  without_either c d (x ∷ t) = grind (arith, without_either c d t)

  pub without_none : (c : ℕ) (t : Table X) → find c t ≡ None → without c t ≡ t
  without_none c [] e = refl
  without_none c (x ∷ t) e = grind (arith, without_none c t)

  none_behind : (c k : ℕ) (t : Table X) → c ≡ k → AllByRecursion (λ y. nat_cmp k y ≡ Less) (keys_of t) → without c t ≡ t
  none_behind c k [] same h = refl
  none_behind c k (e ∷ t) same h =
      let away : is_at (nat_cmp c) e.0 ≡ false = ap (λ n. is_eq (nat_cmp n e.0)) same ∙ ap is_eq h.0 in
      rw away (ap (λ r. e ∷ r) (none_behind c k t same h.1))

  -- in an ordered table a number stands once
  pub removed_all : (c : ℕ) (t : Table X) → IsStrictlySortedBy nat_cmp (keys_of t) → remove_entry (is_at (nat_cmp c)) t ≡ without c t
  removed_all c [] s = refl
  removed_all c (e ∷ t) s =
      grind (arith, is_at_one c e.0, none_behind c e.0 t, sorted_head nat_cmp e.0 (keys_of t) s, removed_all c t (sorted_tail nat_cmp e.0 (keys_of t) s))

module _ {X : Type 0} where
  -- a change of an entry, if there is one, and a removal
  changed_without_at : (f : X → X) (c d : ℕ) (t : Table X) (o : Option X) → find c t ≡ o → without d (changed_at f c o t) ≡ changed f c (without d t)
  changed_without_at f c d t None e = elim (same_or_not c d) [
    | inl same ↦ rw (same, find_without d t) refl
    | inr apart ↦ rw (find_apart c d t apart, e) refl
  ]
  changed_without_at f c d t (Some x) e = elim (same_or_not c d) [
    | inl same ↦ rw (same, find_without d t) (without_set d (f x) t)
    | inr apart ↦ rw (find_apart c d t apart, e) (without_set_apart c d (f x) t apart)
  ]

  pub changed_without : (f : X → X) (c d : ℕ) (t : Table X) → without d (changed f c t) ≡ changed f c (without d t)
  changed_without f c d t = changed_without_at f c d t (find c t) refl

module _ {X Y : Type 0} (f : X → X) (g : X → Y) (keeps : (x : X) → g (f x) ≡ g x) where
  -- what a change keeps of each entry
  kept_at : (c d : ℕ) (t : Table X) (o : Option X) → find c t ≡ o → option_map g (find d (changed_at f c o t)) ≡ option_map g (find d t)
  kept_at c d t None e = refl
  kept_at c d t (Some x) e = elim (same_or_not c d) [
    | inl same ↦ rw (← same, find_set c (f x) x t e, e) (ap Some (keeps x))
    | inr apart ↦ rw (find_set_apart c d (f x) t apart) refl
  ]

  pub kept_changed : (c d : ℕ) (t : Table X) → option_map g (find d (changed f c t)) ≡ option_map g (find d t)
  kept_changed c d t = kept_at c d t (find c t) refl

pub some_map : {X Y : Type 0} (g : X → Y) (o : Option X) → is_some (option_map g o) ≡ is_some o
some_map g None = refl
some_map g (Some x) = refl

pub found_changed : {X : Type 0} (f : X → X) (c d : ℕ) (t : Table X) → is_some (find d (changed f c t)) ≡ is_some (find d t)
found_changed {X} f c d t =
    sym (some_map (λ (x : X). true) (find d (changed f c t))) ∙ ap is_some (kept_changed f (λ (x : X). true) (λ x. refl) c d t)
    ∙ some_map (λ (x : X). true) (find d t)

-- by another number it is found as it was, or not at all
pub still_or_gone : {X : Type 0} (c d : ℕ) (t : Table X) → (find c (without d t) ≡ find c t) ⊎ (find c (without d t) ≡ None)
still_or_gone c d t = elim (same_or_not c d) [ inl same ↦ inr (rw same (find_without d t)) | inr apart ↦ inl (find_apart c d t apart) ]

pub open_without : {X : Type 0} (c d : ℕ) (t : Table X) → is_some (find c (without d t)) ≡ (is_some (find c t) && not (c == d))
open_without c d t = grind (arith, same_or_not c d, eq-eqb c d, ne_eqb c d, find_apart c d t, find_without d t)

-- an entry more at the end, if so, and a removal
pub without_pushed : {X : Type 0} (d : ℕ) (t : Table X) (e : ℕ × X) (b : Bool)
    → without d (if b then t ++ e ∷ [] else t) ≡ (if b && not (e.0 == d) then without d t ++ e ∷ [] else without d t)
without_pushed d t e false = refl
without_pushed d [] e true = grind (arith, at_is)
without_pushed d (x ∷ t) e true = grind (arith, without_pushed d t e true)
