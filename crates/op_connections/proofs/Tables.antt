-- Tables by number: what is found after a change at one number, after a removal, and after an entry more.
use Rattle.std.proofs.Common.{◌≡◌, ◌<◌, ◌++◌, ◌∷◌, ℕ, [], true, false, List, Bool, map, if◌then◌else◌, Option, Some, None, is_some, option_map, ◌==◌, refl, sym, ◌∙◌, ap, subst, inl, inr, arith, append_assoc}
use Rattle.std.proofs.lemmas.Bool.{cases_Bool, eq-eqb, ne_eqb}
use Rattle.std.specs.Prelude.{zip}
use Rattle.std.specs.List.{find as first}
use Rattle.std.specs.Map.{keys_of}
use Rattle.std.proofs.lemmas.Map.{keys-set_value}
use Rattle.std.specs.BTreeMap.{is_at, insert_entry}
use Rattle.std.specs.Ordering.{nat_cmp}
use Rattle.op_conns.proofs.Numbers.{compared, is_at_own, is_at_one, is_at_other}
use Rattle.op_serving.specs.State.{Table, find, set, without, changed, changed_at}
use Rattle.op_serving.specs.Promise.{at_conn}

module _ {X : Type 0} where
  -- ---- what is found

  -- what was removed isn't found
  pub find_without : (c : ℕ) (t : Table X) → find c (without c t) ≡ None
  find_without c [] = refl
  find_without c (e ∷ t) = elim (cases_Bool (is_at (nat_cmp c) e.0)) [
    | inl h ↦ rw h (find_without c t)
    | inr h ↦ rw (h, h) (find_without c t)
  ]

  -- another number's entry stays
  pub find_apart : (c d : ℕ) (t : Table X) → (c ≡ d → ⊥) → find c (without d t) ≡ find c t
  find_apart c d [] apart = refl
  find_apart c d (e ∷ t) apart = elim (cases_Bool (is_at (nat_cmp d) e.0)) [
    | inl h ↦ (let away : is_at (nat_cmp c) e.0 ≡ false = is_at_other c e.0 (λ k. apart (k ∙ sym (is_at_one d e.0 h))) in rw (h, away) (find_apart c d t apart))
    | inr h ↦ rw h (ap (λ r. if is_at (nat_cmp c) e.0 then Some e.1 else r) (find_apart c d t apart))
  ]

  -- what was set is found
  find_set : (c : ℕ) (x y : X) (t : Table X) → find c t ≡ Some y → find c (set c x t) ≡ Some x
  find_set c x y [] e = absurd cc
  find_set c x y (d ∷ t) e = elim (cases_Bool (is_at (nat_cmp c) d.0)) [
    | inl h ↦ rw (h, h) refl
    | inr h ↦ rw (h, h) (find_set c x y t (rw h at e))
  ]

  find_set_apart : (c d : ℕ) (x : X) (t : Table X) → (c ≡ d → ⊥) → find d (set c x t) ≡ find d t
  find_set_apart c d x [] apart = refl
  find_set_apart c d x (e ∷ t) apart = elim (cases_Bool (is_at (nat_cmp c) e.0)) [
    | inl h ↦ (let away : is_at (nat_cmp d) e.0 ≡ false = is_at_other d e.0 (λ k. apart (is_at_one c e.0 h ∙ sym k)) in rw (h, away) refl)
    | inr h ↦ rw h (ap (λ r. if is_at (nat_cmp d) e.0 then Some e.1 else r) (find_set_apart c d x t apart))
  ]

  found_own_at : (f : X → X) (c : ℕ) (t : Table X) (o : Option X) → find c t ≡ o → find c (changed_at f c o t) ≡ option_map f o
  found_own_at f c t None e = e
  found_own_at f c t (Some x) e = find_set c (f x) x t e

  -- what is found after a change
  pub found_own : (f : X → X) (c : ℕ) (t : Table X) → find c (changed f c t) ≡ option_map f (find c t)
  found_own f c t = found_own_at f c t (find c t) refl

  found_other_at : (f : X → X) (c d : ℕ) (t : Table X) (o : Option X) → (d ≡ c → ⊥) → find c (changed_at f d o t) ≡ find c t
  found_other_at f c d t None apart = refl
  found_other_at f c d t (Some x) apart = find_set_apart d c (f x) t apart

  pub found_other : (f : X → X) (c d : ℕ) (t : Table X) → (d ≡ c → ⊥) → find c (changed f d t) ≡ find c t
  found_other f c d t apart = found_other_at f c d t (find d t) apart

  -- ---- all that stands for a number

  -- nothing, once it was removed
  pub at_without : (c : ℕ) (t : Table X) → at_conn c (without c t) ≡ []
  at_without c [] = refl
  at_without c (e ∷ t) = elim (cases_Bool (is_at (nat_cmp c) e.0)) [
    | inl h ↦ rw h (at_without c t)
    | inr h ↦ (let away : (e.0 == c) ≡ false = ne_eqb e.0 c (λ k. let bad : true ≡ false = sym (is_at_own c) ∙ ap (λ n. is_at (nat_cmp c) n) (sym k) ∙ h in cc) in rw (h, away) (at_without c t))
  ]

  -- nor where none is found
  pub at_none : (c : ℕ) (t : Table X) → is_some (find c t) ≡ false → at_conn c t ≡ []
  at_none c [] e = refl
  at_none c (x ∷ t) e = elim (cases_Bool (is_at (nat_cmp c) x.0)) [
    | inl h ↦ absurd (let bad = rw h at e in cc)
    | inr h ↦ (let away : (x.0 == c) ≡ false = ne_eqb x.0 c (λ k. let bad : true ≡ false = sym (is_at_own c) ∙ ap (λ n. is_at (nat_cmp c) n) (sym k) ∙ h in cc) in rw away (at_none c t (rw h at e)))
  ]

  -- another's stays
  pub at_apart : (c d : ℕ) (t : Table X) → (c ≡ d → ⊥) → at_conn c (without d t) ≡ at_conn c t
  at_apart c d [] apart = refl
  at_apart c d (e ∷ t) apart = elim (cases_Bool (is_at (nat_cmp d) e.0)) [
    | inl h ↦ (let away : (e.0 == c) ≡ false = ne_eqb e.0 c (λ k. apart (sym k ∙ sym (is_at_one d e.0 h))) in rw (h, away) (at_apart c d t apart))
    | inr h ↦ rw h (ap (λ r. (if e.0 == c then e.1 ∷ [] else []) ++ r) (at_apart c d t apart))
  ]

  pub at_both : (c : ℕ) (s t : Table X) → at_conn c (s ++ t) ≡ at_conn c s ++ at_conn c t
  at_both c [] t = refl
  at_both c (e ∷ s) t = ap (λ r. (if e.0 == c then e.1 ∷ [] else []) ++ r) (at_both c s t) ∙ sym (append_assoc (if e.0 == c then e.1 ∷ [] else []) (at_conn c s) (at_conn c t))

  pub at_own : (c : ℕ) (x : X) → at_conn c ((c, x) ∷ []) ≡ x ∷ []
  at_own c x = ap (λ b. (if b then x ∷ [] else []) ++ []) (eq-eqb c c refl)

  pub at_other : (c d : ℕ) (x : X) → (d ≡ c → ⊥) → at_conn c ((d, x) ∷ []) ≡ []
  at_other c d x apart = ap (λ b. (if b then x ∷ [] else []) ++ []) (ne_eqb d c apart)

  -- a table is its numbers and its values
  pub zipped : (t : Table X) → zip (map (λ e. e.0) t) (map (λ e. e.1) t) ≡ t
  zipped [] = refl
  zipped (e ∷ t) = ap (λ r. e ∷ r) (zipped t)

  -- ---- an entry more

  -- it is found
  pub find_insert : (c : ℕ) (x : X) (t : Table X) → find c (insert_entry nat_cmp t c x) ≡ Some x
  find_insert c x [] = rw (is_at_own c) refl
  find_insert c x (e ∷ t) = elim (compared c e.0) [
    | inl h ↦ rw (h.1, is_at_own c) refl
    | inr (inl h) ↦ rw (h.1, h.1) refl
    | inr (inr h) ↦ rw (h.1, h.1) (find_insert c x t)
  ]

  -- and another number's stays
  pub find_insert_apart : (c d : ℕ) (x : X) (t : Table X) → (c ≡ d → ⊥) → find d (insert_entry nat_cmp t c x) ≡ find d t
  find_insert_apart c d x [] apart = rw (is_at_other d c (λ k. apart (sym k))) refl
  find_insert_apart c d x (e ∷ t) apart = elim (compared c e.0) [
    | inl h ↦ rw (h.1, is_at_other d c (λ k. apart (sym k))) refl
    | inr (inl h) ↦ (let away : is_at (nat_cmp d) e.0 ≡ false = is_at_other d e.0 (λ k. apart (h.0 ∙ sym k)) in rw (h.1, away) refl)
    | inr (inr h) ↦ rw h.1 (ap (λ r. if is_at (nat_cmp d) e.0 then Some e.1 else r) (find_insert_apart c d x t apart))
  ]

-- ---- numbers in order

-- each is above this one
abbrev pub Above : ℕ → List ℕ → Type 0
Above k [] = Unit {0}
Above k (n ∷ ns) = (k < n) × Above k ns

abbrev pub Rising : List ℕ → Type 0
Rising [] = Unit {0}
Rising (n ∷ ns) = Above n ns × Rising ns

above_less : (j k : ℕ) (ns : List ℕ) → j < k → Above k ns → Above j ns
above_less j k [] lt h = tt
above_less j k (n ∷ ns) lt h = (omega (arith, lt, h.0), above_less j k ns lt h.1)

module _ {X : Type 0} where
  keys_changed_at : (f : X → X) (c : ℕ) (o : Option X) (t : Table X) → keys_of (changed_at f c o t) ≡ keys_of t
  keys_changed_at f c None t = refl
  keys_changed_at f c (Some x) t = keys-set_value (is_at (nat_cmp c)) t (f x)

  pub keys_changed : (f : X → X) (c : ℕ) (t : Table X) → keys_of (changed f c t) ≡ keys_of t
  keys_changed f c t = keys_changed_at f c (find c t) t

  pub rising_changed : (f : X → X) (c : ℕ) (t : Table X) → Rising (keys_of t) → Rising (keys_of (changed f c t))
  rising_changed f c t h = subst Rising (sym (keys_changed f c t)) h

  above_without : (k c : ℕ) (t : Table X) → Above k (keys_of t) → Above k (keys_of (without c t))
  above_without k c [] h = tt
  above_without k c (e ∷ t) h = elim (cases_Bool (is_at (nat_cmp c) e.0)) [
    | inl g ↦ rw g (above_without k c t h.1)
    | inr g ↦ rw g (h.0, above_without k c t h.1)
  ]

  pub rising_without : (c : ℕ) (t : Table X) → Rising (keys_of t) → Rising (keys_of (without c t))
  rising_without c [] h = tt
  rising_without c (e ∷ t) h = elim (cases_Bool (is_at (nat_cmp c) e.0)) [
    | inl g ↦ rw g (rising_without c t h.1)
    | inr g ↦ rw g (above_without e.0 c t h.0, rising_without c t h.1)
  ]

  above_insert : (k c : ℕ) (x : X) (t : Table X) → k < c → Above k (keys_of t) → Above k (keys_of (insert_entry nat_cmp t c x))
  above_insert k c x [] lt h = (lt, tt)
  above_insert k c x (e ∷ t) lt h = elim (compared c e.0) [
    | inl g ↦ rw g.1 (lt, h)
    | inr (inl g) ↦ rw g.1 h
    | inr (inr g) ↦ rw g.1 (h.0, above_insert k c x t lt h.1)
  ]

  pub rising_insert : (c : ℕ) (x : X) (t : Table X) → Rising (keys_of t) → Rising (keys_of (insert_entry nat_cmp t c x))
  rising_insert c x [] h = (tt, tt)
  rising_insert c x (e ∷ t) h = elim (compared c e.0) [
    | inl g ↦ rw g.1 ((g.0, above_less c e.0 (keys_of t) g.0 h.0), h)
    | inr (inl g) ↦ rw g.1 h
    | inr (inr g) ↦ rw g.1 (above_insert e.0 c x t g.0 h.0, rising_insert c x t h.1)
  ]

  above_found : (k d : ℕ) (y : X) (t : Table X) → Above k (keys_of t) → find d t ≡ Some y → k < d
  above_found k d y [] h e = absurd cc
  above_found k d y (f ∷ t) h e = elim (cases_Bool (is_at (nat_cmp d) f.0)) [
    | inl g ↦ (let same = is_at_one d f.0 g in omega (arith, same, h.0))
    | inr g ↦ above_found k d y t h.1 (rw g at e)
  ]

  -- ---- the first that passes a test

  module _ (test : ℕ → Bool) where
    -- those below it don't
    pub first_below : (t : Table X) (c d : ℕ) (y : X) → Rising (keys_of t) → first test (keys_of t) ≡ Some c → find d t ≡ Some y → d < c → test d ≡ false
    first_below [] c d y h e there lt = absurd cc
    first_below (f ∷ t) c d y h e there lt = elim (cases_Bool (test f.0)) [
      | inl g ↦ (let same : f.0 ≡ c = (let k = rw g at e in cc) in elim (cases_Bool (is_at (nat_cmp d) f.0)) [
        | inl own ↦ absurd (let one = is_at_one d f.0 own in omega (arith, one, same, lt))
        | inr other ↦ absurd (let above = above_found f.0 d y t h.0 (rw other at there) in omega (arith, above, same, lt))
      ])
      | inr g ↦ elim (cases_Bool (is_at (nat_cmp d) f.0)) [
        | inl own ↦ ap test (is_at_one d f.0 own) ∙ g
        | inr other ↦ first_below t c d y h.1 (rw g at e) (rw other at there) lt
      ]
    ]

    -- nor does any, where there is none
    pub first_none : (t : Table X) (d : ℕ) (y : X) → first test (keys_of t) ≡ None → find d t ≡ Some y → test d ≡ false
    first_none [] d y e there = absurd cc
    first_none (f ∷ t) d y e there = elim (cases_Bool (test f.0)) [
      | inl g ↦ absurd (let k = rw g at e in cc)
      | inr g ↦ elim (cases_Bool (is_at (nat_cmp d) f.0)) [
        | inl own ↦ ap test (is_at_one d f.0 own) ∙ g
        | inr other ↦ first_none t d y (rw g at e) (rw other at there)
      ]
    ]
