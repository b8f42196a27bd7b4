-- Two numbers, as `cmp` and the tests of bounds see them.
use Rattle.std.proofs.Common.{◌≡◌, ℕ, ◌<◌, ◌+◌, refl, sym, true, false, nat_lt, nat_le, arith, ◌⊎◌, inl, inr}
use Rattle.std.specs.Ordering.{nat_cmp, is_le, is_lt}
use Rattle.std.specs.BTreeMap.{is_at}
use Rattle.std.specs.Cmp.{nat_cmp_is}
use Rattle.std.proofs.lemmas.Bool.{cases_Bool, ltb-true, ltb-false, leb-true, leb-false}
use Rattle.std.specs.declared.cmp.Ordering.TheVariants.{Less, Equal, Greater}

pub compared : (a b : ℕ) → ((a < b) × (nat_cmp a b ≡ Less)) ⊎ ((a ≡ b) × (nat_cmp a b ≡ Equal)) ⊎ ((b < a) × (nat_cmp a b ≡ Greater))
compared a b = elim (cases_Bool (nat_lt a b)) [
  | inl t ↦ (let lt : a < b = ltb-true a b t in inl (lt, sym (nat_cmp_is a b Less lt)))
  | inr f ↦ elim (cases_Bool (nat_lt b a)) [
    | inl t ↦ (let lt : b < a = ltb-true b a t in inr (inr (lt, sym (nat_cmp_is a b Greater lt))))
    | inr g ↦ (let one = ltb-false a b f in let two = ltb-false b a g in let e : a ≡ b = omega arith in inr (inl (e, sym (nat_cmp_is a b Equal e))))
  ]
]

-- from low on
pub is_le_is : (low n : ℕ) → is_le (nat_cmp low n) ≡ nat_le low n
is_le_is low n = elim (cases_Bool (nat_le low n)) [
  | inl t ↦ (let le = leb-true low n t in elim (compared low n) [
    | inl h ↦ rw (h.1, t) refl
    | inr (inl h) ↦ rw (h.1, t) refl
    | inr (inr h) ↦ absurd (omega (arith, h.0))
  ])
  | inr f ↦ (let gt = leb-false low n f in elim (compared low n) [
    | inl h ↦ absurd (omega (arith, h.0))
    | inr (inl h) ↦ absurd (omega (arith, h.0))
    | inr (inr h) ↦ rw (h.1, f) refl
  ])
]

-- after low
pub is_lt_is : (low n : ℕ) → is_lt (nat_cmp low n) ≡ nat_le (low + 1) n
is_lt_is low n = elim (cases_Bool (nat_le (low + 1) n)) [
  | inl t ↦ (let le = leb-true (low + 1) n t in elim (compared low n) [
    | inl h ↦ rw (h.1, t) refl
    | inr (inl h) ↦ absurd (omega (arith, h.0))
    | inr (inr h) ↦ absurd (omega (arith, h.0))
  ])
  | inr f ↦ (let gt = leb-false (low + 1) n f in elim (compared low n) [
    | inl h ↦ absurd (omega (arith, h.0))
    | inr (inl h) ↦ rw (h.1, f) refl
    | inr (inr h) ↦ rw (h.1, f) refl
  ])
]

-- a number is at itself, and nowhere else
pub is_at_own : (c : ℕ) → is_at (nat_cmp c) c ≡ true
is_at_own c = elim (compared c c) [ inl h ↦ absurd (omega (arith, h.0)) | inr (inl h) ↦ rw h.1 refl | inr (inr h) ↦ absurd (omega (arith, h.0)) ]

pub is_at_one : (c n : ℕ) → is_at (nat_cmp c) n ≡ true → c ≡ n
is_at_one c n e = elim (compared c n) [ inl h ↦ absurd (let k = rw h.1 at e in cc) | inr (inl h) ↦ h.0 | inr (inr h) ↦ absurd (let k = rw h.1 at e in cc) ]

pub is_at_other : (c n : ℕ) → (c ≡ n → ⊥) → is_at (nat_cmp c) n ≡ false
is_at_other c n differ = elim (compared c n) [ inl h ↦ rw h.1 refl | inr (inl h) ↦ absurd (differ h.0) | inr (inr h) ↦ rw h.1 refl ]
