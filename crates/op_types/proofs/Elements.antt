-- Elements of lists by number.
use Rattle.std.proofs.Common.{◌≡◌, ℕ, zero, suc, ◌+◌, ◌-◌, ◌<◌, ◌≤◌, List, [], ◌∷◌, ◌++◌, length, take, drop, refl, sym, ap, ◌∙◌, subst, arith, Some, None}
use Rattle.std.specs.Prelude.{slice_get}
use Rattle.std.proofs.lemmas.List.{take-append-drop}
use Rattle.std.proofs.lemmas.Option.{slice_get_within}

-- None isn't Some
pub none_some : {A P : Type 0} (a : A) → None ≡ Some a → P
none_some a e = absurd (differ a e)
  where
    differ : {A : Type 0} (a : A) → None ≡ Some a → ⊥
    differ a e = cc

pub some_is : {A : Type 0} (a b : A) → Some a ≡ Some b → a ≡ b
some_is a b e = cc

-- an element of the first part
pub get_left : {A : Type 0} (xs ys : List A) (k : ℕ) (x : A) → slice_get xs k ≡ Some x → slice_get (xs ++ ys) k ≡ Some x
get_left [] ys k x e = none_some x e
get_left (y ∷ xs) ys zero x e = e
get_left (y ∷ xs) ys (suc k) x e = get_left xs ys k x e

-- an element that was there
pub get_old : {A : Type 0} (xs ys : List A) (k : ℕ) (x : A) → k < length xs → slice_get (xs ++ ys) k ≡ Some x → slice_get xs k ≡ Some x
get_old [] ys k x lt e = absurd (omega arith)
get_old (y ∷ xs) ys zero x lt e = e
get_old (y ∷ xs) ys (suc k) x lt e = get_old xs ys k x (omega arith) e

-- an element of the second part
pub get_right : {A : Type 0} (xs ys : List A) (k : ℕ) (x : A) → slice_get ys k ≡ Some x → slice_get (xs ++ ys) (length xs + k) ≡ Some x
get_right [] ys k x e = let z : 0 + k ≡ k = omega arith in subst (λ j. slice_get ys j ≡ Some x) (sym z) e
get_right (y ∷ xs) ys k x e = let z : length (y ∷ xs) + k ≡ suc (length xs + k) = omega arith in subst (λ j. slice_get (y ∷ (xs ++ ys)) j ≡ Some x) (sym z) (get_right xs ys k x e)

-- an element of a prefix
pub get_take : {A : Type 0} (n : ℕ) (xs : List A) (k : ℕ) (x : A) → slice_get (take n xs) k ≡ Some x → slice_get xs k ≡ Some x
get_take n xs k x h = subst (λ y. slice_get y k ≡ Some x) (take-append-drop n xs) (get_left (take n xs) (drop n xs) k x h)

-- an element that a prefix reaches over
pub get_taken : {A : Type 0} (n : ℕ) (xs : List A) (k : ℕ) (x : A) → k < n → slice_get xs k ≡ Some x → slice_get (take n xs) k ≡ Some x
get_taken zero xs k x lt h = absurd (omega arith)
get_taken (suc n) [] k x lt h = h
get_taken (suc n) (y ∷ xs) zero x lt h = h
get_taken (suc n) (y ∷ xs) (suc k) x lt h = get_taken n xs k x (omega arith) h

-- an element stays in a list that begins as this one
pub get_on : {A : Type 0} (xs ys : List A) (k : ℕ) (x : A) → take (length xs) ys ≡ take (length xs) xs → slice_get xs k ≡ Some x → slice_get ys k ≡ Some x
get_on xs ys k x same is = get_take (length xs) ys k x (ap (λ l. slice_get l k) same ∙ get_taken (length xs) xs k x (slice_get_within xs k x is) is)

-- an element behind a place
pub get_drop : {A : Type 0} (n : ℕ) (xs : List A) (k : ℕ) (x : A) → slice_get (drop n xs) k ≡ Some x → slice_get xs (n + k) ≡ Some x
get_drop zero xs k x h = let z : k ≡ zero + k = omega arith in subst (λ j. slice_get xs j ≡ Some x) z h
get_drop (suc n) [] k x h = none_some x h
get_drop (suc n) (y ∷ xs) k x h = let z : suc (n + k) ≡ suc n + k = omega arith in subst (λ j. slice_get (y ∷ xs) j ≡ Some x) z (get_drop n xs k x h)

-- two lists of one length, whose elements stand in one list from one place on, are the same
pub get_same : {A : Type 0} (l xs ys : List A) (at : ℕ) → length xs ≡ length ys → ((k : ℕ) (x : A) → slice_get xs k ≡ Some x → slice_get l (at + k) ≡ Some x) → ((k : ℕ) (x : A) → slice_get ys k ≡ Some x → slice_get l (at + k) ≡ Some x) → xs ≡ ys
get_same l [] [] at n f g = refl
get_same l [] (y ∷ ys) at n f g = absurd (omega (arith, n))
get_same l (x ∷ xs) [] at n f g = absurd (omega (arith, n))
get_same l (x ∷ xs) (y ∷ ys) at n f g =
    let first : x ≡ y = some_is x y (sym (f 0 x refl) ∙ g 0 y refl) in
    let rest : xs ≡ ys = get_same l xs ys (at + 1) (omega (arith, n))
    (λ k z h. let e : at + suc k ≡ at + 1 + k = omega arith in subst (λ j. slice_get l j ≡ Some z) e (f (suc k) z h))
    (λ k z h. let e : at + suc k ≡ at + 1 + k = omega arith in subst (λ j. slice_get l j ≡ Some z) e (g (suc k) z h)) in
    ap (λ z. z ∷ xs) first ∙ ap (λ zs. y ∷ zs) rest

-- elements that stand in a list from its beginning on are its prefix
prefix_from : {A : Type 0} (l xs : List A) → ((k : ℕ) (x : A) → slice_get xs k ≡ Some x → slice_get l k ≡ Some x) → (length xs ≤ length l) × (take (length xs) l ≡ xs)
prefix_from l [] f = (omega arith, refl)
prefix_from [] (x ∷ xs) f = none_some x (f 0 x refl)
prefix_from (y ∷ l) (x ∷ xs) f =
    let r = prefix_from l xs (λ k z h. f (suc k) z h) in
    (omega (arith, r.0), ap (λ z. z ∷ take (length xs) l) (some_is y x (f 0 x refl)) ∙ ap (λ zs. x ∷ zs) r.1)

-- those that stand in it from a place on follow its prefix up to there
pub slice_from : {A : Type 0} (l xs : List A) (at : ℕ) → at ≤ length l → ((k : ℕ) (x : A) → slice_get xs k ≡ Some x → slice_get l (at + k) ≡ Some x) → (at + length xs ≤ length l) × (take (at + length xs) l ≡ take at l ++ xs)
slice_from l xs zero le f =
    let r = prefix_from l xs (λ k z h. let e : zero + k ≡ k = omega arith in subst (λ j. slice_get l j ≡ Some z) e (f k z h)) in
    (omega (arith, r.0), (let e : zero + length xs ≡ length xs = omega arith in ap (λ j. take j l) e) ∙ r.1)
slice_from [] xs (suc at) le f = absurd (omega (arith, le))
slice_from (y ∷ l) xs (suc at) le f =
    let r = slice_from l xs at (omega (arith, le)) (λ k z h. let e : suc at + k ≡ suc (at + k) = omega arith in subst (λ j. slice_get (y ∷ l) j ≡ Some z) e (f k z h)) in
    (omega (arith, r.0), (let e : suc at + length xs ≡ suc (at + length xs) = omega arith in ap (λ j. take j (y ∷ l)) e) ∙ ap (λ zs. y ∷ zs) r.1)

-- an element behind the first part
pub get_behind : {A : Type 0} (xs ys : List A) (k : ℕ) (x : A) → length xs ≤ k → slice_get (xs ++ ys) k ≡ Some x → slice_get ys (k - length xs) ≡ Some x
get_behind [] ys k x le h = let z : k ≡ k - 0 = omega arith in subst (λ j. slice_get ys j ≡ Some x) z h
get_behind (y ∷ xs) ys zero x le h = absurd (omega (arith, le))
get_behind (y ∷ xs) ys (suc k) x le h = let z : k - length xs ≡ suc k - suc (length xs) = omega arith in subst (λ j. slice_get ys j ≡ Some x) z (get_behind xs ys k x (omega (arith, le)) h)
