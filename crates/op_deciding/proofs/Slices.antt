-- Slices of lists between two bounds.
use Rattle.std.proofs.Common.{◌≡◌, ℕ, zero, suc, ◌+◌, ◌-◌, List, [], ◌∷◌, ◌++◌, length, take, drop, refl, sym, ap, ◌∙◌, arith}
use Rattle.std.specs.Prelude.{min}
use Rattle.std.proofs.lemmas.List.{drop-take, drop-drop, take_min, drop_min, length-take}

-- a slice between two bounds that are cut to what is there
pub cut_slice : {A : Type 0} (a b : ℕ) (xs : List A) → (let e = min b (length xs) in let s = min a e in take (e - s) (drop s xs) ≡ drop a (take b xs))
cut_slice a b xs =
    let e = min b (length xs) in
    let s = min a e in
    let whole : s + (e - s) ≡ e = omega arith in
    let len : min a (length (take b xs)) ≡ s = ap (λ n. min a n) (length-take b xs) in
    sym (drop-take s (e - s) xs) ∙ ap (λ n. drop s (take n xs)) whole ∙ ap (λ ys. drop s ys) (take_min b xs) ∙ ap (λ n. drop n (take b xs)) (sym len) ∙ drop_min a (take b xs)

min_zero : (b : ℕ) → min zero b ≡ zero
min_zero b = omega arith

zero_min : (a : ℕ) → min a zero ≡ zero
zero_min a = omega arith

min_suc : (a b : ℕ) → min (suc a) (suc b) ≡ suc (min a b)
min_suc a b = omega arith

-- what is taken of what was taken
pub take_both : {A : Type 0} (a b : ℕ) (xs : List A) → take a (take b xs) ≡ take (min a b) xs
take_both zero b xs = ap (λ (n : ℕ). take n xs) (sym (min_zero b))
take_both (suc a) zero xs = ap (λ (n : ℕ). take n xs) (sym (zero_min (suc a)))
take_both {A = A} (suc a) (suc b) [] = ap (λ (n : ℕ). take {A = A} n []) (sym (min_suc a b))
take_both (suc a) (suc b) (x ∷ xs) = ap (λ ys. x ∷ ys) (take_both a b xs) ∙ ap (λ (n : ℕ). take n (x ∷ xs)) (sym (min_suc a b))

less : (a b : ℕ) → suc a - suc b ≡ a - b
less a b = omega arith

none_less : (a : ℕ) → zero - a ≡ zero
none_less a = omega arith

less_none : (a : ℕ) → a - zero ≡ a
less_none a = omega arith

nothing_taken : {A : Type 0} (b : ℕ) → take {A = A} b [] ≡ []
nothing_taken zero = refl
nothing_taken (suc b) = refl

nothing_dropped : {A : Type 0} (b : ℕ) → drop {A = A} b [] ≡ []
nothing_dropped zero = refl
nothing_dropped (suc b) = refl

-- what is taken of two lists
take_joined : {A : Type 0} (b : ℕ) (xs ys : List A) → take b (xs ++ ys) ≡ take b xs ++ take (b - length xs) ys
take_joined b [] ys = ap (λ (n : ℕ). take n ys) (sym (less_none b)) ∙ ap (λ zs. zs ++ take (b - zero) ys) (sym (nothing_taken b))
take_joined zero (x ∷ xs) ys = ap (λ (n : ℕ). take n ys) (sym (none_less (suc (length xs))))
take_joined (suc b) (x ∷ xs) ys = ap (λ zs. x ∷ zs) (take_joined b xs ys) ∙ ap (λ (n : ℕ). x ∷ take b xs ++ take n ys) (sym (less b (length xs)))

-- a slice of two lists
pub slice_joined : {A : Type 0} (a b : ℕ) (xs ys : List A) → drop a (take b (xs ++ ys)) ≡ drop a (take b xs) ++ drop (a - length xs) (take (b - length xs) ys)
slice_joined {A = A} a b [] ys =
    ap (λ (zs : List A). drop a zs) (take_joined b [] ys ∙ ap (λ (zs : List A). zs ++ take (b - zero) ys) (nothing_taken b))
    ∙ ap (λ (n : ℕ). drop n (take (b - zero) ys)) (sym (less_none a))
    ∙ ap (λ (zs : List A). zs ++ drop (a - zero) (take (b - zero) ys)) (sym (nothing_dropped a) ∙ ap (λ (zs : List A). drop a zs) (sym (nothing_taken b)))
slice_joined {A = A} a zero (x ∷ xs) ys =
    let none : take (zero - suc (length xs)) ys ≡ [] = ap (λ (n : ℕ). take n ys) (none_less (suc (length xs))) in
    sym (ap (λ (zs : List A). drop a [] ++ drop (a - suc (length xs)) zs) none ∙ ap (λ (zs : List A). drop a [] ++ zs) (nothing_dropped (a - suc (length xs))) ∙ ap (λ (zs : List A). zs ++ []) (nothing_dropped a) ∙ sym (nothing_dropped a))
slice_joined {A = A} zero (suc b) (x ∷ xs) ys =
    ap (λ (zs : List A). x ∷ zs) (slice_joined zero b xs ys)
    ∙ ap (λ (n : ℕ). x ∷ take b xs ++ drop n (take (b - length xs) ys)) (none_less (length xs) ∙ sym (none_less (suc (length xs))))
    ∙ ap (λ (n : ℕ). x ∷ take b xs ++ drop (zero - suc (length xs)) (take n ys)) (sym (less b (length xs)))
slice_joined {A = A} (suc a) (suc b) (x ∷ xs) ys =
    slice_joined a b xs ys
    ∙ ap (λ (n : ℕ). drop a (take b xs) ++ drop n (take (b - length xs) ys)) (sym (less a (length xs)))
    ∙ ap (λ (n : ℕ). drop a (take b xs) ++ drop (suc a - suc (length xs)) (take n ys)) (sym (less b (length xs)))

-- a slice of what is left, in the whole list
pub slice_behind : {A : Type 0} (s e k : ℕ) (xs : List A) → drop s (take e (drop k xs)) ≡ drop (s + k) (take (e + k) xs)
slice_behind s e k xs =
    let start : k + s ≡ s + k = omega arith in
    let end : k + e ≡ e + k = omega arith in
    ap (λ ys. drop s ys) (sym (drop-take k e xs)) ∙ drop-drop s k (take (k + e) xs) ∙ ap (λ n. drop n (take (k + e) xs)) start ∙ ap (λ n. drop (s + k) (take n xs)) end
