-- The order of bytes, by the numbers that they spell, and by zeros behind them.
use Rattle.std.proofs.Common.{◌≡◌, ℕ, zero, suc, ◌+◌, ◌*◌, ◌≤◌, ◌<◌, List, [], ◌∷◌, ◌++◌, length, get_or, take, drop, Ordering, Less, Equal, Greater, refl, sym, ap, ◌∙◌, arith, length-drop}
use Rattle.std.proofs.lemmas.List.{take-append-drop, length-take-le}
use Rattle.std.specs.Ordering.{nat_cmp, ordering_then}
use Rattle.std.specs.Cmp.Lexicographic.{slice_cmp}
use Rattle.std.proofs.lemmas.Cmp.{ranked, by_ranked, nat_cmp_total, tied_itself}
use Rattle.op_types.specs.Words.{spelt, ZerosFrom}

abbrev pub AreBytes : List ℕ → Type 0
AreBytes xs = (k : ℕ) → get_or xs k 0 < 256

-- ---- two numbers, by how they lie
below : (x y : ℕ) → x < y → nat_cmp x y ≡ Less
below x y l = by_ranked _ _ _ _ (ranked x y (nat_cmp x y) refl) (λ e _. e) (λ _ q. absurd (omega arith)) (λ _ q. absurd (omega arith))

above : (x y : ℕ) → y < x → nat_cmp x y ≡ Greater
above x y l = by_ranked _ _ _ _ (ranked x y (nat_cmp x y) refl) (λ _ q. absurd (omega arith)) (λ _ q. absurd (omega arith)) (λ e _. e)

level : (x : ℕ) → nat_cmp x x ≡ Equal
level x = tied_itself nat_cmp_total x

pub level_numbers : (x y : ℕ) → x ≡ y → nat_cmp x y ≡ Equal
level_numbers x y e = ap (nat_cmp x) (sym e) ∙ level x

-- the lesser one begins the lesser number
rises : (a b : ℕ) (us vs : List ℕ) → length us ≡ length vs → AreBytes us → a < b → spelt a us < spelt b vs
rises a b [] [] e h l = l
rises a b [] (v ∷ vs) e h l = absurd (omega arith)
rises a b (u ∷ us) [] e h l = absurd (omega arith)
rises a b (u ∷ us) (v ∷ vs) e h l = let small : u < 256 = h 0 in rises (a * 256 + u) (b * 256 + v) us vs (omega arith) (λ k. h (suc k)) (omega arith)

-- as many bytes decide as the numbers that they spell
pub decide : (a : ℕ) (us vs ss ts : List ℕ) → length us ≡ length vs → AreBytes us → AreBytes vs → slice_cmp nat_cmp (us ++ ss) (vs ++ ts) ≡ ordering_then (nat_cmp (spelt a us) (spelt a vs)) (slice_cmp nat_cmp ss ts)
decide a [] [] ss ts e g h = sym (ap (λ r. ordering_then r (slice_cmp nat_cmp ss ts)) (level a))
decide a [] (v ∷ vs) ss ts e g h = absurd (omega arith)
decide a (u ∷ us) [] ss ts e g h = absurd (omega arith)
decide a (u ∷ us) (v ∷ vs) ss ts e g h =
    let rest = slice_cmp nat_cmp ss ts in
    let more = slice_cmp nat_cmp (us ++ ss) (vs ++ ts) in
    let small : u < 256 = g 0 in
    let few : v < 256 = h 0 in
    by_ranked (u < v) (u ≡ v) (v < u) _ (ranked u v (nat_cmp u v) refl)
    (λ r l.
    let lies : u < v = l in
    ap (λ o. ordering_then o more) r ∙ sym (ap (λ o. ordering_then o rest) (below _ _ (rises (a * 256 + u) (a * 256 + v) us vs (omega arith) (λ k. g (suc k)) (omega arith)))))
    (λ r l.
    let lies : u ≡ v = l in
    ap (λ o. ordering_then o more) r ∙ decide (a * 256 + u) us vs ss ts (omega arith) (λ k. g (suc k)) (λ k. h (suc k))
    ∙ ap (λ w. ordering_then (nat_cmp (spelt (a * 256 + u) us) (spelt (a * 256 + w) vs)) rest) lies)
    (λ r l.
    let lies : v < u = l in
    ap (λ o. ordering_then o more) r ∙ sym (ap (λ o. ordering_then o rest) (above _ _ (rises (a * 256 + v) (a * 256 + u) vs us (omega arith) (λ k. h (suc k)) (omega arith)))))

none_left : (xs ys : List ℕ) → length xs ≡ length ys → ZerosFrom 0 xs → ZerosFrom 0 ys → slice_cmp nat_cmp xs ys ≡ Equal
none_left [] [] e g h = refl
none_left [] (y ∷ ys) e g h = absurd (omega arith)
none_left (x ∷ xs) [] e g h = absurd (omega arith)
none_left (x ∷ xs) (y ∷ ys) e g h =
    let same : x ≡ y = g 0 (omega arith) ∙ sym (h 0 (omega arith)) in
    ap (λ r. ordering_then r (slice_cmp nat_cmp xs ys)) (ap (nat_cmp x) (sym same) ∙ level x)
    ∙ none_left xs ys (omega arith) (λ k l. g (suc k) (omega arith)) (λ k l. h (suc k) (omega arith))

-- zeros are never above, and nothing is below them
not_above : (xs ys : List ℕ) → length xs ≡ length ys → ZerosFrom 0 xs → ordering_then (slice_cmp nat_cmp xs ys) Less ≡ Less
not_above [] [] e g = refl
not_above [] (y ∷ ys) e g = absurd (omega arith)
not_above (x ∷ xs) [] e g = absurd (omega arith)
not_above (x ∷ xs) (y ∷ ys) e g =
    let then_less = λ (r : Ordering). ordering_then (ordering_then r (slice_cmp nat_cmp xs ys)) Less in
    let zero_first : x ≡ 0 = g 0 (omega arith) in
    by_ranked (x < y) (x ≡ y) (y < x) _ (ranked x y (nat_cmp x y) refl) (λ r _. ap then_less r)
    (λ r _. ap then_less r ∙ not_above xs ys (omega arith) (λ k l. g (suc k) (omega arith))) (λ _ l. absurd (omega arith))

not_under : (xs ys : List ℕ) → length xs ≡ length ys → ZerosFrom 0 ys → ordering_then (slice_cmp nat_cmp xs ys) Greater ≡ Greater
not_under [] [] e h = refl
not_under [] (y ∷ ys) e h = absurd (omega arith)
not_under (x ∷ xs) [] e h = absurd (omega arith)
not_under (x ∷ xs) (y ∷ ys) e h =
    let then_greater = λ (r : Ordering). ordering_then (ordering_then r (slice_cmp nat_cmp xs ys)) Greater in
    let zero_first : y ≡ 0 = h 0 (omega arith) in
    by_ranked (x < y) (x ≡ y) (y < x) _ (ranked x y (nat_cmp x y) refl) (λ _ l. absurd (omega arith))
    (λ r _. ap then_greater r ∙ not_under xs ys (omega arith) (λ k l. h (suc k) (omega arith))) (λ r _. ap then_greater r)

then_assoc : (a b c : Ordering) → ordering_then (ordering_then a b) c ≡ ordering_then a (ordering_then b c)
then_assoc Less b c = refl
then_assoc Equal b c = refl
then_assoc Greater b c = refl

both_more : (n m : ℕ) → nat_cmp (suc n) (suc m) ≡ nat_cmp n m
both_more n m =
    by_ranked (n < m) (n ≡ m) (m < n) _ (ranked n m (nat_cmp n m) refl)
    (λ r (l : n < m).
    let more : suc n < suc m = omega arith in
    below (suc n) (suc m) more ∙ sym r)
    (λ r l. ap (λ k. nat_cmp (suc n) (suc k)) (sym l) ∙ level (suc n) ∙ sym r)
    (λ r (l : m < n).
    let more : suc m < suc n = omega arith in
    above (suc n) (suc m) more ∙ sym r)

-- zeros behind the bytes leave their order, but for how many they are
pub padded : (n m : ℕ) (xs ys : List ℕ) → length xs ≡ length ys → n ≤ length xs → m ≤ length ys → ZerosFrom n xs → ZerosFrom m ys
    → slice_cmp nat_cmp (take n xs) (take m ys) ≡ ordering_then (slice_cmp nat_cmp xs ys) (nat_cmp n m)
padded zero zero xs ys e p q g h = sym (ap (λ r. ordering_then r (nat_cmp 0 0)) (none_left xs ys e g h))
padded zero (suc m) xs [] e p q g h = absurd (omega arith)
padded zero (suc m) xs (y ∷ ys) e p q g h = sym (ap (ordering_then (slice_cmp nat_cmp xs (y ∷ ys))) (below 0 (suc m) (omega arith)) ∙ not_above xs (y ∷ ys) e g)
padded (suc n) zero [] ys e p q g h = absurd (omega arith)
padded (suc n) zero (x ∷ xs) ys e p q g h = sym (ap (ordering_then (slice_cmp nat_cmp (x ∷ xs) ys)) (above (suc n) 0 (omega arith)) ∙ not_under (x ∷ xs) ys e h)
padded (suc n) (suc m) [] ys e p q g h = absurd (omega arith)
padded (suc n) (suc m) (x ∷ xs) [] e p q g h = absurd (omega arith)
padded (suc n) (suc m) (x ∷ xs) (y ∷ ys) e p q g h =
    ap (ordering_then (nat_cmp x y)) (padded n m xs ys (omega arith) (omega arith) (omega arith) (λ k l. g (suc k) (omega arith)) (λ k l. h (suc k) (omega arith)))
    ∙ sym (then_assoc (nat_cmp x y) (slice_cmp nat_cmp xs ys) (nat_cmp n m)) ∙ ap (ordering_then (slice_cmp nat_cmp (x ∷ xs) (y ∷ ys))) (sym (both_more n m))

pub apart : (x y : ℕ) (r : Ordering) → (x ≡ y → ⊥) → ordering_then (nat_cmp x y) r ≡ nat_cmp x y
apart x y r n =
    by_ranked (x < y) (x ≡ y) (y < x) _ (ranked x y (nat_cmp x y) refl) (λ e _. ap (λ o. ordering_then o r) e ∙ sym e) (λ _ l. absurd (n l))
    (λ e _. ap (λ o. ordering_then o r) e ∙ sym e)

bytes_taken : (n : ℕ) (xs : List ℕ) → AreBytes xs → AreBytes (take n xs)
bytes_taken zero xs h k = omega arith
bytes_taken (suc n) [] h k = omega arith
bytes_taken (suc n) (x ∷ xs) h zero = h 0
bytes_taken (suc n) (x ∷ xs) h (suc k) = bytes_taken n xs (λ j. h (suc j)) k

bytes_dropped : (n : ℕ) (xs : List ℕ) → AreBytes xs → AreBytes (drop n xs)
bytes_dropped zero xs h k = h k
bytes_dropped (suc n) [] h k = omega arith
bytes_dropped (suc n) (x ∷ xs) h k = bytes_dropped n xs (λ j. h (suc j)) k

-- the first n decide, and then those behind them
first_decide : (n : ℕ) (xs ys : List ℕ) → n ≤ length xs → n ≤ length ys → AreBytes xs → AreBytes ys
    → slice_cmp nat_cmp xs ys ≡ ordering_then (nat_cmp (spelt 0 (take n xs)) (spelt 0 (take n ys))) (slice_cmp nat_cmp (drop n xs) (drop n ys))
first_decide n xs ys p q a b =
    ap (λ l. slice_cmp nat_cmp l ys) (sym (take-append-drop n xs)) ∙ ap (slice_cmp nat_cmp (take n xs ++ drop n xs)) (sym (take-append-drop n ys))
    ∙ decide 0 (take n xs) (take n ys) (drop n xs) (drop n ys) (length-take-le n xs p ∙ sym (length-take-le n ys q)) (bytes_taken n xs a) (bytes_taken n ys b)

empty : (xs ys : List ℕ) → length xs ≡ 0 → length ys ≡ 0 → slice_cmp nat_cmp xs ys ≡ Equal
empty [] [] p q = refl
empty [] (y ∷ ys) p q = absurd (omega arith)
empty (x ∷ xs) ys p q = absurd (omega arith)

then_equal : (r : Ordering) → ordering_then r Equal ≡ r
then_equal Less = refl
then_equal Equal = refl
then_equal Greater = refl

-- eight of fourteen bytes decide as one number, and then six as another
pub words_decide : (xs ys : List ℕ) → length xs ≡ 14 → length ys ≡ 14 → AreBytes xs → AreBytes ys
    → slice_cmp nat_cmp xs ys
    ≡ ordering_then (nat_cmp (spelt 0 (take 8 xs)) (spelt 0 (take 8 ys))) (nat_cmp (spelt 0 (take 6 (drop 8 xs))) (spelt 0 (take 6 (drop 8 ys))))
words_decide xs ys p q a b =
    let us = drop 8 xs in
    let vs = drop 8 ys in
    let rest = nat_cmp (spelt 0 (take 6 us)) (spelt 0 (take 6 vs)) in
    let left : length (drop 6 us) ≡ 0 = omega (arith, length-drop 6 us, length-drop 8 xs) in
    let right : length (drop 6 vs) ≡ 0 = omega (arith, length-drop 6 vs, length-drop 8 ys) in
    first_decide 8 xs ys (omega arith) (omega arith) a b
    ∙ ap (ordering_then (nat_cmp (spelt 0 (take 8 xs)) (spelt 0 (take 8 ys))))
    (first_decide 6 us vs (omega (arith, length-drop 8 xs)) (omega (arith, length-drop 8 ys)) (bytes_dropped 8 xs a) (bytes_dropped 8 ys b)
    ∙ ap (ordering_then rest) (empty (drop 6 us) (drop 6 vs) left right) ∙ then_equal rest)
