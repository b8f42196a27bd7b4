-- As many bytes as go into a piece, or as there are.
use Rattle.std.proofs.Common.{◌≡◌, ℕ, ◌<◌, ◌≤◌, min, List, length, take, ap, ◌∙◌, sym, arith, ⊎_elim}
use Rattle.std.proofs.lemmas.Bool.{cases_lt}
use Rattle.std.proofs.lemmas.List.{take_all}

pub take_least : (n : ℕ) (xs : List ℕ) → take (min (length xs) n) xs ≡ take n xs
take_least n xs =
    ⊎_elim (λ (lt : n < length xs). let e : min (length xs) n ≡ n = omega arith in
    ap (λ (k : ℕ). take k xs) e)
    (λ (le : length xs ≤ n). let e : min (length xs) n ≡ length xs = omega arith in
    ap (λ (k : ℕ). take k xs) e ∙ take_all (length xs) xs (omega arith) ∙ sym (take_all n xs le))
    (cases_lt n (length xs))
