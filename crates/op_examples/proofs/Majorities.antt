-- Majorities and what they have, given from outside.
use Rattle.std.proofs.Common.{◌≡◌, ℕ, List, [], ◌∷◌, ◌+◌, length, true, false, refl}
use Rattle.op_quorum.specs.Quorums.{is_majority, reaching, IsBacked}

majorities : (is_majority 1 1 ≡ true) × (is_majority 2 3 ≡ true) × (is_majority 3 4 ≡ true)
majorities = (refl, refl, refl)

minorities : (is_majority 0 1 ≡ false) × (is_majority 1 2 ≡ false) × (is_majority 2 4 ≡ false)
minorities = (refl, refl, refl)

-- a majority has the length x, and none has the next one
abbrev HasAtMost : List ℕ → ℕ → Type 0
HasAtMost lengths x = IsBacked lengths x × (is_majority (reaching lengths (x + 1)) (length lengths) ≡ false)

lengths :
    (HasAtMost (4 ∷ []) 4) × (HasAtMost (4 ∷ 9 ∷ []) 4) × (HasAtMost (4 ∷ 9 ∷ 0 ∷ []) 4) ×
    (HasAtMost (5 ∷ 5 ∷ 1 ∷ 5 ∷ []) 5) × (HasAtMost (7 ∷ 3 ∷ 9 ∷ 1 ∷ 3 ∷ []) 3) ×
    (HasAtMost (0 ∷ 0 ∷ 8 ∷ []) 0)
lengths = ((refl, refl), (refl, refl), (refl, refl), (refl, refl), (refl, refl), (refl, refl))
