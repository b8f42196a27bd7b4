-- Words, and lists of them.
use Rattle.std.proofs.Common.{◌≡◌, ℕ, ◌≤◌, ◌<◌, List, [], ◌∷◌, length, get_or, map, arith, Result, Ok, Err}
use Rattle.std.specs.Result.{IfErr}

pub one_word : {A : Type 0} (f : A → List ℕ) (ws : List A) (d : A) (x : List ℕ) → 1 ≤ length ws → length ws < 2 → f (get_or ws 0 d) ≡ x → map f ws ≡ x ∷ []
one_word f [] d x low high h = absurd (omega arith)
one_word f (a ∷ []) d x low high h = cc
one_word f (a ∷ b ∷ ws) d x low high h = absurd (omega arith)

-- what holds anyway holds of an error
pub at_error : {T E : Type 0} (r : Result T E) (P : Type 0) → P → IfErr r (λ e. P)
at_error (Ok x) P h = tt
at_error (Err e) P h = h
