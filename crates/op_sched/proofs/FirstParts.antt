-- A text is cut at its first byte that passes a test.
use Rattle.std.proofs.Common.{◌≡◌, ℕ, ◌+◌, ◌<◌, ◌≤◌, Bool, cond, ltb, Option, Some, None, List, [], ◌∷◌, length, take, drop, arith}
use Rattle.std.proofs.lemmas.Bool.Decides.{nat_tests}
use Rattle.std.proofs.lemmas.List.Splits.{slice_split_none, slice_split_first}
use Rattle.std.proofs.lemmas.List.Sums.{fails_before_first}
use Rattle.std.specs.List.{slice_split, position_or_len}

-- where it stands, as `position` gives it
abbrev pub first_place : (ℕ → Bool) → List ℕ → Option ℕ
first_place p text = cond (ltb (position_or_len p text) (length text)) (Some (position_or_len p text)) None

none_from : (at len : ℕ) → cond (ltb at len) (Some at) None ≡ None → len ≤ at
none_from at len e = grind (arith, nat_tests)

some_from : (at len end : ℕ) → cond (ltb at len) (Some at) None ≡ Some end → (at ≡ end) × (end < len)
some_from at len end e = grind (arith, nat_tests)

-- a text without such a byte is one part
pub one_part : (p : ℕ → Bool) (text : List ℕ) → first_place p text ≡ None → slice_split p text ≡ text ∷ []
one_part p text e =
    let past = none_from (position_or_len p text) (length text) e in
    slice_split_none p text (λ k d lt. fails_before_first p text k d (omega arith))

-- the first part ends at the first such byte
pub part_and_more : (p : ℕ → Bool) (text : List ℕ) (end : ℕ) → first_place p text ≡ Some end
    → (slice_split p text ≡ take end text ∷ slice_split p (drop (end + 1) text)) × (end < length text)
part_and_more p text end e =
    let at = some_from (position_or_len p text) (length text) end e in
    (rw (← at.0) (slice_split_first p text 0 (omega arith)), at.1)
