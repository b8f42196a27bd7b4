-- Bytes in place, read as numbers.
use Rattle.std.specs.Prelude.{◌≡◌, ℕ, ◌+◌, ◌*◌, ◌≤◌, List, [], ◌∷◌, slice_index}

-- how many bytes stand in place at most
abbrev pub most_short_bytes : ℕ
most_short_bytes = 14

-- the number that bytes spell behind n, the first one the greatest
abbrev pub spelt : ℕ → List ℕ → ℕ
spelt n [] = n
spelt n (b ∷ bs) = spelt (n * 256 + b) bs

-- zeros stand behind the first n
abbrev pub ZerosFrom : ℕ → List ℕ → Type 0
ZerosFrom n bytes = (k : ℕ) → n ≤ k → slice_index bytes k ≡ 0
