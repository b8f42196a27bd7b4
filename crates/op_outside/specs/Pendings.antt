-- What is pending on a disk since its last sync, and what a crash may leave of it.
use Rattle.std.specs.Prelude.{◌≡◌, ◌⊎◌, ℕ, ◌+◌, ◌<◌, ◌≤◌, max, min, List, [], ◌∷◌, length, slice_index}

-- the bytes of the last sync, the least and the greatest length since,
-- and the range of each write tried since
pub record Pending : Type 0 where
  pub base : List ℕ
  pub low : ℕ
  pub high : ℕ
  pub writes : List (ℕ × ℕ)

-- nothing is pending
abbrev pub synced : List ℕ → Pending
synced bytes = record { base = bytes; low = length bytes; high = length bytes; writes = [] }

-- a write of n bytes was tried
abbrev pub written : ℕ → ℕ → Pending → Pending
written at n s = record s { high = max s.high (at + n); writes = (at, n) ∷ s.writes }

-- a cut to n bytes was tried
abbrev pub shortened : ℕ → Pending → Pending
shortened n s = record s { low = min s.low n }

-- no write covers this place
abbrev pub Uncovered : List (ℕ × ℕ) → ℕ → Type 0
Uncovered [] p = Unit {0}
Uncovered (w ∷ writes) p = ((p < w.0) ⊎ (w.0 + w.1 ≤ p)) × Uncovered writes p

-- A length between the least and the greatest, and the synced byte at each place that no write covers and no
-- cut took: a place past the least length is no surer than one that a write covers.
pub record IsImage (s : Pending) (x : List ℕ) : Type 0 where
  pub no_shorter : s.low ≤ length x
  pub no_longer : length x ≤ s.high
  pub same : (p : ℕ) → p < s.low → Uncovered s.writes p → slice_index x p ≡ slice_index s.base p

-- This list mixes three: its length is no less than the least of theirs and no more than the greatest, and
-- where the first two have the same byte, it has the third one's.
pub record IsMixed (x y w z : List ℕ) : Type 0 where
  pub no_shorter : min (length w) (min (length x) (length y)) ≤ length z
  pub no_longer : length z ≤ max (length w) (max (length x) (length y))
  pub same : (p : ℕ) → p < length x → p < length y → p < length w → p < length z
      → slice_index x p ≡ slice_index y p → slice_index z p ≡ slice_index w p
