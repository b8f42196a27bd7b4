-- What a part of a list is no longer than.
use Rattle.std.proofs.Common.{ℕ, ◌≤◌, List, ◌++◌, length, length-append, arith}

pub left_within : (a b : List ℕ) (n : ℕ) → length (a ++ b) ≤ n → length a ≤ n
left_within a b n h = omega (arith, length-append a b, h)

pub right_within : (a b : List ℕ) (n : ℕ) → length (a ++ b) ≤ n → length b ≤ n
right_within a b n h = omega (arith, length-append a b, h)
