-- What is held as a ring, while entries come to it: what was passed stands at its back.
use Rattle.std.specs.Prelude.{◌≡◌, ◌≤◌, ◌<◌, ◌+◌, ◌==◌, ◌&&◌, ◌++◌, ℕ, nat_lt, nat_le, Bool, false, List, [], ◌∷◌, length, take, drop, if◌then◌else◌}
use Rattle.op_types.specs.declared.log.Entry.{Entry}
use Rattle.op_types.specs.Rises.{Rises}
use Rattle.op_types.specs.Joinings.{held_with}

-- the first one stands below a position
abbrev pub is_first_below : List (ℕ × Entry) → ℕ → Bool
is_first_below [] place = false
is_first_below (x ∷ xs) place = nat_lt x.0 place

-- the first one stands at a position
abbrev pub is_first_at : List (ℕ × Entry) → ℕ → Bool
is_first_at [] place = false
is_first_at (x ∷ xs) place = x.0 == place

-- all stand below a position
abbrev pub AreBelow : ℕ → List (ℕ × Entry) → Type 0
AreBelow place [] = Unit {0}
AreBelow place (x ∷ xs) = (x.0 < place) × AreBelow place xs

-- all stand at a position or above it
abbrev pub AreFrom : ℕ → List (ℕ × Entry) → Type 0
AreFrom place [] = Unit {0}
AreFrom place (x ∷ xs) = (place ≤ x.0) × AreFrom place xs

-- what stands below a position was passed to the back, and so many are left at the front
pub record IsPassed (old : List (ℕ × Entry)) (place : ℕ) (new : List (ℕ × Entry)) (left : ℕ) : Type 0 where
  pub items : drop left new ++ take left new ≡ old
  pub within : left ≤ length new
  pub below : AreBelow place (drop left new)
  pub from : AreFrom place (take left new)

-- what was passed, and then what is left
abbrev pub unrolled : ℕ → List (ℕ × Entry) → List (ℕ × Entry)
unrolled left ring = drop left ring ++ take left ring

-- what is held so far makes the whole with the rest of the entries, from a position on
pub record Merging (ring : List (ℕ × Entry)) (left place : ℕ) (rest : List Entry)
    (whole : List (ℕ × Entry)) : Type 0 where
  pub rises : Rises (unrolled left ring)
  pub within : left ≤ length ring
  pub below : AreBelow place (drop left ring)
  pub from : AreFrom place (take left ring)
  pub total : held_with (unrolled left ring) place rest ≡ whole

-- the next position to be looked for up to an end, where this one is held
abbrev pub next_after : ℕ → ℕ → ℕ → ℕ
next_after next to place = if nat_lt next to && place == next then next + 1 else next

-- the entries held from a position to another
abbrev pub entries_between : List (ℕ × Entry) → ℕ → ℕ → List Entry
entries_between [] from to = []
entries_between (x ∷ xs) from to =
    if nat_le from x.0 && nat_lt x.0 to then x.1 ∷ entries_between xs from to else entries_between xs from to
