-- Entries by their positions, rising.
use Rattle.std.specs.Prelude.{◌<◌, ℕ, List, [], ◌∷◌}
use Rattle.op_types.specs.declared.log.Entry.{Entry}

-- all stand above a position
abbrev pub AreAbove : ℕ → List (ℕ × Entry) → Type 0
AreAbove n [] = Unit {0}
AreAbove n (x ∷ xs) = (n < x.0) × AreAbove n xs

-- each stands above those before it
abbrev pub Rises : List (ℕ × Entry) → Type 0
Rises [] = Unit {0}
Rises (x ∷ xs) = AreAbove x.0 xs × Rises xs
