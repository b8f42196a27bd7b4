-- What a write that found no memory leaves.
use Rattle.std.specs.Prelude.{◌≡◌, ℕ, List, length, take}

-- what was there stands, and perhaps a part of the text after it
abbrev pub KeepsPrefix : List ℕ → List ℕ → Type 0
KeepsPrefix old new = take (length old) new ≡ old
