-- A text that is cut at its first byte of one kind. Only what is inside the crate speaks of this.
use Rattle.std.specs.Prelude.{◌≡◌, ◌≢◌, ◌∷◌, ◌++◌, ℕ, List, All}

-- the text is this, which has no such byte, that byte, and this behind it
pub record IsSplit (text : List ℕ) (byte : ℕ) (before after : List ℕ) : Type 0 where
  pub lacks : All (λ b. b ≢ byte) before
  pub is : text ≡ before ++ byte ∷ after
