-- An image that holds one byte wherever a write is pending, made range by range.
use Rattle.std.specs.Prelude.{◌≡◌, ◌⊎◌, ◌<◌, ◌≤◌, ◌+◌, ℕ, max, List, [], ◌∷◌, length, slice_index}
use Rattle.op_memory.specs.declared.call.Call.{Call}
use Rattle.op_memory.specs.Images.{State, after, IsFilled}
use Rattle.op_memory.specs.Syncs.{HasNoSync}

-- so many bytes from a place on are this byte now, and each other one is as it was
pub record SetsRange (at count byte : ℕ) (old new : List ℕ) : Type 0 where
  pub long : length new ≡ max (length old) (at + count)
  pub inside : (p : ℕ) → at ≤ p → p < at + count → slice_index new p ≡ byte
  pub outside : (p : ℕ) → (p < at) ⊎ (at + count ≤ p) → slice_index new p ≡ slice_index old p

-- what was filled before this call is filled after it
abbrev pub Fills : Call → ℕ → List ℕ → List ℕ → Type 0
Fills call byte old new =
    (s : State) → HasNoSync (call ∷ []) → IsFilled s.pending byte old →
    IsFilled (after call s).pending byte new
