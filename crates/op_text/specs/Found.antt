-- What a reader finds.
use Rattle.std.specs.Prelude.{Option, Some, None}

-- the value of which P holds, and none only where it holds of no value
abbrev pub IsFound : {T : Type 0} → (T → Type 0) → Option T → Type 0
IsFound P (Some x) = P x
IsFound {T} P None = (x : T) → P x → ⊥
