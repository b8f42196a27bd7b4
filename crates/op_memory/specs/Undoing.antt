-- What a disk in memory held before the calls that it keeps: what is left once they are undone.
use Rattle.std.specs.Prelude.{◌≡◌, ℕ, List, [], ◌∷◌, length, take, drop}
use Rattle.op_memory.specs.declared.call.Call.{Call}
use Rattle.op_memory.specs.declared.replaced.Replaced.{Replaced}
use Rattle.op_memory.specs.Images.{after, state_of, fresh, overlaid}

-- what a read gave before a call that replaced this
abbrev pub before : Replaced → List ℕ → List ℕ
before r bytes = take r.len (overlaid bytes r.at r.bytes.items)

-- what a read gave before the calls that replaced these: the last one is undone first
abbrev pub undone : List Replaced → List ℕ → List ℕ
undone [] bytes = bytes
undone (r ∷ replaced) bytes = before r (undone replaced bytes)

-- after this call these bytes are there again once so many of them, from a place on, are laid back and the
-- length is what it was
abbrev pub IsRestored : Call → List ℕ → ℕ → ℕ → Type 0
IsRestored call bytes at count =
    take (length bytes) (overlaid (after call (fresh bytes)).content at (take count (drop at bytes))) ≡ bytes

-- The calls replaced these: once those from any place on are undone, a read gives what it gave there.
pub record Undoes (calls : List Call) (replaced : List Replaced) (bytes : List ℕ) : Type 0 where
  pub each : length replaced ≡ length calls
  pub gives : (k : ℕ) → undone (drop k replaced) bytes
      ≡ (state_of (fresh (undone replaced bytes)) (take k calls)).content
