-- The first position of a closed list that isn't held, and a walk to it.
use Rattle.std.specs.Prelude.{◌≡◌, ◌==◌, ◌&&◌, ℕ, zero, suc, ◌+◌, ◌-◌, nat_lt, List, [], ◌∷◌, Option, Some, None, is_some, if◌then◌else◌}
use Rattle.op_types.specs.declared.log.Entry.{Entry}
use Rattle.op_types.specs.declared.durable.Joining.{Joining}
use Rattle.op_types.specs.Joinings.{Base, held_at, held_run, cover_of}
use Rattle.op_segments.specs.declared.fail.WholeFail.{WholeFail}
use Rattle.op_segments.specs.declared.fail.WholeFail.TheVariants.{NotYet, NoMemory}

-- the first of so many positions that isn't held, or the one behind them
abbrev pub first_missing : List (ℕ × Entry) → ℕ → ℕ → ℕ
first_missing held at zero = at
first_missing held at (suc count) =
    if is_some (held_at held at) then first_missing held (at + 1) count else at

-- the first position from the base's place on that isn't held; 0 without a base
abbrev pub missing_from : Option Base → List (ℕ × Entry) → ℕ → ℕ
missing_from None held len = 0
missing_from (Some b) held len = first_missing held b.0 (len - b.0)

-- base and entries don't cover the closed list, and this position is the first that is missing
abbrev pub IsMissing : Joining → WholeFail → Type 0
IsMissing j (NotYet at) = (cover_of j ≡ None) × (at ≡ missing_from j.base j.held.items j.len)
IsMissing j NoMemory = Unit {0}

-- the same, from a position to another
abbrev pub IsBroken : List (ℕ × Entry) → ℕ → ℕ → WholeFail → Type 0
IsBroken held from to (NotYet at) =
    (held_run held from (to - from) ≡ None) × (at ≡ first_missing held from (to - from))
IsBroken held from to NoMemory = Unit {0}

-- the entry of an item, where it stands at the next position
abbrev pub taken : ℕ → ℕ → ℕ × Entry → List Entry
taken next to x = if nat_lt next to && x.0 == next then x.1 ∷ [] else []
