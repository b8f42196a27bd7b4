-- What is brought to a node that joins.
use Rattle.std.specs.Prelude.{◌&&◌, ℕ, ◌+◌, nat_le, Bool, not, List, [], ◌∷◌, length, Option, Some, None, is_some, if◌then◌else◌}
use Rattle.op_types.specs.declared.log.Entry.{Entry}
use Rattle.op_types.specs.declared.changes.Change.{Change}
use Rattle.op_types.specs.declared.changes.Change.TheVariants as change
use Rattle.op_types.specs.declared.durable.Joining.{Joining}
use Rattle.op_protocol.specs.Joining.{are_some, new_entries}

-- there are entries, and all of them stand in the closed list
abbrev pub stands_in : Joining → ℕ → List Entry → Bool
stands_in j at entries = are_some entries && nat_le (at + length entries) j.len

-- where these entries end, if they stand in the closed list
abbrev pub end_in : Joining → ℕ → List Entry → Option ℕ
end_in j at entries = if stands_in j at entries then Some (at + length entries) else None

-- the change by which a base is held, where none is and where it stands in the closed list
abbrev pub held_base : Joining → ℕ → List ℕ → List Change
held_base j at bytes = if not (is_some j.base) && nat_le at j.len then change.JoinBase at bytes ∷ [] else []

-- the change by which entries are held, where they stand in the closed list and aren't held yet
abbrev pub held_entries : Joining → ℕ → List Entry → List Change
held_entries j at entries = if stands_in j at entries then new_entries j at entries else []
