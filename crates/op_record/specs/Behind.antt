-- A durable state with entries behind its log that aren't adopted yet.
use Rattle.std.specs.Prelude.{ℕ, List, [], ◌∷◌, ◌++◌, Option, Some, None}
use Rattle.op_types.specs.Changes.{part_with_log}
use Rattle.op_types.specs.declared.log.Entry.{Entry}
use Rattle.op_types.specs.declared.durable.Part.{Part}
use Rattle.op_types.specs.declared.durable.Durable.{Durable}
use Rattle.op_types.specs.declared.changes.Change.{Change}
use Rattle.op_types.specs.declared.changes.Change.TheVariants as variant

-- a batch that appends entries, and perhaps tells how much is decided then
abbrev pub appending : List Entry → Option ℕ → List Change
appending entries None = variant.Append entries ∷ []
appending entries (Some decided) = variant.Append entries ∷ variant.Decided decided ∷ []

-- how much of a part is decided then
abbrev pub decided_behind : Part → Option ℕ → ℕ
decided_behind p None = p.decided
decided_behind p (Some decided) = decided

-- the part with them
abbrev pub part_behind : Part → List Entry → Option ℕ → Part
part_behind p entries decided =
    record (part_with_log p (p.tail.items ++ entries)) { decided = decided_behind p decided }

-- the same, where there is a part
abbrev pub part_option_behind : Option Part → List Entry → Option ℕ → Option Part
part_option_behind None entries decided = None
part_option_behind (Some p) entries decided = Some (part_behind p entries decided)

-- the durable state with them
abbrev pub durable_behind : Durable → List Entry → Option ℕ → Durable
durable_behind d entries decided = record d { part = part_option_behind d.part entries decided }
