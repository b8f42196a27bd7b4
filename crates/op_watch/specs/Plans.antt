-- What an observer takes of entries that it is shown.
use Rattle.std.specs.Prelude.{ℕ, ◌-◌, List, drop, Option, Some, None, if◌then◌else◌}
use Rattle.op_types.specs.Changes.{len_of}
use Rattle.op_types.specs.declared.log.Entry.{Entry}
use Rattle.op_types.specs.declared.durable.Part.{Part}
use Rattle.op_protocol.specs.Watching.{takes_shown}

-- what it lacks of decided entries from a position on, if it takes them
abbrev pub lacking : Part → ℕ → ℕ → List Entry → Option (List Entry)
lacking p c at entries = if takes_shown p c at entries then Some (drop (len_of p - at) entries) else None
