-- Which records the first version of areas can hold. They are encoded as they are now.
use Rattle.std.specs.Prelude.{◌&&◌, ℕ, Bool, true, false, List, Option, Some, None}
use Rattle.std.specs.List.{list_all}
use Rattle.op_types.specs.Versions.{are_first_members, is_first_entry, are_first_entries}
use Rattle.op_types.specs.declared.durable.Part.{Part}
use Rattle.op_types.specs.declared.durable.Closed.{Closed}
use Rattle.op_types.specs.declared.durable.Joining.{Joining}
use Rattle.op_types.specs.declared.durable.Durable.{Durable}
use Rattle.op_types.specs.declared.changes.Change.{Change}
use Rattle.op_types.specs.declared.changes.Change.TheVariants as variant
use Rattle.op_fields.specs.Form.{Form, tested}
use Rattle.op_record.specs.Forms.{body}
use Rattle.op_record.specs.declared.body.Rec.{Rec}
use Rattle.op_record.specs.declared.body.Rec.TheVariants.{Whole, Step}

-- a part, if there is one
abbrev pub is_first_part : Option Part → Bool
is_first_part None = true
is_first_part (Some p) = are_first_members p.members && are_first_entries p.tail.items

-- a closed list
abbrev pub is_first_closed : Option Closed → Bool
is_first_closed None = true
is_first_closed (Some l) = are_first_members l.olds && (are_first_members l.next && are_first_entries l.tail)

-- what is held while joining
abbrev pub is_first_joining : Option Joining → Bool
is_first_joining None = true
is_first_joining (Some j) =
    are_first_members j.members
    && (are_first_members j.olds && list_all (λ x. is_first_entry x.1) j.held.items)

-- a durable state
abbrev pub is_first_durable : Durable → Bool
is_first_durable d = is_first_part d.part && (is_first_closed d.closed && is_first_joining d.joining)

-- a change; there were no observers
abbrev pub is_first_change : Change → Bool
is_first_change (variant.Promise b) = true
is_first_change (variant.Accept b) = true
is_first_change (variant.CutTo n) = true
is_first_change (variant.Append es) = are_first_entries es
is_first_change (variant.Decided x) = true
is_first_change (variant.Trim x b) = true
is_first_change (variant.Close named b) = true
is_first_change (variant.JoinBegin c members olds len) = are_first_members members && are_first_members olds
is_first_change (variant.JoinDonor q trimmed) = true
is_first_change (variant.JoinBase at b) = true
is_first_change (variant.JoinPart at es) = are_first_entries es
is_first_change (variant.JoinDone b) = true
is_first_change (variant.Rebase c members at base) = false

-- a record
abbrev pub is_first_rec : Rec → Bool
is_first_rec (Whole d) = is_first_durable d
is_first_rec (Step changes) = list_all is_first_change changes

-- the body of a record in the first version
abbrev pub first_body : Form Rec
first_body = tested is_first_rec body
