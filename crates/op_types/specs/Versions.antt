-- What the first version of areas can hold: put, del, get and cas, and at most nine members.
use Rattle.std.specs.Prelude.{ℕ, nat_le, Bool, true, false, List, length}
use Rattle.std.specs.List.{list_all}
use Rattle.op_types.specs.declared.log.Op.{Op}
use Rattle.op_types.specs.declared.log.Op.TheVariants.{Put, Del, Get, Cas, Many, Forget}
use Rattle.op_types.specs.declared.log.Entry.{Entry}
use Rattle.op_types.specs.declared.log.Entry.TheVariants as entries

-- how many members a configuration had at most
abbrev pub most_first_members : ℕ
most_first_members = 9

-- as many members as it had
abbrev pub are_first_members : List ℕ → Bool
are_first_members ids = nat_le (length ids) most_first_members

-- an operation that it had
abbrev pub is_first_op : Op → Bool
is_first_op (Put key value) = true
is_first_op (Del key) = true
is_first_op (Get key) = true
is_first_op (Cas key old new) = true
is_first_op (Many writes) = false
is_first_op (Forget client) = false

-- an entry of these
abbrev pub is_first_entry : Entry → Bool
is_first_entry (entries.Command c) = is_first_op c.op
is_first_entry (entries.Stop s) = are_first_members s.members

-- entries of these
abbrev pub are_first_entries : List Entry → Bool
are_first_entries es = list_all is_first_entry es
