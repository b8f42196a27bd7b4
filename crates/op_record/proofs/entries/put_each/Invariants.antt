use Rattle.std.proofs.Common.{◌≡◌, ◌++◌, take}
use Rattle.std.specs.List.{flat_map}
use Rattle.op_entry.specs.Forms.{entry}
use Rattle.op_record.proofs.entries.put_each.Given as goal

abbrev pub invariant-entries : goal.invariant-entries
invariant-entries l = l.out.items ≡ l.fn.out.items ++ flat_map entry.text (take l.e-index l.es)
