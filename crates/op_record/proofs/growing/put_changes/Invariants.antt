use Rattle.std.proofs.Common.{◌≡◌, ◌++◌, take}
use Rattle.std.specs.List.{flat_map}
use Rattle.op_record.specs.Forms.{change}
use Rattle.op_record.proofs.growing.put_changes.Given as goal

abbrev pub invariant-changes : goal.invariant-changes
invariant-changes l = l.out.items ≡ l.fn.out.items ++ flat_map change.text (take l.c-index l.c-items)
