use Rattle.std.proofs.Common.{◌≡◌, ◌++◌, take}
use Rattle.std.specs.List.{flat_map}
use Rattle.op_sched.specs.Text.{listed_text}
use Rattle.op_sched.proofs.reporting.put_lists.Given as goal

abbrev pub invariant-loop-listed : goal.invariant-loop-listed
invariant-loop-listed l = l.text.items ≡ l.fn.text.items ++ flat_map listed_text (take l.listed-index l.lists)
