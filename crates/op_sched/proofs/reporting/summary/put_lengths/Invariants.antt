use Rattle.std.proofs.Common.{◌≡◌, ◌++◌, take}
use Rattle.std.specs.List.{flat_map}
use Rattle.op_sched.specs.Summaries.{length_line}
use Rattle.op_sched.proofs.reporting.summary.put_lengths.Given as goal

abbrev pub invariant-loop-listed : goal.invariant-loop-listed
invariant-loop-listed l = l.text.items ≡ l.fn.text.items ++ flat_map length_line (take l.listed-index l.lists)
