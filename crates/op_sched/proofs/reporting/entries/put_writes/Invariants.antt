use Rattle.std.proofs.Common.{◌≡◌, ◌++◌, take}
use Rattle.std.specs.List.{flat_map}
use Rattle.op_sched.specs.Text.{write_text}
use Rattle.op_sched.proofs.reporting.entries.put_writes.Given as goal

abbrev pub invariant-loop-write : goal.invariant-loop-write
invariant-loop-write l = l.text.items ≡ l.fn.text.items ++ flat_map write_text (take l.write-index l.writes)
