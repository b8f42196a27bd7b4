use Rattle.std.proofs.Common.{◌≡◌, ◌++◌, drop}
use Rattle.op_sched.specs.Text.{entries_text}
use Rattle.op_sched.proofs.reporting.put_entries.Given as goal

abbrev pub invariant-loop-pos : goal.invariant-loop-pos
invariant-loop-pos l = l.text.items ++ entries_text l.conf l.pos (drop l.pos l.entries) ≡ l.fn.text.items ++ entries_text l.conf 0 l.entries
