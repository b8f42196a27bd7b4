use Rattle.std.proofs.Common.{◌≡◌, ◌++◌, take}
use Rattle.std.specs.List.{flat_map}
use Rattle.op_sched.specs.Text.{pid_text}
use Rattle.op_sched.proofs.reporting.entries.put_pids.Given as goal

abbrev pub invariant-loop-pid : goal.invariant-loop-pid
invariant-loop-pid l = l.text.items ≡ l.fn.text.items ++ flat_map pid_text (take l.pid-index l.pids)
