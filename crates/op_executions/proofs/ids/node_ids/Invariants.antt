use Rattle.std.proofs.Common.{◌≡◌, take}
use Rattle.op_runs.specs.World as runs
use Rattle.op_executions.proofs.ids.node_ids.Given as goal

abbrev pub invariant-loop-pid : goal.invariant-loop-pid
invariant-loop-pid l = l.ids.items ≡ runs.node_ids l.first (take l.pid-index l.more)
