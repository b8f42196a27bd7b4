use Rattle.std.proofs.Common.{length}
use Rattle.op_executions.proofs.ids.+count_below.Given as goal

abbrev pub decreases-count_below : goal.decreases-count_below
decreases-count_below l = length l.ids.now
