use Rattle.std.proofs.Common.{length}
use Rattle.op_executions.proofs.possible.+are_nodes.Given as goal

abbrev pub decreases-are_nodes : goal.decreases-are_nodes
decreases-are_nodes l = length l.pids.now
