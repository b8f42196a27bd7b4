use Rattle.std.proofs.Common.{length}
use Rattle.op_leader.proofs.staged.+staged.Given as goal

abbrev pub decreases-staged : goal.decreases-staged
decreases-staged l = length l.stages.now
