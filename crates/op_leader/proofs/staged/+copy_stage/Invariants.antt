use Rattle.std.proofs.Common.{length}
use Rattle.op_leader.proofs.staged.+copy_stage.Given as goal

abbrev pub decreases-copy_stage : goal.decreases-copy_stage
decreases-copy_stage l = length l.stages.now
