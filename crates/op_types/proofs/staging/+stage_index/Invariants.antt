use Rattle.std.proofs.Common.{length}
use Rattle.op_types.proofs.staging.+stage_index.Given as goal

abbrev pub decreases-stage_index : goal.decreases-stage_index
decreases-stage_index l = length l.stages.now
