use Rattle.std.proofs.Common.{length}
use Rattle.op_chain.proofs.trimming.+trims.Given as goal

abbrev pub decreases-trims : goal.decreases-trims
decreases-trims l = length l.batch.now
