use Rattle.std.proofs.Common.{length}
use Rattle.op_chain.proofs.joining.+has_base.Given as goal

abbrev pub decreases-has_base : goal.decreases-has_base
decreases-has_base l = length l.batch.now
