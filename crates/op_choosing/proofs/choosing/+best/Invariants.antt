use Rattle.std.proofs.Common.{length}
use Rattle.op_choosing.proofs.choosing.+best.Given as goal

abbrev pub decreases-best : goal.decreases-best
decreases-best l = length l.members.now
