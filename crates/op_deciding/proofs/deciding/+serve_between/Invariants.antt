use Rattle.std.proofs.Common.{length}
use Rattle.op_deciding.proofs.deciding.+serve_between.Given as goal

abbrev pub decreases-serve_between : goal.decreases-serve_between
decreases-serve_between l = length l.log.batch.now
