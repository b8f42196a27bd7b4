use Rattle.std.proofs.Common.{length}
use Rattle.op_choosing.proofs.choosing.+kept_promise.Given as goal

abbrev pub decreases-kept_promise : goal.decreases-kept_promise
decreases-kept_promise l = length l.promises.now
