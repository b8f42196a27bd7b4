use Rattle.std.proofs.Common.{◌≡◌, drop}
use Rattle.op_protocol.specs.State.{raises_promise}
use Rattle.op_instance.proofs.volatile.raises_promise.Given as goal

abbrev pub invariant-loop-change : goal.invariant-loop-change
invariant-loop-change l = raises_promise l.batch ≡ raises_promise (drop l.change-index l.batch)
