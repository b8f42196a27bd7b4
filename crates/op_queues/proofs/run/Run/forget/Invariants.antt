use Rattle.std.proofs.Common.{◌≡◌, length}
use Rattle.op_serving.specs.State.{without}
use Rattle.op_queues.proofs.run.Run.forget.Given as goal

abbrev pub invariant-commands : goal.invariant-commands
invariant-commands l = without l.conn l.self ≡ without l.conn l.fn.self

abbrev pub decreases-commands : goal.decreases-commands
decreases-commands l = length l.self
