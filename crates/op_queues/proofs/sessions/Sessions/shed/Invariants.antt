use Rattle.std.proofs.Common.{◌≡◌, length}
use Rattle.op_serving.specs.State.{shed}
use Rattle.op_queues.proofs.sessions.Sessions.shed.Given as goal

abbrev pub invariant-overfull : goal.invariant-overfull
invariant-overfull l = shed l.self ≡ shed l.fn.self

abbrev pub decreases-overfull : goal.decreases-overfull
decreases-overfull l = length l.self.sessions
