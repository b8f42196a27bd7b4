use Rattle.std.proofs.Common.{length}
use Rattle.op_serving.specs.State.{Loop}
use Rattle.op_serving.specs.Losses.{settled, Does}
use Rattle.op_serving.specs.Room.{moved}
use Rattle.op_queues.proofs.sessions.Sessions.move_up.Given as goal

abbrev pub invariant-behind : goal.invariant-behind
invariant-behind l = (t : Loop) → Does (λ marks s. settled marks (moved l.conn s)) l.self t → Does (λ marks s. settled marks (moved l.conn s)) l.fn.self t

abbrev pub decreases-behind : goal.decreases-behind
decreases-behind l = length l.self.behind
