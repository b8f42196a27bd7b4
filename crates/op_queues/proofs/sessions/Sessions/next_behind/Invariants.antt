use Rattle.std.proofs.Common.{◌≡◌, ◌+◌}
use Rattle.op_serving.specs.Turns.{waiting_from}
use Rattle.op_queues.proofs.Waiting.{first_waiting}
use Rattle.op_queues.proofs.sessions.Sessions.next_behind.Given as goal

abbrev pub invariant-loop-other : goal.invariant-loop-other
invariant-loop-other l = first_waiting l.self.sessions l.other-iterator ≡ waiting_from (l.conn + 1) l.self.sessions
