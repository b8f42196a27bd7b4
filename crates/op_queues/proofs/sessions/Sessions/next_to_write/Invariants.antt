use Rattle.std.proofs.Common.{◌≡◌}
use Rattle.op_serving.specs.Turns.{waiting_from}
use Rattle.op_queues.proofs.Waiting.{first_waiting}
use Rattle.op_queues.proofs.sessions.Sessions.next_to_write.Given as goal

abbrev pub invariant-loop-conn : goal.invariant-loop-conn
invariant-loop-conn l = first_waiting l.self.sessions l.conn-iterator ≡ waiting_from l.low l.self.sessions
