use Rattle.op_queues.proofs.Failing.{Gives}
use Rattle.op_queues.proofs.sessions.Sessions.give_up.Given as goal

abbrev pub invariant-loop-read : goal.invariant-loop-read
invariant-loop-read l = Gives l.count l.fn.self l._read-iterator l.self
