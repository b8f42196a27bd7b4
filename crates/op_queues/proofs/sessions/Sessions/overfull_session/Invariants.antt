use Rattle.std.proofs.Common.{◌≡◌}
use Rattle.std.specs.Map.{keys_of}
use Rattle.op_queues.specs.Filling.{first_over}
use Rattle.op_queues.proofs.sessions.Sessions.overfull_session.Given as goal

abbrev pub invariant-loop-conn : goal.invariant-loop-conn
invariant-loop-conn l = first_over l.self.sessions (keys_of l.conn-iterator) ≡ first_over l.self.sessions (keys_of l.self.sessions)
