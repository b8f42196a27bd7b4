use Rattle.std.proofs.Common.{refl}
use Rattle.op_queues.proofs.Settling.{does_nothing}
use Rattle.op_queues.proofs.sessions.Sessions.tell_outcome.Goals as goal

pub returns-in-None : goal.returns-in-None
returns-in-None c = rw c.in-None.is (does_nothing (λ s. s) c.args.self.now refl)

pub returns-in-Some : goal.returns-in-Some
returns-in-Some c = rw c.in-Some.is c.tell.ensures
