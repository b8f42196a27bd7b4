use Rattle.std.proofs.Common.{refl}
use Rattle.op_queues.proofs.Settling.{does_nothing}
use Rattle.op_queues.proofs.sessions.Sessions.deny_trim.Goals as goal

pub returns-in-None : goal.returns-in-None
returns-in-None c = rw c.in-None.is (does_nothing (λ s. s) c.args.self.now refl)

pub returns-in-Some : goal.returns-in-Some
returns-in-Some c = rw c.in-Some.is (rw c.denied.ensures at c.tell.ensures)

pub tell-requires : goal.tell-requires
tell-requires c = rw c.denied.ensures (rw c.in-Some.is at c.requires)
