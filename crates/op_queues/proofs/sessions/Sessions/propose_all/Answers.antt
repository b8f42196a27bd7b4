use Rattle.op_queues.proofs.sessions.Sessions.propose_all.Goals as goal

pub returns-in-None : goal.returns-in-None
returns-in-None c = rw c.in-None.is c.ask_all.ensures

pub returns-in-Some : goal.returns-in-Some
returns-in-Some c = rw c.in-Some.is c.deny_all.ensures
