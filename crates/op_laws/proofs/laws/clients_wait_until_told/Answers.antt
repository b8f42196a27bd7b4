use Rattle.op_laws.proofs.laws.clients_wait_until_told.Goals as goal
use Rattle.op_laws.proofs.WaitingOn.{clients_wait}

pub returns : goal.returns
returns c = record { waits = clients_wait }
