use Rattle.op_connections.proofs.Due.{clients_told}
use Rattle.op_connections.proofs.laws.clients_are_told.Goals as goal

pub returns : goal.returns
returns c = record { told = clients_told }
