use Rattle.op_connections.proofs.Runs.{done}
use Rattle.op_connections.proofs.laws.turns_take_all.Goals as goal

pub returns : goal.returns
returns c o l line given p b is here = done o l line given p b is here
