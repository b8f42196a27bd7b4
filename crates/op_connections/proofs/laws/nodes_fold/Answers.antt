use Rattle.op_connections.proofs.Runs.{folds}
use Rattle.op_connections.proofs.laws.nodes_fold.Goals as goal

pub returns : goal.returns
returns c o l line given p b is = folds o l line given p b is
