use Rattle.op_linear.proofs.Linear.{clusters_are_linear}
use Rattle.op_linear.proofs.laws.clusters_are_linear.Goals as goal

pub returns : goal.returns
returns c = record { linear = clusters_are_linear }
