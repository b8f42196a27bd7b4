use Rattle.op_linear.proofs.Goes.{some_cluster_goes_on}
use Rattle.op_linear.proofs.Exchanged.{some_cluster_reads}
use Rattle.op_linear.proofs.Worked.{some_cluster_answers}
use Rattle.op_linear.proofs.laws.clusters_exist.Goals as goal

pub returns : goal.returns
returns c = record { answers = some_cluster_answers; goes_on = some_cluster_goes_on; reads = some_cluster_reads }
