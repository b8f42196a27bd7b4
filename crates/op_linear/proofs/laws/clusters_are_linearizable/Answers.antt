use Rattle.op_linear.proofs.Calls.{clusters_are_linearizable, clusters_let_again}
use Rattle.op_linear.proofs.Seen.{clients_see_results, stale_is_past}
use Rattle.op_linear.proofs.laws.clusters_are_linearizable.Goals as goal

pub returns : goal.returns
returns c = record { linearizable = clusters_are_linearizable; again = clusters_let_again; seen = clients_see_results; stale = stale_is_past }
