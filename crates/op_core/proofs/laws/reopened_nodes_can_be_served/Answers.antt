use Rattle.op_core.proofs.NodeCores.{reopened, restarted, unopened}
use Rattle.op_core.proofs.laws.reopened_nodes_can_be_served.Goals as goal

pub returns-clause-opened : goal.returns-clause-opened
returns-clause-opened g c d is_new n m sends = reopened g.D.Disk.state d is_new n m sends

pub returns-clause-refused : goal.returns-clause-refused
returns-clause-refused g c n m cause = unopened g.D.Disk.state n m cause

pub returns-clause-restarted : goal.returns-clause-restarted
returns-clause-restarted g c d is_new n m sends = restarted g.D.Disk.state d is_new n m sends
