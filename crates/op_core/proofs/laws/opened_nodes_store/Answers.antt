use Rattle.op_core.proofs.Disks.{opened_stores_so}
use Rattle.op_core.proofs.laws.opened_nodes_store.Goals as goal

pub returns : goal.returns
returns g c kind me members first second n sends = opened_stores_so g.D.Disk.state kind me members first second n sends
