use Rattle.op_node.specs.Openings.{disks_with}
use Rattle.op_core.proofs.NodeCores.{opened}
use Rattle.op_core.proofs.laws.opened_nodes_can_be_served.Goals as goal

pub returns : goal.returns
returns g c kind me members first second n sends o one = let state = g.D.Disk.state in opened kind state me members (disks_with state first second) n sends o one
