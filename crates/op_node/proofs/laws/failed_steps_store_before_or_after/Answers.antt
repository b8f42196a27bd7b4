use Rattle.op_node.specs.Nodes.{node_of, stores}
use Rattle.op_node.proofs.Reopenings.{failed_step}
use Rattle.op_node.proofs.laws.failed_steps_store_before_or_after.Goals as goal

pub returns : goal.returns
returns g c n m x count steps represents = failed_step g.D.Disk.state (node_of n).state.durable (stores (node_of n) x) n.store m.store count steps represents
