use Rattle.op_node.specs.Nodes.{node_of}
use Rattle.op_node.proofs.Watched.{stores_no_answer}
use Rattle.op_node.proofs.laws.answers_store_nothing.Goals as goal

pub returns : goal.returns
returns g c n m q message w result votes is steps =
    steps.idle (stores_no_answer (node_of n) q message w votes is)
