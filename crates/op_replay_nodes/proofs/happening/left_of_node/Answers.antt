use Rattle.std.proofs.lemmas.Result.{IfOk-weaker}
use Rattle.op_areas.specs.Media.{medium}
use Rattle.op_node.specs.Nodes.{node_of}
use Rattle.op_replay_nodes.proofs.NodeDisks.{left_closed}
use Rattle.op_replay_nodes.proofs.happening.left_of_node.Goals as goal

pub returns : goal.returns
returns g c =
    let M = medium g.A.Disk.state g.A.Area.holds g.A.Area.IS_MIRRORED in
    let n = c.args.node in
    IfOk-weaker c.left_of.result _ _
    (λ down left. left_closed M.state M.holds (node_of n).state.durable n.store.first n.store.second c.in_ok-closed.closed down c.in_ok-closed.ensures left) c.left_of.ensures
