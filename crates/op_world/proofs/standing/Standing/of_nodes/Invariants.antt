use Rattle.std.proofs.Common.{drop}
use Rattle.op_world.proofs.StandingNodes.{Gathers}
use Rattle.op_world.proofs.standing.Standing.of_nodes.Given as goal
use Rattle.op_areas.specs.Media.{medium}

abbrev pub invariant-nodes : goal.invariant-nodes
invariant-nodes g l =
    let M = medium g.A.Disk.state g.A.Area.holds g.A.Area.IS_MIRRORED in
    (Gathers M) l.nodes (drop l.node-index l.nodes) l.standing.latest l.standing.lines
