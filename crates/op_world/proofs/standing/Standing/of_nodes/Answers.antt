use Rattle.std.proofs.lemmas.List.{drop_all}
use Rattle.op_world.proofs.StandingNodes.{gathers_first, gathers_next, gathers_all, next_left, next_open}
use Rattle.op_world.proofs.standing.Standing.of_nodes.Goals as goal
use Rattle.std.proofs.Common.{refl}
use Rattle.op_areas.specs.Media.{medium}

pub nodes-init : goal.nodes-init
nodes-init g c =
    let M = medium g.A.Disk.state g.A.Area.holds g.A.Area.IS_MIRRORED in
    (gathers_first M) c.args.nodes.now _ _ _ refl refl c.new.ensures c.requires

pub add_node-requires : goal.add_node-requires
add_node-requires g c =
    let M = medium g.A.Disk.state g.A.Area.holds g.A.Area.IS_MIRRORED in
    let nodes = c.args.nodes.now in
    (next_open M) nodes _ _ c.node-item.result c.nodes.standing.latest c.nodes.standing.lines c.nodes.invariant (next_left M nodes c.nodes.node-index c.node-item.result c.nodes-test.true c.node-item.is)

pub nodes-preserved : goal.nodes-preserved
nodes-preserved g c =
    let M = medium g.A.Disk.state g.A.Area.holds g.A.Area.IS_MIRRORED in
    let nodes = c.args.nodes.now in
    (gathers_next M) nodes _ _ c.node-item.result c.nodes.standing.latest c.add_node.new.self.latest c.nodes.standing.lines c.add_node.new.self.lines c.nodes.invariant
    (next_left M nodes c.nodes.node-index c.node-item.result c.nodes-test.true c.node-item.is) (record { latest_is = c.in_ok-add_node.ensures.latest; lines_are = c.in_ok-add_node.ensures.lines })

pub returns : goal.returns
returns g c =
    let M = medium g.A.Disk.state g.A.Area.holds g.A.Area.IS_MIRRORED in
    let nodes = c.args.nodes.now in
    (gathers_all M) nodes _ c.nodes.standing.latest c.nodes.standing.lines c.nodes.invariant (drop_all c.nodes.node-index nodes c.nodes-test.false)
