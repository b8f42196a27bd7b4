use Rattle.std.proofs.Common.{ap, subst}
use Rattle.op_areas.specs.Media.{medium}
use Rattle.op_runs.specs.World.{Stops}
use Rattle.op_replay_nodes.specs.Became.{IsLeftDown}
use Rattle.op_replay_nodes.specs.declared.awaited.Awaited.TheVariants as told
use Rattle.op_replay_nodes.specs.declared.node_state.NodeState.{NodeState}
use Rattle.op_replay_nodes.specs.declared.node_state.WorldNode.{WorldNode}
use Rattle.op_replay_nodes.proofs.Doings.{did_stop, only}
use Rattle.op_replay_nodes.proofs.happening.WorldNode+A+A+Copies.stop.Goals as goal

pub returns : goal.returns
returns g c line =
    let M = medium g.A.Disk.state g.A.Area.holds g.A.Area.IS_MIRRORED in
    let old = c.args.self.now in
    let left = c.in_ok-left in
    (only M) c.nothing-2.result old _ Stops line c.nothing-2.ensures
    (did_stop M old _ line left.left c.requires.kept c.requires.due (subst (λ (s : NodeState _ _). IsLeftDown M s left.left) c.replace-state.ensures.value left.ensures)
    (ap (λ (s : NodeState _ _). let x : WorldNode _ _ = record old { state = s; plan = record old.plan { awaited = told.Nothing } } in x) c.put.ensures))
