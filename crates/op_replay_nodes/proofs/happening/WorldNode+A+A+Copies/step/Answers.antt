use Rattle.op_areas.specs.Media.{medium}
use Rattle.op_executions.proofs.Servers.{told_at}
use Rattle.op_runs.specs.World.{Steps}
use Rattle.op_replay_nodes.specs.Nodes.{area_nodes}
use Rattle.op_replay_nodes.proofs.happening.WorldNode+A+A+Copies.step.Goals as goal

pub returns : goal.returns
returns g c =
    let M = medium g.A.Disk.state g.A.Area.holds g.A.Area.IS_MIRRORED in
    let a = c.args in
    let did = c.in_ok-step_awaited in
    told_at (area_nodes M) tt a.self.now (Steps a.input) a.line c.step_awaited.new.self did.field-0 c.tell.result a.lines.now c.tell.new.lines did.ensures c.tell.ensures.sends c.tell.ensures.lines
