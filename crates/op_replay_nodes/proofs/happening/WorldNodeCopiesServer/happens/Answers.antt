use Rattle.op_runs.specs.World.{Stops, Opens, Tells}
use Rattle.op_executions.specs.Deeds.{told_of}
use Rattle.op_executions.specs.declared.deed.Doing.TheVariants as variant
use Rattle.op_executions.proofs.Servers.{told_at}
use Rattle.op_replay_nodes.specs.Nodes.{area_nodes}
use Rattle.op_replay_nodes.proofs.Doings.{handed_on, not_due}
use Rattle.op_replay_nodes.proofs.happening.WorldNodeCopiesServer.happens.Goals as goal
use Rattle.op_areas.specs.Media.{medium}

pub returns-in-Steps : goal.returns-in-Steps
returns-in-Steps g c =
    let M = medium g.A.Disk.state g.A.Area.holds g.A.Area.IS_MIRRORED in
    let a = c.args in
    (handed_on M) c.step.result a.self.now c.step.new.self a.doing (variant.Steps c.in-Steps.input) a.line a.lines.now c.step.new.lines c.in-Steps.is c.step.ensures

pub returns-in_ok-stop-in-Stops : goal.returns-in_ok-stop-in-Stops
returns-in_ok-stop-in-Stops g c =
    let M = medium g.A.Disk.state g.A.Area.holds g.A.Area.IS_MIRRORED in
    let a = c.args in
    let did = c.in_ok-stop-in-Stops in
    (handed_on M) c.tell.result a.self.now c.stop.new.self a.doing variant.Stops a.line a.lines.now c.tell.new.lines c.in-Stops.is
    (told_at (area_nodes M) tt (not_due M a.self.now) Stops a.line c.stop.new.self did.field-0 c.tell.result a.lines.now c.tell.new.lines (did.ensures a.line) c.tell.ensures.sends c.tell.ensures.lines)

pub returns-in_ok-open-in-Opens : goal.returns-in_ok-open-in-Opens
returns-in_ok-open-in-Opens g c =
    let M = medium g.A.Disk.state g.A.Area.holds g.A.Area.IS_MIRRORED in
    let a = c.args in
    let did = c.in_ok-open-in-Opens in
    (handed_on M) c.tell-in-Opens.result a.self.now c.open.new.self a.doing variant.Opens a.line a.lines.now c.tell-in-Opens.new.lines c.in-Opens.is
    (told_at (area_nodes M) tt (not_due M a.self.now) Opens a.line c.open.new.self did.field-0 c.tell-in-Opens.result a.lines.now c.tell-in-Opens.new.lines (did.ensures a.line) c.tell-in-Opens.ensures.sends c.tell-in-Opens.ensures.lines)

pub returns-in_ok-tell-in-Tells : goal.returns-in_ok-tell-in-Tells
returns-in_ok-tell-in-Tells g c =
    let M = medium g.A.Disk.state g.A.Area.holds g.A.Area.IS_MIRRORED in
    let a = c.args in
    let now = not_due M a.self.now in
    let did = c.in_ok-tell-in-Tells in
    (handed_on M) c.tell-in-Tells-2.result a.self.now now a.doing (variant.Tells c.in-Tells.told) a.line a.lines.now c.tell-in-Tells-2.new.lines c.in-Tells.is
    (told_at (area_nodes M) tt now (Tells (told_of c.in-Tells.told)) a.line now did.field-0 c.tell-in-Tells-2.result a.lines.now c.tell-in-Tells-2.new.lines (did.ensures a.line) c.tell-in-Tells-2.ensures.sends c.tell-in-Tells-2.ensures.lines)
