use Rattle.std.proofs.Common.{refl, sym, subst}
use Rattle.std.proofs.lemmas.Result.{IfOk-weaker}
use Rattle.op_areas.specs.Media.{medium}
use Rattle.op_executions.specs.Servers.{IsDoneAt}
use Rattle.op_executions.specs.declared.server.Done.{Done}
use Rattle.op_runs.specs.World.{Steps}
use Rattle.op_replay_nodes.specs.Nodes.{area_nodes}
use Rattle.op_replay_nodes.specs.declared.node_state.NodeState.TheVariants as states
use Rattle.op_replay_nodes.proofs.Doings.{did_idle, did_refuse, only}
use Rattle.op_replay_nodes.proofs.Happenings.{admits_failed}
use Rattle.op_replay_nodes.proofs.happening.WorldNode+A+A+Copies.refuse.Goals as goal

pub returns-in_default : goal.returns-in_default
returns-in_default g c =
    let M = medium g.A.Disk.state g.A.Area.holds g.A.Area.IS_MIRRORED in
    let old = c.args.self.now in
    (only M) c.nothing.result old old (Steps c.args.input) c.args.line c.nothing.ensures (did_idle M old c.args.line c.args.input c.requires.down c.in_default.not-Failed c.requires.due)

pub returns : goal.returns
returns g c =
    let M = medium g.A.Disk.state g.A.Area.holds g.A.Area.IS_MIRRORED in
    let did = c.in-Ok.ensures in
    IfOk-weaker c.done_by.result _ _
    (λ r is. subst (λ (d : Done). IsDoneAt (area_nodes M) tt c.args.self.now (Steps c.args.input) c.args.line (record (c.args.self.now) { state = states.Failed c.step.new.self }) d.sends d.told) (sym is)
    ((did_refuse M) c.args.self.now c.args.line c.in-Failed.node c.step.new.self c.args.input c.in-Ok.given _ c.in-Failed.is c.requires.can c.requires.due did.stepped did.steps did.sound refl))
    c.done_by.ensures

pub step-requires : goal.step-requires
step-requires g c =
    let M = medium g.A.Disk.state g.A.Area.holds g.A.Area.IS_MIRRORED in
    admits_failed M c.args.self.now c.in-Failed.node c.args.input c.in-Failed.is c.requires.can
