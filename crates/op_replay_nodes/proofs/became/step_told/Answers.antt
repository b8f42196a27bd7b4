use Rattle.std.proofs.Common.{sym, subst}
use Rattle.std.proofs.lemmas.Result.{IfOk-weaker}
use Rattle.op_areas.specs.Media.{medium}
use Rattle.op_runs.specs.World.{Steps}
use Rattle.op_replay_nodes.specs.Became.{BecomesOf, IsFallen}
use Rattle.op_replay_nodes.specs.declared.node_state.NodeState.TheVariants as states
use Rattle.op_replay_nodes.proofs.Becoming.{step_done, step_failed}
use Rattle.op_replay_nodes.proofs.became.step_told.Goals as goal

pub returns-in-Ok-step : goal.returns-in-Ok-step
returns-in-Ok-step g c =
    let M = medium g.A.Disk.state g.A.Area.holds g.A.Area.IS_MIRRORED in
    let a = c.args in
    let did = c.in-Ok-step.ensures in
    IfOk-weaker c.stepped.result _ _
    (λ r goes kind runs. step_done M kind a.pid a.line a.node c.in-Ok.node c.step.new.self a.input a.plan runs c.in-Ok.ensures.same c.in-Ok-step.given r did.stepped did.steps did.sound goes)
    c.stepped.ensures

pub returns-in-Err-DiskFail : goal.returns-in-Err-DiskFail
returns-in-Err-DiskFail g c kind runs =
    let M = medium g.A.Disk.state g.A.Area.holds g.A.Area.IS_MIRRORED in
    let a = c.args in
    let failed = c.in-Err-DiskFail in
    let fallen = c.in_ok-fallen-in-Err-DiskFail.fallen in
    let lines = c.in-Ok-fault_lines in
    subst (λ r. BecomesOf M kind a.pid a.plan (states.Up a.node) (Steps a.input) a.line r) (sym c.telling.ensures)
    (step_failed M kind a.pid a.line a.node c.in-Ok.node c.step.new.self a.input a.plan runs c.in-Ok.ensures.same failed.count (rw failed.field-0-is at failed.ensures.stepped) failed.ensures.sound (rw failed.field-0-is at failed.ensures.steps)
    fallen.state fallen.is_due lines.lines c.is_proposal-is_proposal.result
    (subst (λ p. IsFallen M p c.step.new.self fallen.state fallen.is_due) c.in-Ok.ensures.plan c.in_ok-fallen-in-Err-DiskFail.ensures) (c.is_proposal-is_proposal.ensures failed.count) (rw failed.field-0-is at lines.ensures))
