use Rattle.std.proofs.Common.{sym, subst}
use Rattle.std.proofs.lemmas.Result.{IfOk-weaker}
use Rattle.op_areas.specs.Media.{medium}
use Rattle.op_runs.specs.World.{Opens}
use Rattle.op_replay_nodes.specs.Became.{BecomesOf, IsFallen}
use Rattle.op_replay_nodes.specs.declared.node_state.NodeState.TheVariants as states
use Rattle.op_replay_nodes.proofs.Becoming.{reopen_done, reopen_failed}
use Rattle.op_replay_nodes.proofs.became.reopened.Goals as goal

pub returns-in-Ok : goal.returns-in-Ok
returns-in-Ok g c =
    let M = medium g.A.Disk.state g.A.Area.holds g.A.Area.IS_MIRRORED in
    let a = c.args in
    IfOk-weaker c.opened.result _ _
    (λ r goes kind has range line. reopen_done M kind a.pid a.node c.in_ok-node.node c.reopen.new.self a.plan has c.in_ok-node.ensures.same c.in-Ok.ensures.sound range c.in-Ok.sends r c.in-Ok.ensures.found goes line)
    c.opened.ensures

pub returns-in-Err-DiskFault : goal.returns-in-Err-DiskFault
returns-in-Err-DiskFault g c kind has range line =
    let M = medium g.A.Disk.state g.A.Area.holds g.A.Area.IS_MIRRORED in
    let a = c.args in
    let failed = c.in-Err-DiskFault in
    let fallen = c.in_ok-fallen-in-Err-DiskFault.fallen in
    subst (λ r. BecomesOf M kind a.pid a.plan (states.Failed a.node) Opens line r) (sym c.quietly.ensures)
    (reopen_failed M kind a.pid a.node c.in_ok-node.node c.reopen.new.self a.plan has c.in_ok-node.ensures.same failed.ensures.sound failed.field-0-0 fallen.state fallen.is_due
    (rw failed.field-0-is at failed.ensures.refused) (rw failed.field-0-is at failed.ensures.found)
    (subst (λ p. IsFallen M p c.reopen.new.self fallen.state fallen.is_due) c.in_ok-node.ensures.plan c.in_ok-fallen-in-Err-DiskFault.ensures) line)
