use Rattle.std.proofs.Common.{refl, sym, subst}
use Rattle.std.proofs.lemmas.Result.{IfOk-weaker}
use Rattle.op_areas.specs.Media.{medium}
use Rattle.op_runs.specs.World.{Opens}
use Rattle.op_runs.specs.Possible.{kind_if}
use Rattle.op_replay_nodes.specs.Became.{BecomesOf, IsClosedAgain, IsDownAgain}
use Rattle.op_replay_nodes.specs.Disks.{AreOpened}
use Rattle.op_replay_nodes.specs.declared.node_state.DownNode.{DownNode}
use Rattle.op_replay_nodes.specs.declared.node_state.NodeState.TheVariants as states
use Rattle.op_replay_nodes.proofs.Becoming.{opening_done, opening_failed, unopened}
use Rattle.op_replay_nodes.proofs.became.opened_again.Goals as goal

pub returns-in-Ok-open_node : goal.returns-in-Ok-open_node
returns-in-Ok-open_node g c =
    let M = medium g.A.Disk.state g.A.Area.holds g.A.Area.IS_MIRRORED in
    let a = c.args in
    let told = c.in_ok-down in
    let opens = subst (λ x. AreOpened M.state M.holds told.down.first told.down.second x) c.in-Opened.is c.in-Ok.ensures in
    IfOk-weaker c.opened.result _ _
    (λ r goes line. opening_done M (kind_if a.observes) a.members.now a.pid a.down told.down a.plan told.ensures.same c.in-Opened.first c.in-Opened.second opens.0 opens.1 c.requires.range c.in-Ok-open_node.node c.in-Ok-open_node.sends r c.in-Ok-open_node.ensures.opened goes line)
    c.opened.ensures

pub returns-in-Opened : goal.returns-in-Opened
returns-in-Opened g c line =
    let M = medium g.A.Disk.state g.A.Area.holds g.A.Area.IS_MIRRORED in
    let a = c.args in
    let told = c.in_ok-down in
    let e = c.in-Err.returned in
    let r = c.in_ok-fallen-in-Err.fallen in
    let opens = subst (λ x. AreOpened M.state M.holds told.down.first told.down.second x) c.in-Opened.is c.in-Ok.ensures in
    subst (λ b. BecomesOf M (kind_if a.observes) a.pid a.plan (states.Down a.down) Opens line b) (sym c.quietly.ensures)
    (opening_failed M (kind_if a.observes) a.members.now a.pid a.down told.down a.plan told.ensures.same c.in-Opened.first c.in-Opened.second opens.0 opens.1 e r c.in-Err.ensures.refused
    (subst (λ p. IsClosedAgain M p told.down.shown e.first e.second r) told.ensures.plan c.in_ok-fallen-in-Err.ensures) line)

pub returns : goal.returns
returns g c line =
    let M = medium g.A.Disk.state g.A.Area.holds g.A.Area.IS_MIRRORED in
    let a = c.args in
    let told = c.in_ok-down in
    let r = c.in_ok-fallen-in-Failed.fallen in
    let mid : DownNode _ = record { shown = told.down.shown; first = c.in-Failed.first; second = c.in-Failed.second } in
    let closed = subst (λ x. AreOpened M.state M.holds told.down.first told.down.second x) c.in-Failed.is c.in-Ok.ensures in
    subst (λ b. BecomesOf M (kind_if a.observes) a.pid a.plan (states.Down a.down) Opens line b) (sym c.quietly-in-Failed.ensures)
    (unopened M (kind_if a.observes) a.members.now a.pid a.down told.down a.plan told.ensures.same r mid (record { shown_is = refl; first_left = closed.0; second_left = closed.1 })
    (subst (λ p. IsDownAgain M p mid r) told.ensures.plan c.in_ok-fallen-in-Failed.ensures) line)
