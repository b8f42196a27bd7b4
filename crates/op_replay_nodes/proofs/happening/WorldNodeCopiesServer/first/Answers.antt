use Rattle.std.proofs.Common.{sym, ap, subst}
use Rattle.op_areas.specs.Media.{medium}
use Rattle.op_runs.specs.Possible.{kind_if}
use Rattle.op_executions.proofs.Servers.{pid_as, up_as}
use Rattle.op_node.specs.Nodes.{NodeState}
use Rattle.op_replay_nodes.specs.Disks.{AreOpened}
use Rattle.op_replay_nodes.proofs.Openings.{first_is, first_runs}
use Rattle.op_replay_nodes.proofs.happening.WorldNodeCopiesServer.first.Goals as goal

pub returns-clause-shows : goal.returns-clause-shows
returns-clause-shows g c =
    let M = medium g.A.Disk.state g.A.Area.holds g.A.Area.IS_MIRRORED in
    let one = c.in_ok-first.first in
    let two = c.in_ok-second.second in
    let opens = subst (λ x. AreOpened M.state M.holds one two x) c.in-Opened.is c.in_ok-first-2.ensures in
    let is = first_is M (kind_if c.args.observes) c.args.members.now c.args.pid one two c.in-Opened.first c.in-Opened.second c.in-Ok.node _ c.in_ok-first.ensures c.in_ok-second.ensures opens.0 opens.1 c.in-Ok.ensures.opened in
    record { pid = pid_as (kind_if c.args.observes) c.args.members.now c.args.pid; state = (ap (λ (n : NodeState). n.state) (sym is), up_as (kind_if c.args.observes) c.args.members.now c.args.pid) }

pub returns-clause-kept : goal.returns-clause-kept
returns-clause-kept g c =
    let M = medium g.A.Disk.state g.A.Area.holds g.A.Area.IS_MIRRORED in
    let one = c.in_ok-first.first in
    let two = c.in_ok-second.second in
    let opens = subst (λ x. AreOpened M.state M.holds one two x) c.in-Opened.is c.in_ok-first-2.ensures in
    first_runs M (kind_if c.args.observes) c.args.members.now c.args.pid one two c.in-Opened.first c.in-Opened.second c.in-Ok.node _ c.in_ok-first.ensures c.in_ok-second.ensures opens.0 opens.1 c.in-Ok.ensures.opened
