use Rattle.std.proofs.Common.{List, ℕ, sym, subst}
use Rattle.op_types.specs.declared.messages.Msg.{Msg}
use Rattle.op_runs.specs.World.{Tells}
use Rattle.op_executions.specs.Deeds.{told_of}
use Rattle.op_executions.specs.Servers.{IsDoneAt}
use Rattle.op_replay_nodes.specs.Nodes.{area_nodes}
use Rattle.op_replay_nodes.proofs.Doings.{did_tell}
use Rattle.op_replay_nodes.proofs.happening.WorldNode+A+A+Copies.tell.Goals as goal
use Rattle.op_areas.specs.Media.{medium}

pub returns : goal.returns
returns g c line =
    let M = medium g.A.Disk.state g.A.Area.holds g.A.Area.IS_MIRRORED in
    let old = c.args.self.now in
    subst (λ (ss : List (ℕ × Msg)). IsDoneAt (area_nodes M) tt old (Tells (told_of c.args.told)) line old ss c.in_ok-told.told) (sym c.new.ensures)
    (did_tell M old line (told_of c.args.told) c.in_ok-told.told c.requires.kept c.requires.due c.in_ok-told.ensures)
