use Rattle.std.proofs.Common.{◌≡◌, ◌≤◌}
use Rattle.op_gen.specs.Draws.{drill_members, drill_ids}
use Rattle.op_runs.specs.Run.{Execution}
use Rattle.op_runs.specs.Schedules.{DiskPlans}
use Rattle.op_world.specs.Plans.{ArePlanned}
use Rattle.op_world.specs.Worlds.{Shows}
use Rattle.op_world.proofs.Drawn.{IsDrawn}
use Rattle.op_world.proofs.world.World.drill_over.Given as goal
use Rattle.op_areas.specs.Media.{medium}

abbrev pub invariant-loop-done : goal.invariant-loop-done
invariant-loop-done g l =
    let M = medium g.A.Disk.state g.A.Area.holds g.A.Area.IS_MIRRORED in
    (t : Execution) × Shows M l.world t
    × ((plans : DiskPlans) × ArePlanned l.world.nodes plans × IsDrawn l.fn.seed l._done l.events t plans l.world.proposed)
    × (l.world.members ≡ drill_members) × (l.world.ids ≡ drill_ids) × (l._done ≤ l.fn.count)
