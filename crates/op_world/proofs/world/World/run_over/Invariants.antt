use Rattle.std.proofs.Common.{◌≡◌, ◌^◌, ◌<◌, length}
use Rattle.op_runs.specs.Run.{Execution}
use Rattle.op_runs.specs.Possible.{named_ids}
use Rattle.op_runs.specs.Schedules.{DiskPlans}
use Rattle.op_world.specs.Events.{parts_of}
use Rattle.op_world.specs.Plans.{ArePlanned}
use Rattle.op_world.specs.Worlds.{Shows, IsWorld}
use Rattle.op_world.proofs.Runs.{Continues}
use Rattle.op_world.proofs.world.World.run_over.Given as goal
use Rattle.op_areas.specs.Media.{medium}

abbrev pub invariant-events : goal.invariant-events
invariant-events g l =
    let M = medium g.A.Disk.state g.A.Area.holds g.A.Area.IS_MIRRORED in
    let w = parts_of l.world l.ledger in
    (t : Execution) × Shows M w t
    × ((plans : DiskPlans) × ArePlanned w.nodes plans × Continues l.fn.members l.fn.spares l.fn.observers M.is_mirrored t plans l.coming l.fn.events l.index w.proposed)
    × (w.members ≡ l.fn.members) × (w.ids ≡ named_ids l.fn.members l.fn.spares l.fn.observers) × (length l.fn.events < 2 ^ 63) × IsWorld M w

abbrev pub decreases-events : goal.decreases-events
decreases-events g l = length l.coming
