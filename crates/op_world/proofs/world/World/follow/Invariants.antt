use Rattle.std.proofs.Common.{◌≡◌, All}
use Rattle.std.specs.Vec.Iter.{into_iter_items}
use Rattle.op_runs.specs.Run.{Execution}
use Rattle.op_world.specs.Drills.{IsCalm, IsQuiet}
use Rattle.op_world.specs.Worlds.{Shows}
use Rattle.op_world.proofs.LockstepEvents.{Follows}
use Rattle.op_world.proofs.world.World.follow.Given as goal
use Rattle.op_areas.specs.Media.{medium}

abbrev pub invariant-loop-event : goal.invariant-loop-event
invariant-loop-event g l =
    let M = medium g.A.Disk.state g.A.Area.holds g.A.Area.IS_MIRRORED in
    ((t : Execution) → Shows M l.fn.self t → (u : Execution) × (Shows M) l.world u × Follows l.fn.self.ids t u (into_iter_items l.event-iterator) l.fn.events)
    × (l.world.members ≡ l.fn.self.members) × (l.world.ids ≡ l.fn.self.ids) × All IsQuiet (into_iter_items l.event-iterator) × IsCalm l.world
