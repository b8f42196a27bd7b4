use Rattle.std.proofs.Common.{◌≡◌}
use Rattle.op_runs.specs.Run.{Execution}
use Rattle.op_world.specs.Drills.{IsCalm}
use Rattle.op_world.specs.Worlds.{Shows}
use Rattle.op_world.proofs.Lockstep.{AreDone}
use Rattle.op_world.proofs.world.World.rounds.Given as goal
use Rattle.op_areas.specs.Media.{medium}

abbrev pub invariant-loop-number : goal.invariant-loop-number
invariant-loop-number g l =
    let M = medium g.A.Disk.state g.A.Area.holds g.A.Area.IS_MIRRORED in
    ((t : Execution) → Shows M l.fn.self t → AreDone M l.fn.self.members l.fn.links.pairs.now l._number t l.world) × (l.world.members ≡ l.fn.self.members) × IsCalm l.world
