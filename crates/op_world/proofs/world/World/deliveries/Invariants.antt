use Rattle.std.proofs.Common.{◌≡◌, ◌++◌, All}
use Rattle.op_lockstep.specs.Lockstep.{deliveries}
use Rattle.op_world.specs.Drills.{IsQuiet, is_delivered}
use Rattle.op_world.proofs.world.World.deliveries.Given as goal

abbrev pub invariant-loop-number : goal.invariant-loop-number
invariant-loop-number g l =
    (l.events ++ deliveries (is_delivered l.delivered) l.number l.self.messages ≡ deliveries (is_delivered l.delivered) l.fn.since l.self.messages)
    × All IsQuiet l.events
