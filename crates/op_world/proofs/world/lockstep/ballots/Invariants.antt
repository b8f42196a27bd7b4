use Rattle.std.proofs.Common.{◌≡◌, All, take}
use Rattle.op_lockstep.specs.Lockstep.{ballots}
use Rattle.op_world.specs.Drills.{IsQuiet}
use Rattle.op_world.proofs.world.lockstep.ballots.Given as goal

abbrev pub invariant-loop-pid : goal.invariant-loop-pid
invariant-loop-pid l = (l.events ≡ ballots (take l.pid-index l.pid-items)) × All IsQuiet l.events
