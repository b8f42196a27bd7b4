-- What an event does, as the code has it and as the world has it.
use Rattle.op_runs.specs.World.{Told, ThePairs, TheBallots, Doing, Steps, Stops, Opens, Tells, Deed}
use Rattle.op_executions.specs.declared.deed.Deed as deed
use Rattle.op_executions.specs.declared.deed.Doing as doing
use Rattle.op_executions.specs.declared.deed.Doing.TheVariants as variant
use Rattle.op_executions.specs.declared.deed.Told as told
use Rattle.op_executions.specs.declared.deed.Told.TheVariants as tells

-- what is told
abbrev pub told_of : told.Told → Told
told_of tells.Pairs = ThePairs
told_of tells.Ballots = TheBallots

-- what is done
abbrev pub doing_of : doing.Doing → Doing
doing_of (variant.Steps x) = Steps x
doing_of variant.Stops = Stops
doing_of variant.Opens = Opens
doing_of (variant.Tells t) = Tells (told_of t)

-- the same, with its node
abbrev pub deed_shown : deed.Deed → Deed
deed_shown d = record { pid = d.pid; doing = doing_of d.doing }
