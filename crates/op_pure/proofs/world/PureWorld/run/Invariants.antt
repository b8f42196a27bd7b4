use Rattle.std.proofs.Common.{◌≡◌, ◌^◌, ◌<◌, length}
use Rattle.std.specs.Vec.Iter.{into_iter_items}
use Rattle.op_runs.specs.Possible.{named_ids}
use Rattle.op_runs.specs.World as runs
use Rattle.op_executions.specs.Worlds.{Shows, IsRun, named_of}
use Rattle.op_pure.specs.Nodes.{pure_nodes}
use Rattle.op_pure.proofs.Runs.{Continues}
use Rattle.op_pure.proofs.world.PureWorld.run.Given as goal

abbrev pub invariant-loop-happening : goal.invariant-loop-happening
invariant-loop-happening l =
    (x : runs.World) × Shows pure_nodes l.world x × Continues l.fn.members l.fn.spares l.fn.observers x (into_iter_items l.happening-iterator) l.fn.happenings l.index l.world.proposed
    × (named_of l.world ≡ named_ids l.fn.members l.fn.spares l.fn.observers) × (length l.fn.happenings < 2 ^ 63) × IsRun pure_nodes l.world
