use Rattle.std.proofs.Common.{◌≡◌, ◌++◌}
use Rattle.std.specs.Vec.Iter.{into_iter_items}
use Rattle.op_runs.specs.World.{pair_lines}
use Rattle.op_executions.proofs.telling.push_pairs.Given as goal

abbrev pub invariant-pairs : goal.invariant-pairs
invariant-pairs l = l.lines ++ pair_lines l.pid (into_iter_items l.key-iterator) ≡ l.initial.lines ++ pair_lines l.pid l.fn.pairs
