use Rattle.std.proofs.Common.{◌≡◌, ◌++◌, map}
use Rattle.std.specs.Map.Iter.{deref_pair}
use Rattle.op_kv.proofs.map.copy_pairs.Given as goal

abbrev pub invariant-pairs : goal.invariant-pairs
invariant-pairs l = l.copy ++ map deref_pair l.key-iterator ≡ map deref_pair l.pairs.entries
