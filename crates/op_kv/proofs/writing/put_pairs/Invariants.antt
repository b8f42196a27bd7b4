use Rattle.std.proofs.Common.{◌≡◌, ◌++◌, map}
use Rattle.std.specs.List.{flat_map}
use Rattle.std.specs.Map.Iter.{deref_pair}
use Rattle.op_spec.specs.Service.{pair_bytes}
use Rattle.op_kv.proofs.writing.put_pairs.Given as goal

abbrev pub invariant-pairs : goal.invariant-pairs
invariant-pairs l = l.out.items ++ flat_map pair_bytes (map deref_pair l.key-iterator) ≡ l.initial.out.items ++ flat_map pair_bytes (map deref_pair l.pairs.entries)
