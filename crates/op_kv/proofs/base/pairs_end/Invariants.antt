use Rattle.std.proofs.Common.{◌≡◌, ◌-◌}
use Rattle.op_kv.specs.Rising.{rising_read}
use Rattle.op_kv.specs.Bases.{pair_above, rising_pairs}
use Rattle.op_kv.specs.Looked.{end_of}
use Rattle.op_kv.proofs.base.pairs_end.Given as goal

abbrev pub invariant-pairs : goal.invariant-pairs
invariant-pairs l = end_of (rising_read pair_above (λ p. p.0) (l.count - l.counter) l.low l.bytes l.at) ≡ end_of (rising_pairs.read l.bytes l.first)
