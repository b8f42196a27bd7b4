use Rattle.std.proofs.Common.{◌≡◌, ◌-◌, []}
use Rattle.std.specs.Ordering.{nat_cmp}
use Rattle.std.specs.Cmp.Lexicographic.{slice_cmp}
use Rattle.op_overlay.specs.Entries.{entries_over}
use Rattle.op_kv.specs.Rising.{rising_read}
use Rattle.op_kv.specs.Bases.{pair_above, rising_pairs}
use Rattle.op_kv.proofs.RisingSteps.{made_of}
use Rattle.op_kv.proofs.base.pairs_from.Given as goal

abbrev pub invariant-pairs : goal.invariant-pairs
invariant-pairs l =
    made_of (entries_over (slice_cmp nat_cmp) l.pairs.entries) (rising_read pair_above (λ p. p.0) (l.count - l.counter) l.low l.bytes l.at)
    ≡ made_of (entries_over (slice_cmp nat_cmp) []) (rising_pairs.read l.bytes l.first)
