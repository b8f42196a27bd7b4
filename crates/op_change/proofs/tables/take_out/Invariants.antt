use Rattle.std.proofs.Common.{◌≡◌, length}
use Rattle.op_overlay.specs.Entries.{without}
use Rattle.op_change.proofs.tables.take_out.Given as goal

abbrev pub invariant-keys : goal.invariant-keys
invariant-keys g l = without g.K.Ord.cmp l.below.entries l.gone.keys ≡ without g.K.Ord.cmp l.initial.below.entries l.initial.gone.keys

abbrev pub decreases-keys : goal.decreases-keys
decreases-keys g l = length l.gone.keys
