use Rattle.std.proofs.Common.{◌≡◌, map}
use Rattle.std.specs.Map.Iter.{deref_pair}
use Rattle.op_overlay.specs.Entries.{without}
use Rattle.op_change.proofs.standing.remove_all.Given as goal

abbrev pub invariant-keys : goal.invariant-keys
invariant-keys g l = without g.K.Ord.cmp (map deref_pair l.standing.entries) l.key-iterator ≡ without g.K.Ord.cmp (map deref_pair l.initial.standing.entries) l.gone.keys
