use Rattle.std.proofs.Common.{◌≡◌, map}
use Rattle.std.specs.Map.Iter.{deref_pair}
use Rattle.op_overlay.specs.Entries.{entries_over}
use Rattle.op_overlay.proofs.overlay.insert_all.Given as goal

abbrev pub invariant-entries : goal.invariant-entries
invariant-entries g l = entries_over g.K.Ord.cmp (map deref_pair l.standing.entries) l.key-iterator ≡ entries_over g.K.Ord.cmp (map deref_pair l.initial.standing.entries) l.entries.entries
