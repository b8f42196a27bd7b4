use Rattle.std.proofs.Common.{map, sym, ap, ◌∙◌}
use Rattle.std.specs.BTreeMap.{is_at}
use Rattle.std.specs.Map.Iter.{deref_pair}
use Rattle.op_overlay.specs.Entries.{without}
use Rattle.op_overlay.proofs.Shown.{map-remove_entry}
use Rattle.op_change.proofs.standing.remove_all.Goals as goal

pub keys-preserved : goal.keys-preserved
keys-preserved g c =
    let cmp = g.K.Ord.cmp in
    let es = c.keys.standing.entries in
    (λ i. without cmp ((ap (map deref_pair) c.remove.ensures.entries ∙ map-remove_entry (is_at (cmp c.in-Some.key.now)) es) i) c.next.new.self)
    ∙ (λ i. without cmp (map deref_pair es) (sym c.in-Some.ensures.steps i))
    ∙ c.keys.invariant
