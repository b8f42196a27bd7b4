use Rattle.std.proofs.Common.{map, sym, ap, ◌∙◌}
use Rattle.std.specs.Map.Iter.{deref_pair}
use Rattle.op_overlay.specs.Entries.{entries_over}
use Rattle.op_overlay.proofs.Shown.{map-insert_entry}
use Rattle.op_overlay.proofs.overlay.insert_all.Goals as goal

pub entries-preserved : goal.entries-preserved
entries-preserved g c =
    let cmp = g.K.Ord.cmp in
    let es = c.entries.standing.entries in
    (λ i. entries_over cmp ((ap (map deref_pair) c.in_ok-insert.ensures.entries ∙ map-insert_entry cmp es c.in-Some.key c.in-Some.value) i) c.next.new.self)
    ∙ (λ i. entries_over cmp (map deref_pair es) (sym c.in-Some.ensures.steps i))
    ∙ c.entries.invariant
