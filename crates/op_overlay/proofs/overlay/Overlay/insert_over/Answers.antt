use Rattle.std.proofs.Common.{map, sym, ap, ◌∙◌}
use Rattle.std.specs.Prelude.{Some}
use Rattle.std.specs.Map.Iter.{deref_pair}
use Rattle.std.specs.BTreeMap.{insert_entry}
use Rattle.op_overlay.specs.Entries.{entries_over}
use Rattle.op_overlay.specs.Overlays.{with_last}
use Rattle.op_overlay.proofs.Shown.{map-insert_entry}
use Rattle.op_overlay.proofs.Overlays.{over-with_last}
use Rattle.op_overlay.proofs.overlay.Overlay.insert_over.Goals as goal

pub returns-in_ok-insert : goal.returns-in_ok-insert
returns-in_ok-insert g c =
    let R = g.K.Ord.cmp in
    let old = map deref_pair c.args.standing.now.entries in
    let es = c.self.inside.earlier.entries in
    let key = c.in-Some.key in
    let value = c.in-Some.value in
    ap (map deref_pair) c.in_ok-insert.ensures.entries
    ∙ map-insert_entry R c.insert_all.new.standing.entries _ _
    ∙ ap (λ fs. insert_entry R fs key value) c.in_ok-insert_all.ensures
    ∙ sym (over-with_last g.met.K.Ord.total c.requires.exact old es (Some (key, value)) c.requires.order c.self.invariant)
    ∙ ap (entries_over R old) (ap (with_last R es) (sym c.in-Some.is) ∙ c.self.view_is)
