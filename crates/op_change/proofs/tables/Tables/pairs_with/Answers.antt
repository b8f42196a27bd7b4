use Rattle.std.proofs.Common.{◌≡◌, map, sym, ap, ◌∙◌, subst}
use Rattle.std.specs.Ordering.{nat_cmp}
use Rattle.std.specs.Cmp.Lexicographic.{slice_cmp, nat_list_cmp_total}
use Rattle.std.specs.Map.Iter.{deref_pair}
use Rattle.std.proofs.lemmas.Map.Lookups.{exact_bytes}
use Rattle.op_change.specs.Over.{pairs_over, Written}
use Rattle.op_overlay.specs.Entries.{entries_over, without}
use Rattle.op_overlay.proofs.Entries.{over-nothing}
use Rattle.op_overlay.proofs.Deletes.{rises-without}
use Rattle.op_change.proofs.Written.{PairsRise, pairs_over_rise}
use Rattle.op_change.proofs.tables.Tables.pairs_with.Goals as goal

pub returns-clause-order : goal.returns-clause-order
returns-clause-order c =
    let inside = c.newer.inside in
    let w : Written = record { pairs = inside.pairs; gone = inside.gone.keys; clients = inside.clients; forgotten = inside.forgotten.keys } in
    subst PairsRise (λ i. pairs_over (c.self.view_is i).pairs (c.newer.view_is i)) (pairs_over_rise c.self.inside.pairs.entries w c.self.invariant.0)

pub returns-clause-pairs : goal.returns-clause-pairs
returns-clause-pairs c =
    let cmp = slice_cmp nat_cmp in
    let pairs = c.self.inside.pairs.entries in
    let newer = c.newer.inside.pairs in
    let gone = c.newer.inside.gone.keys in
    let first : map deref_pair c.insert_all.new.standing.entries ≡ pairs =
    c.in_ok-insert_all.ensures ∙ (λ i. entries_over cmp (map deref_pair (c.new-pairs.ensures.empty i)) pairs) ∙ over-nothing nat_list_cmp_total exact_bytes pairs c.self.invariant.0 in
    c.in_ok-insert_over.ensures
    ∙ (λ i. entries_over cmp ((c.remove_all.ensures ∙ ap (λ es. without cmp es gone) first) i) newer)
    ∙ (λ i. pairs_over (c.self.view_is i).pairs (c.newer.view_is i))

pub insert_over-requires-clause-exact : goal.insert_over-requires-clause-exact
insert_over-requires-clause-exact c = exact_bytes

pub insert_over-requires-clause-order : goal.insert_over-requires-clause-order
insert_over-requires-clause-order c =
    let cmp = slice_cmp nat_cmp in
    let pairs = c.self.inside.pairs.entries in
    let gone = c.newer.inside.gone.keys in
    let first : map deref_pair c.insert_all.new.standing.entries ≡ pairs =
    c.in_ok-insert_all.ensures ∙ (λ i. entries_over cmp (map deref_pair (c.new-pairs.ensures.empty i)) pairs) ∙ over-nothing nat_list_cmp_total exact_bytes pairs c.self.invariant.0 in
    subst PairsRise (sym (c.remove_all.ensures ∙ ap (λ es. without cmp es gone) first)) (rises-without nat_list_cmp_total pairs gone c.self.invariant.0)
