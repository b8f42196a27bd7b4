use Rattle.std.proofs.Common.{◌≡◌, map, sym, ap, ◌∙◌, subst}
use Rattle.std.specs.Ordering.{nat_cmp}
use Rattle.std.specs.Cmp.{nat_cmp_total}
use Rattle.std.specs.Map.Iter.{deref_pair}
use Rattle.std.proofs.lemmas.Map.Lookups.{exact_unsigned}
use Rattle.op_change.specs.Over.{clients_over, Written}
use Rattle.op_overlay.specs.Entries.{entries_over, without}
use Rattle.op_overlay.proofs.Entries.{over-nothing}
use Rattle.op_overlay.proofs.Deletes.{rises-without}
use Rattle.op_change.proofs.Written.{ClientsRise, clients_over_rise}
use Rattle.op_change.proofs.tables.Tables.clients_with.Goals as goal

pub returns-clause-order : goal.returns-clause-order
returns-clause-order c =
    let inside = c.newer.inside in
    let w : Written = record { pairs = inside.pairs; gone = inside.gone.keys; clients = inside.clients; forgotten = inside.forgotten.keys } in
    subst ClientsRise (λ i. clients_over (c.self.view_is i).clients (c.newer.view_is i)) (clients_over_rise c.self.inside.clients.entries w c.self.invariant.1)

pub returns-clause-clients : goal.returns-clause-clients
returns-clause-clients c =
    let clients = c.self.inside.clients.entries in
    let newer = c.newer.inside.clients in
    let forgotten = c.newer.inside.forgotten.keys in
    let first : map deref_pair c.insert_all.new.standing.entries ≡ clients =
    c.in_ok-insert_all.ensures ∙ (λ i. entries_over nat_cmp (map deref_pair (c.new-clients.ensures.empty i)) clients) ∙ over-nothing nat_cmp_total exact_unsigned clients c.self.invariant.1 in
    c.in_ok-insert_over.ensures
    ∙ (λ i. entries_over nat_cmp ((c.remove_all.ensures ∙ ap (λ es. without nat_cmp es forgotten) first) i) newer)
    ∙ (λ i. clients_over (c.self.view_is i).clients (c.newer.view_is i))

pub insert_over-requires-clause-exact : goal.insert_over-requires-clause-exact
insert_over-requires-clause-exact c = exact_unsigned

pub insert_over-requires-clause-order : goal.insert_over-requires-clause-order
insert_over-requires-clause-order c =
    let clients = c.self.inside.clients.entries in
    let forgotten = c.newer.inside.forgotten.keys in
    let first : map deref_pair c.insert_all.new.standing.entries ≡ clients =
    c.in_ok-insert_all.ensures ∙ (λ i. entries_over nat_cmp (map deref_pair (c.new-clients.ensures.empty i)) clients) ∙ over-nothing nat_cmp_total exact_unsigned clients c.self.invariant.1 in
    subst ClientsRise (sym (c.remove_all.ensures ∙ ap (λ es. without nat_cmp es forgotten) first)) (rises-without nat_cmp_total clients forgotten c.self.invariant.1)
