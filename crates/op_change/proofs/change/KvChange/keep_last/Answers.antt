use Rattle.std.proofs.Common.{sym, ◌∙◌}
use Rattle.std.specs.Ordering.{nat_cmp}
use Rattle.std.specs.BTreeMap.{insert_entry}
use Rattle.op_change.specs.Over.{Written, clients_over}
use Rattle.op_change.proofs.Written.{last_kept_over}
use Rattle.op_change.proofs.change.KvChange.keep_last.Goals as goal

pub returns-clause-clients : goal.returns-clause-clients
returns-clause-clients c =
    let inside = c.self.inside in
    let below = c.below.inside.clients.entries in
    let w : Written = record { pairs = inside.pairs; gone = inside.gone.keys; clients = inside.clients; forgotten = inside.forgotten.keys } in
    (λ i. clients_over (sym c.below.view_is i).clients (record w { clients = c.in_ok-insert.ensures.entries i }))
    ∙ last_kept_over below w c.args.client c.args.last c.below.invariant.1 c.self.invariant.1
    ∙ (λ i. insert_entry nat_cmp (clients_over (c.below.view_is i).clients (c.self.view_is i)) c.args.client c.args.last)
