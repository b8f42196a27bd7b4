use Rattle.std.proofs.Common.{sym, ap, ◌∙◌, cond}
use Rattle.std.specs.Prelude.{None}
use Rattle.std.specs.Ordering.{nat_cmp}
use Rattle.std.specs.Map.{lookup}
use Rattle.std.specs.BTreeMap.{is_at}
use Rattle.std.specs.Option.{option_or}
use Rattle.op_change.specs.Over.{Written, clients_over}
use Rattle.op_change.proofs.Written.{is_forgotten, last_over}
use Rattle.op_change.proofs.change.KvChange.last_of.Goals as goal

pub returns-in-Some : goal.returns-in-Some
returns-in-Some c =
    let inside = c.self.inside in
    let client = c.args.client in
    let at = is_at (nat_cmp client) in
    let below = c.below.inside.clients.entries in
    let w : Written = record { pairs = inside.pairs; gone = inside.gone.keys; clients = inside.clients; forgotten = inside.forgotten.keys } in
    sym ((λ i. lookup at (clients_over (sym c.below.view_is i).clients (sym c.self.view_is i)))
    ∙ last_over below w client c.below.invariant.1 c.self.invariant.1
    ∙ ap (λ t. option_or t (cond (is_forgotten client w) None (lookup at below))) (sym c.in-Some.ensures))

pub returns-in-None : goal.returns-in-None
returns-in-None c =
    let inside = c.self.inside in
    let client = c.args.client in
    let at = is_at (nat_cmp client) in
    let below = c.below.inside.clients.entries in
    let w : Written = record { pairs = inside.pairs; gone = inside.gone.keys; clients = inside.clients; forgotten = inside.forgotten.keys } in
    sym ((λ i. lookup at (clients_over (sym c.below.view_is i).clients (sym c.self.view_is i)))
    ∙ last_over below w client c.below.invariant.1 c.self.invariant.1
    ∙ (λ i. option_or (sym c.in-None.ensures i) (cond (sym c.if-contains.ensures i) None (lookup at below))))

pub returns-in-None-2 : goal.returns-in-None-2
returns-in-None-2 c =
    let inside = c.self.inside in
    let client = c.args.client in
    let at = is_at (nat_cmp client) in
    let below = c.below.inside.clients.entries in
    let w : Written = record { pairs = inside.pairs; gone = inside.gone.keys; clients = inside.clients; forgotten = inside.forgotten.keys } in
    c.get-in-None-2.ensures.value
    ∙ sym ((λ i. lookup at (clients_over (sym c.below.view_is i).clients (sym c.self.view_is i)))
    ∙ last_over below w client c.below.invariant.1 c.self.invariant.1
    ∙ (λ i. option_or (sym c.in-None-2.ensures i) (cond (sym c.if-contains.ensures i) None (lookup at below))))
