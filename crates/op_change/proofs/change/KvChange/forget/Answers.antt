use Rattle.std.proofs.Common.{◌≡◌, true, cond, sym, ◌∙◌, ℕ}
use Rattle.std.specs.Ordering.{nat_cmp, is_eq}
use Rattle.std.specs.Map.{remove_entry}
use Rattle.std.specs.BTreeMap.{is_at}
use Rattle.op_change.specs.Over.{Written, clients_over}
use Rattle.op_overlay.proofs.Deletes.{among}
use Rattle.op_change.proofs.Written.{is_forgotten, forgotten_over}
use Rattle.op_change.proofs.change.KvChange.forget.Goals as goal

pub returns-clause-clients : goal.returns-clause-clients
returns-clause-clients c =
    let inside = c.self.inside in
    let client = c.args.client in
    let below = c.below.inside.clients.entries in
    let w : Written = record { pairs = inside.pairs; gone = inside.gone.keys; clients = inside.clients; forgotten = inside.forgotten.keys } in
    let forgotten : (q : ℕ) → among nat_cmp c.insert.new.self.keys q ≡ cond (is_eq (nat_cmp client q)) true (is_forgotten q w) = λ q. c.in_ok-insert.ensures.updates.0 q in
    (λ i. clients_over (sym c.below.view_is i).clients (record w { clients = c.in_ok-remove.ensures.entries i; forgotten = c.insert.new.self.keys }))
    ∙ forgotten_over below w c.insert.new.self.keys client c.below.invariant.1 c.self.invariant.1 forgotten
    ∙ (λ i. remove_entry (is_at (nat_cmp client)) (clients_over (c.below.view_is i).clients (c.self.view_is i)))
