use Rattle.std.proofs.Common.{◌≡◌, ◌+◌, ◌-◌, [], sym, ap, ◌∙◌}
use Rattle.std.specs.Ordering.{nat_cmp}
use Rattle.std.specs.BTreeMap.{insert_entry}
use Rattle.op_types.specs.declared.answers.Applied.{Applied}
use Rattle.op_overlay.specs.Entries.{entries_over}
use Rattle.op_kv.specs.Rising.{rising_read}
use Rattle.op_kv.specs.Bases.{client_above, rising_clients}
use Rattle.op_kv.specs.Looked.{kept_of}
use Rattle.op_kv.proofs.RisingSteps.{made_of, after_count, made_goes_on, made_stops, made_is_done}
use Rattle.op_kv.proofs.RisingEntries.{made_clients}
use Rattle.op_kv.proofs.base.clients_from.Goals as goal

pub clients-init : goal.clients-init
clients-init c =
    (λ i. made_of (entries_over nat_cmp (c.new-clients.ensures.empty i)) (rising_read client_above (λ x. x.0) (c.in-Some.count - 0) 0 c.args.bytes.now c.in-Some.at))
    ∙ ap (made_of (entries_over nat_cmp [])) (after_count client_above (λ x. x.0) 0 c.args.bytes.now c.args.first (c.in-Some.count, c.in-Some.at) (sym c.in-Some.ensures))

pub clients-preserved : goal.clients-preserved
clients-preserved c =
    let more = made_goes_on client_above (λ x. x.0) (entries_over nat_cmp c.clients.clients.entries) c.in-Some.count c.clients.counter c.clients.low c.args.bytes.now c.clients.at (kept_of c.in-Some-client_at.last, c.in-Some-client_at.next) (made_of (entries_over nat_cmp []) (rising_clients.read c.args.bytes.now c.args.first)) c.clients-test.true (sym c.in-Some-client_at.ensures) c.clients.invariant in
    let es = c.clients.clients.entries in
    let last : Applied = record { seq = c.in-Some-client_at.last.seq; answer = c.in_ok-to_answer.field-0 } in
    let put : insert_entry nat_cmp es c.in-Some-client_at.last.client last ≡ insert_entry nat_cmp es c.in-Some-client_at.last.client (kept_of c.in-Some-client_at.last).1 =
    λ i. insert_entry nat_cmp es c.in-Some-client_at.last.client (record { seq = c.in-Some-client_at.last.seq; answer = c.in_ok-to_answer.ensures i }) in
    (λ i. made_of (entries_over nat_cmp ((c.in_ok-insert.ensures.entries ∙ put) i)) (rising_read client_above (λ x. x.0) (c.in-Some.count - (c.clients.counter + 1)) c.in-Some-client_at.last.client c.args.bytes.now c.in-Some-client_at.next)) ∙ more

pub returns-in_default-client_at : goal.returns-in_default-client_at
returns-in_default-client_at c =
    made_stops client_above (λ x. x.0) (entries_over nat_cmp c.clients.clients.entries) c.in-Some.count c.clients.counter c.clients.low c.args.bytes.now c.clients.at (made_of (entries_over nat_cmp []) (rising_clients.read c.args.bytes.now c.args.first)) c.clients-test.true (sym c.in_default-client_at.ensures) c.clients.invariant ∙ made_clients c.args.bytes.now c.args.first

pub returns : goal.returns
returns c = made_is_done client_above (λ x. x.0) (entries_over nat_cmp c.clients.clients.entries) c.in-Some.count c.clients.counter c.clients.low c.args.bytes.now c.clients.at (made_of (entries_over nat_cmp []) (rising_clients.read c.args.bytes.now c.args.first)) c.clients-test.false c.clients.invariant ∙ made_clients c.args.bytes.now c.args.first
