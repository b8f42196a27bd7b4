use Rattle.std.proofs.Common.{◌≡◌, ◌++◌, length, map, sym, ◌∙◌, append-nil, append_assoc}
use Rattle.std.specs.Int.{w64}
use Rattle.std.specs.List.{flat_map}
use Rattle.std.specs.Map.Iter.{deref_pair}
use Rattle.std.proofs.lemmas.List.{length-map}
use Rattle.op_fields.specs.Form.{encoded}
use Rattle.op_spec.specs.Service.{client_bytes}
use Rattle.op_kv.proofs.writing.put_clients.Goals as goal

pub returns : goal.returns
unfolding encoded
returns c =
    let shown = map deref_pair c.args.clients.now.entries in
    let text = flat_map client_bytes shown in
    let count : c.len.result ≡ length shown = c.len.ensures.len ∙ sym (length-map c.args.clients.now.entries deref_pair) in
    sym (append-nil c.clients.out.items)
    ∙ (λ i. c.clients.out.items ++ flat_map client_bytes (map deref_pair (sym c.in-None.ensures.steps.0 i)))
    ∙ c.clients.invariant
    ∙ (λ i. c.in_ok-put_u64.ensures.ok i ++ text)
    ∙ (λ i. (c.args.out.now.items ++ encoded w64 (count i)) ++ text)

pub clients-preserved : goal.clients-preserved
clients-preserved c =
    let old = c.clients.out.items in
    let rest = map deref_pair c.next.new.self in
    (λ i. c.in_ok-put_client.ensures i ++ flat_map client_bytes rest)
    ∙ append_assoc old (client_bytes (c.in-Some.client.now.now, c.in-Some.last.now.now)) (flat_map client_bytes rest)
    ∙ (λ i. old ++ flat_map client_bytes (map deref_pair (sym c.in-Some.ensures.steps i)))
    ∙ c.clients.invariant
