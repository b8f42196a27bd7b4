use Rattle.std.proofs.Common.{◌≡◌, ◌++◌, length, map, sym, ◌∙◌, append-nil}
use Rattle.std.specs.Int.{w64}
use Rattle.std.specs.List.{flat_map}
use Rattle.std.specs.Map.Iter.{deref_pair}
use Rattle.std.proofs.lemmas.List.{length-map}
use Rattle.op_fields.specs.Form.{encoded}
use Rattle.op_spec.specs.Service.{pair_bytes}
use Rattle.op_kv.proofs.writing.put_pairs.Goals as goal

pub returns : goal.returns
unfolding encoded
returns c =
    let shown = map deref_pair c.args.pairs.now.entries in
    let text = flat_map pair_bytes shown in
    let count : c.len.result ≡ length shown = c.len.ensures.len ∙ sym (length-map c.args.pairs.now.entries deref_pair) in
    sym (append-nil c.pairs.out.items)
    ∙ (λ i. c.pairs.out.items ++ flat_map pair_bytes (map deref_pair (sym c.in-None.ensures.steps.0 i)))
    ∙ c.pairs.invariant
    ∙ (λ i. c.in_ok-put_u64.ensures.ok i ++ text)
    ∙ (λ i. (c.args.out.now.items ++ encoded w64 (count i)) ++ text)
