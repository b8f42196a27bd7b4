use Rattle.std.proofs.Common.{string_bytes, ap, sym, ◌∙◌}
use Rattle.op_setup.proofs.Words.{at_error}
use Rattle.op_setup.proofs.CommandWords.{whole_read}
use Rattle.op_setup.proofs.requests.read.Goals as goal

pub returns-in_err-key-clause-memory : goal.returns-in_err-key-clause-memory
returns-in_err-key-clause-memory c =
    let client = c.in-Some.ensures in
    let seq = c.in-Some-client_number.ensures in
    at_error _ _ (whole_read string_bytes c.args.words.now _ _ _ _ c.in-len2-up.len_at_least client.0 seq.0
    (ap string_bytes (sym c.client-item.is) ∙ sym c.bytes.ensures ∙ client.1) (ap string_bytes (sym c.seq-item.is) ∙ sym c.bytes-2.ensures ∙ seq.1)
    c.in_err-key.ensures.memory)
