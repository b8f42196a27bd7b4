use Rattle.std.proofs.Common.{string_bytes, ap, sym, ◌∙◌}
use Rattle.op_setup.proofs.Words.{at_error}
use Rattle.op_setup.proofs.CommandWords.{no_short_command, whole_command}
use Rattle.op_setup.proofs.requests.command.Goals as goal

pub returns-in_default-clause-found : goal.returns-in_default-clause-found
returns-in_default-clause-found c = no_short_command string_bytes c.args.name.now c.args.words.now c.in_default.len_below

pub returns-in_err-op-clause-memory : goal.returns-in_err-op-clause-memory
returns-in_err-op-clause-memory c =
    let client = c.in-Some.ensures in
    let seq = c.in-Some-client_number.ensures in
    at_error _ _ (whole_command string_bytes c.args.name.now c.args.words.now _ _ _ _ c.in-len2-up.len_at_least client.0 seq.0
    (ap string_bytes (sym c.client-item.is) ∙ sym c.bytes.ensures ∙ client.1) (ap string_bytes (sym c.seq-item.is) ∙ sym c.bytes-2.ensures ∙ seq.1)
    c.in_err-op.ensures.memory)
