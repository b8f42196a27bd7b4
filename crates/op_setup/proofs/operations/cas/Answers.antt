use Rattle.std.proofs.Common.{string_bytes, IsTrue, sym, ap, ◌∙◌, rules}
use Rattle.op_setup.proofs.Words.{at_error}
use Rattle.op_setup.proofs.CommandWords.{cas_operands, three_words}
use Rattle.op_setup.proofs.operations.cas.Goals as goal

pub returns-clause-found : goal.returns-clause-found
returns-clause-found c =
    rw (three_words string_bytes c.args.words.now _ _ _ _ _ _ c.in-len3.len_at_least c.in-len3.len_below
    (sym (c.bytes-key_word.ensures ∙ ap string_bytes c.key_word-item.is)) (sym (c.bytes-old_word.ensures ∙ ap string_bytes c.old_word-item.is))
    (sym (c.bytes-new_word.ensures ∙ ap string_bytes c.new_word-item.is)))
    c.cas_operation.ensures

pub returns-clause-memory : goal.returns-clause-memory
returns-clause-memory c =
    let key_test : IsTrue c.is_key.result = search rules in
    let old_test : IsTrue c.is_value.result = search rules in
    let new_test : IsTrue c.is_value-else-not-is_value.result = search rules in
    at_error _ _ (cas_operands string_bytes c.args.words.now _ _ _ _ _ _ c.in-len3.len_at_least c.in-len3.len_below
    (c.bytes-key_word.ensures ∙ ap string_bytes c.key_word-item.is) (c.bytes-old_word.ensures ∙ ap string_bytes c.old_word-item.is)
    (c.bytes-new_word.ensures ∙ ap string_bytes c.new_word-item.is)
    (c.is_key.ensures.0 key_test) (c.is_value.ensures.0 old_test) (c.is_value-else-not-is_value.ensures.0 new_test))
