use Rattle.std.proofs.Common.{string_bytes, IsTrue, sym, ap, ◌∙◌, rules}
use Rattle.op_setup.proofs.Words.{at_error}
use Rattle.op_setup.proofs.CommandWords.{put_operands, two_words}
use Rattle.op_setup.proofs.operations.put.Goals as goal

pub returns-clause-found : goal.returns-clause-found
returns-clause-found c =
    rw (two_words string_bytes c.args.words.now _ _ _ _ c.in-len2.len_at_least c.in-len2.len_below
    (sym (c.bytes-key_word.ensures ∙ ap string_bytes c.key_word-item.is)) (sym (c.bytes-value_word.ensures ∙ ap string_bytes c.value_word-item.is)))
    c.put_operation.ensures

pub returns-clause-memory : goal.returns-clause-memory
returns-clause-memory c =
    let key_test : IsTrue c.is_key.result = search rules in
    let value_test : IsTrue c.is_value.result = search rules in
    at_error _ _ (put_operands string_bytes c.args.words.now _ _ _ _ c.in-len2.len_at_least c.in-len2.len_below
    (c.bytes-key_word.ensures ∙ ap string_bytes c.key_word-item.is) (c.bytes-value_word.ensures ∙ ap string_bytes c.value_word-item.is)
    (c.is_key.ensures.0 key_test) (c.is_value.ensures.0 value_test))
