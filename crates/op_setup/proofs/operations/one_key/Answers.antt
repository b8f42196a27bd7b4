use Rattle.std.proofs.Common.{string_bytes, IsTrue, ap, ◌∙◌, rules}
use Rattle.op_setup.proofs.Words.{at_error}
use Rattle.op_setup.proofs.CommandWords.{key_only}
use Rattle.op_setup.proofs.operations.one_key.Goals as goal

pub returns-clause-memory : goal.returns-clause-memory
returns-clause-memory c =
    let test : IsTrue c.is_key.result = search rules in
    at_error _ _ (key_only string_bytes c.args.words.now _ _ c.in-len1.len_at_least c.in-len1.len_below
    (c.bytes-word.ensures ∙ ap string_bytes c.word-item.is) (c.is_key.ensures.0 test))
