use Rattle.std.proofs.Common.{◌≡◌, ◌∷◌, codes, map, string_bytes, rules}
use Rattle.op_setup.specs.Addresses.{IsAddr}
use Rattle.op_setup.specs.Tasks.{IsRequest, IsTask}
use Rattle.op_setup.proofs.Words.{at_error}
use Rattle.op_setup.proofs.TaskWords.{call_is_task}
use Rattle.op_setup.proofs.reading.call.Goals as goal

pub returns-in_err-request-clause-memory : goal.returns-in_err-request-clause-memory
returns-in_err-request-clause-memory c =
    let split : c.args.words.now ≡ c.in-Some.addr_word.now ∷ c.in-Some.words.now = search rules in
    let addr : IsAddr (string_bytes c.in-Some.addr_word.now) c.in-Some-addr.addr = search rules in
    let request : IsRequest (map string_bytes c.in-Some.words.now) = c.in_err-request.ensures.memory in
    let task : IsTask (codes "call" ∷ map string_bytes c.args.words.now) = rw split (call_is_task _ _ c.in-Some-addr.addr addr request) in
    at_error _ _ task
