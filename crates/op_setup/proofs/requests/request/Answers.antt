use Rattle.std.proofs.Common.{◌≡◌, ◌∷◌, codes, map, string_bytes, rules}
use Rattle.op_setup.specs.Requests.{IsCommand, IsRead}
use Rattle.op_setup.specs.Tasks.{IsRequest}
use Rattle.op_setup.proofs.Words.{at_error}
use Rattle.op_setup.proofs.CommandWords.{command_request, read_request}
use Rattle.op_setup.proofs.requests.request.Goals as goal

pub returns-in_err-command-in_default-as_str-clause-memory : goal.returns-in_err-command-in_default-as_str-clause-memory
returns-in_err-command-in_default-as_str-clause-memory c =
    let split : c.args.words.now ≡ c.in-Some.name.now ∷ c.in-Some.words.now = search rules in
    let command : IsCommand (string_bytes c.in-Some.name.now ∷ map string_bytes c.in-Some.words.now) =
    rw c.as_str.ensures.value at c.in_err-command-in_default-as_str.ensures.memory in
    let request : IsRequest (map string_bytes c.args.words.now) = rw split (command_request _ command) in
    at_error _ _ request

pub returns-in_err-read-in-read-clause-memory : goal.returns-in_err-read-in-read-clause-memory
returns-in_err-read-in-read-clause-memory c =
    let split : c.args.words.now ≡ c.in-Some.name.now ∷ c.in-Some.words.now = search rules in
    let name : string_bytes c.in-Some.name.now ≡ codes "read" = search rules in
    let read : IsRead (map string_bytes c.in-Some.words.now) = c.in_err-read-in-read.ensures.memory in
    let request : IsRequest (map string_bytes c.args.words.now) = rw (split, name) (read_request _ read) in
    at_error _ _ request
