use Rattle.std.proofs.Common.{map, string_bytes}
use Rattle.op_setup.specs.Requests.{AreMembers}
use Rattle.op_setup.proofs.Words.{at_error}
use Rattle.op_setup.proofs.CommandWords.{stop_request}
use Rattle.op_setup.proofs.requests.stop.Goals as goal

pub returns-in_err-members-clause-memory : goal.returns-in_err-members-clause-memory
returns-in_err-members-clause-memory c = at_error _ _ (stop_request (map string_bytes c.args.words.now) c.in_err-members.ensures.memory)

pub returns-in_err-new-in-Some-clause-memory : goal.returns-in_err-new-in-Some-clause-memory
returns-in_err-new-in-Some-clause-memory c =
    let members : AreMembers (map string_bytes c.args.words.now) = (c.in-Some.members, rw c.in-Some.is at c.in_ok-members.ensures.found) in
    at_error _ _ (stop_request (map string_bytes c.args.words.now) members)
