use Rattle.std.proofs.Common.{◌≡◌, ◌==◌, ◌||◌, ◌≤◌, is_some, take}
use Rattle.op_quorum.specs.Quorums.{passing}
use Rattle.op_types.specs.RoleStates.{promise_of}
use Rattle.op_choosing.specs.Choosing.{offered}
use Rattle.op_choosing.proofs.choosing.Offers.have_quorum.Given as goal

abbrev pub invariant-loop-pid : goal.invariant-loop-pid
invariant-loop-pid l = (l.votes ≡ passing (λ q. q == l.member.me || is_some (promise_of (offered l.self) q)) (take l.pid-index l.members)) × (l.votes ≤ l.pid-index)
