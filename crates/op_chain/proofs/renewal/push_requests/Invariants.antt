use Rattle.std.proofs.Common.{◌≡◌, ◌++◌, take}
use Rattle.op_types.specs.declared.messages.Body.TheVariants.{PrepareReq}
use Rattle.op_protocol.specs.Parts.{others, to_each}
use Rattle.op_chain.proofs.renewal.push_requests.Given as goal

abbrev pub invariant-loop-pid : goal.invariant-loop-pid
invariant-loop-pid l = l.sends ≡ l.initial.sends ++ to_each l.joining.conf (others l.me (take l.pid-index l.joining.members)) PrepareReq
