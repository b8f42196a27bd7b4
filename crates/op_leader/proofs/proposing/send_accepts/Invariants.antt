use Rattle.std.proofs.Common.{◌≡◌, ◌++◌, take}
use Rattle.op_types.specs.declared.messages.Body.TheVariants.{Accept}
use Rattle.op_protocol.specs.Parts.{to_each}
use Rattle.op_leader.proofs.proposing.send_accepts.Given as goal

abbrev pub invariant-loop-pid : goal.invariant-loop-pid
invariant-loop-pid l = l.sends ≡ l.initial.sends ++ to_each l.member.part.now.conf (take l.pid-index l.pids) (Accept l.ballot l.len l.entries)
