use Rattle.std.proofs.Common.{◌≡◌, ◌++◌, take}
use Rattle.op_protocol.specs.Parts.{to_each}
use Rattle.op_plans.proofs.member.Member.send_each.Given as goal

abbrev pub invariant-loop-pid : goal.invariant-loop-pid
invariant-loop-pid l = l.sends ≡ l.initial.sends ++ to_each l.self.part.now.conf (take l.pid-index l.pids) l.body
