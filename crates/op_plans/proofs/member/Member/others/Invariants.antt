use Rattle.std.proofs.Common.{◌≡◌, ◌==◌, not, take, filter}
use Rattle.op_plans.proofs.member.Member.others.Given as goal

abbrev pub invariant-loop-pid : goal.invariant-loop-pid
invariant-loop-pid l = l.pids.items ≡ filter (λ q. not (q == l.self.me)) (take l.pid-index l.pid-items)
