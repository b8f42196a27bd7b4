use Rattle.std.proofs.Common.{◌≡◌, ◌==◌, not, nat_eq, take, filter}
use Rattle.std.specs.Set.{is_member}
use Rattle.op_counting.proofs.counting.synced_others.Given as goal

abbrev pub invariant-loop-pid : goal.invariant-loop-pid
invariant-loop-pid l = l.pids.items ≡ filter (λ q. is_member nat_eq l.synced q) (filter (λ q. not (q == l.member.me)) (take l.pid-index l.pid-items))
