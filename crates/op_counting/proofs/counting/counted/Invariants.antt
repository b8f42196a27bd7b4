use Rattle.std.proofs.Common.{◌≡◌, min, map, take}
use Rattle.op_protocol.specs.Leader.{length_at}
use Rattle.op_counting.proofs.counting.counted.Given as goal

abbrev pub invariant-loop-pid : goal.invariant-loop-pid
invariant-loop-pid l = l.lengths.items ≡ map (λ q. min (length_at l.member.me l.len l.acknowledged q) l.len) (take l.pid-index l.pid-items)
