use Rattle.std.proofs.Common.{◌≡◌, ◌==◌, not, take, filter}
use Rattle.op_types.specs.declared.role.Acknowledged.{Acknowledged}
use Rattle.op_counting.proofs.counting.acknowledged_with.Given as goal

abbrev pub invariant-loop-other : goal.invariant-loop-other
invariant-loop-other l = l.all.items ≡ filter (λ (a : Acknowledged). not (a.from == l.new.from)) (take l.other-index l.acknowledged)
