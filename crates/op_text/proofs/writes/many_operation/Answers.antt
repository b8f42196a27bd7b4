use Rattle.op_text.proofs.WriteWords.{all_read, are_operands, read_more, stop_there}
use Rattle.op_text.proofs.writes.many_operation.Goals as goal

pub returns-in_default-2-clause-found : goal.returns-in_default-2-clause-found
returns-in_default-2-clause-found g c = λ op h.
    let none = rw c.in_default-2.is at c.in_ok-write.ensures in
    stop_there c.loop-first.writes.items c.in-Some.first _ _ _ c.loop-first.invariant c.in-Some.ensures.found (λ w. none w.0 w.1) (op, h)

pub loop-first-preserved : goal.loop-first-preserved
loop-first-preserved g c =
    let is = rw c.in-Some-2.is at c.in_ok-write.ensures in
    read_more c.loop-first.writes.items _ c.in-Some-2.write _ _ _ _ c.loop-first.invariant is c.in-Some.ensures.found c.in_ok-push.ensures.items

pub from_vec-requires : goal.from_vec-requires
from_vec-requires g c =
    (all_read c.loop-first.writes.items _ _ c.loop-first.invariant c.in_default.ensures.none (c.are_writes.ensures.0 c.if-not-are_writes.false)).0.in_range.few

pub returns-clause-found : goal.returns-clause-found
returns-clause-found g c =
    let all = all_read c.loop-first.writes.items _ _ c.loop-first.invariant c.in_default.ensures.none (c.are_writes.ensures.0 c.if-not-are_writes.false) in
    rw c.in_ok-from_vec.ensures (are_operands _ _ all.0)
