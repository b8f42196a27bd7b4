use Rattle.std.proofs.Common.{[], append-nil}
use Rattle.op_sched.proofs.reading.events.Goals as goal

pub returns-clause-found : goal.returns-clause-found
returns-clause-found c =
    let none = rw c.in_default.is at c.next_numbered.ensures.none in
    rw c.from_vec.ensures (rw append-nil at (c.loop-next.invariant.good [] (rw none tt)))
