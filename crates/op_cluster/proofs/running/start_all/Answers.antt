use Rattle.std.proofs.Common.{Result, Ok, Err, OnErr}
use Rattle.op_cluster.proofs.Runs.{start_fails}
use Rattle.op_cluster.proofs.running.start_all.Goals as goal

on_err : {T E P : Type 0} (r : Result T E) → P → OnErr r P
on_err (Ok x) p = tt
on_err (Err e) p = p

pub returns-in_err-start-clause-failed : goal.returns-in_err-start-clause-failed
returns-in_err-start-clause-failed g c =
    on_err c.from_residual.result (start_fails _ _ _ c.loop-id-test.true c.loop-id.invariant.so_far c.in_err-start.ensures.tells)
