use Rattle.std.proofs.Common.{refl, ◌∙◌}
use Rattle.op_cluster.proofs.Runs.{ends_more, end_fails, write_fails}
use Rattle.op_cluster.proofs.running.end_all.Goals as goal

pub returns-in_err-status-clause-child_fault : goal.returns-in_err-status-clause-child_fault
returns-in_err-status-clause-child_fault g c _ =
    end_fails _ _ c.loop-id-test.true _ _ _ c.loop-id.invariant.so_far c.in_err-status.ensures.tells refl

pub returns-in_err-write_line-clause-write_fault : goal.returns-in_err-write_line-clause-write_fault
returns-in_err-write_line-clause-write_fault g c _ =
    write_fails _ _ c.loop-id-test.true _ _ _ c.loop-id.invariant.so_far _ c.in_ok-status.ensures.tells c.write_line.ensures.prefix

pub loop-id-preserved : goal.loop-id-preserved
loop-id-preserved g c = record {
  so_far = ends_more _ _ c.loop-id-test.true _ _ _ c.loop-id.invariant.so_far _ c.in_ok-status.ensures.tells c.in_ok-write_line.ensures.all;
  no_child_fault = c.in_ok-status.ensures.cause.ok ∙ c.loop-id.invariant.no_child_fault;
  no_write_fault = c.in_ok-write_line.ensures.cause.ok ∙ c.loop-id.invariant.no_write_fault;
}
