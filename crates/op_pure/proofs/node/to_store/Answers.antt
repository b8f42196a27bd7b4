use Rattle.std.proofs.Common.{sym, ap, ◌∙◌}
use Rattle.op_protocol.specs.State.{Planned}
use Rattle.op_pure.proofs.NodeSteps.{plan_again}
use Rattle.op_pure.proofs.node.to_store.Goals as goal

pub returns-clause-batch : goal.returns-clause-batch
returns-clause-batch c =
    c.into_batch.ensures ∙ c.in_ok-plan.ensures.plans.batch ∙ ap (λ (p : Planned). p.batch) (sym (plan_again c.args.seat.now c.plan.new.self c.args.input c.plan.ensures.same))
