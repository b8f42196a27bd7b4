use Rattle.std.proofs.Common.{List, ℕ, Some, ap, ◌∙◌}
use Rattle.op_types.specs.declared.plan.Plan.{Plan}
use Rattle.op_change.specs.Over.{nothing_written}
use Rattle.op_protocol.specs.Bases.{service_in}
use Rattle.op_observer.specs.declared.observer_plan.ObserverPlan.{ObserverPlan}
use Rattle.op_observer.proofs.taking.rebase.Goals as goal

pub returns : goal.returns
returns c =
    let service = c.in_ok-service.service in (
      service,
      c.in_ok-service.ensures ∙ ap (λ (bytes : List ℕ). service_in bytes) c.as_slice.ensures,
      c.anew.ensures
          ∙ ap (λ (p : Plan). let q : ObserverPlan =
          record { plan = p; change = nothing_written; service = Some service } in q)
          c.in_ok-plan.ensures,
    )
