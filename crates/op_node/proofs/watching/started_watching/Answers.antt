use Rattle.std.proofs.Common.{sym, subst}
use Rattle.op_types.specs.declared.durable.Durable.{Durable}
use Rattle.op_observer.specs.Observers.{CanWatch}
use Rattle.op_node.proofs.NodeOpenings.{can_watch}
use Rattle.op_node.proofs.watching.started_watching.Goals as goal

pub first-observer-requires : goal.first-observer-requires
first-observer-requires c =
    subst (λ (d : Durable). CanWatch d) (sym c.watched_for-durable.ensures)
    (can_watch c.args.durable c.requires)

pub again-requires : goal.again-requires
again-requires c =
    subst (λ (d : Durable). CanWatch d) (sym c.watched_for-durable.ensures)
    (can_watch c.args.durable c.requires)
