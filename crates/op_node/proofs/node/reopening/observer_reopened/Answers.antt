use Rattle.std.proofs.Common.{sym, subst}
use Rattle.op_types.specs.declared.durable.Durable.{Durable}
use Rattle.op_observer.specs.Observers.{CanWatch}
use Rattle.op_node.proofs.NodeOpenings.{can_watch}
use Rattle.op_node.proofs.node.reopening.observer_reopened.Goals as goal

pub reopen-requires : goal.reopen-requires
reopen-requires c =
    subst (λ (d : Durable). CanWatch d) (sym c.watched_for.ensures) (can_watch c.args.durable c.requires)
