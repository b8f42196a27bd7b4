use Rattle.std.proofs.Common.{sym, subst}
use Rattle.op_types.specs.declared.durable.Durable.{Durable}
use Rattle.op_chain.specs.Chains.{CanOpen}
use Rattle.op_node.proofs.NodeOpenings.{can_open}
use Rattle.op_node.proofs.starting.started.Goals as goal

pub first-requires : goal.first-requires
first-requires c =
    subst (λ (d : Durable). CanOpen c.args.me d) (sym c.durable_for-durable.ensures) (can_open c.args.me c.args.durable c.requires)

pub again-requires : goal.again-requires
again-requires c =
    subst (λ (d : Durable). CanOpen c.args.me d) (sym c.durable_for-durable.ensures) (can_open c.args.me c.args.durable c.requires)
