use Rattle.std.proofs.Common.{ℕ, Option, refl, sym, ap, ◌∙◌}
use Rattle.op_node.specs.Nodes.{NodeState, node_of}
use Rattle.op_core.proofs.groups.store.Goals as goal

pub returns-in-Ok-clause-stored : goal.returns-in-Ok-clause-stored
returns-in-Ok-clause-stored g c d changes leads = (
  c.in-Ok.ensures.node ∙ ap (λ (o : Option ℕ). let n : NodeState = record (node_of c.args.node.now) { failed = o } in n) (sym c.requires.up),
  refl,
  c.in-Ok.field-0,
  c.in-Ok.ensures.stored d changes leads,
)

pub returns-in-Err-clause-stored : goal.returns-in-Err-clause-stored
returns-in-Err-clause-stored g c d changes leads =
    (c.in-Err.fault.count, c.in-Err.ensures.node, c.refuse.ensures.items, c.in-Err.ensures.stored d changes leads)
