use Rattle.std.proofs.Common.{ap, refl, sym, subst, ◌∙◌}
use Rattle.op_node.specs.Nodes.{NodeState, node_of}
use Rattle.op_node.specs.declared.node.Node.{Node}
use Rattle.op_core.specs.NodeCores.{IsServable}
use Rattle.op_serve.proofs.Endings.{ends_opened, ends_refused, ends_unmarked}
use Rattle.op_serve.proofs.serving.serve_on.Goals as goal

pub serve_opened-requires-clause-ready : goal.serve_opened-requires-clause-ready
serve_opened-requires-clause-ready g c =
    subst (λ (n : Node _). IsServable n) (sym c.new-core.ensures) (c.opened_nodes_can_be_served.ensures _ _ _ _ _ _ _ c.in-Ok.ensures.opened c.requires.server)

pub serve_opened-requires-clause-up : goal.serve_opened-requires-clause-up
serve_opened-requires-clause-up g c = ap (λ (n : Node _). (node_of n).failed) c.new-core.ensures ∙ ap (λ (n : NodeState). n.failed) c.in-Ok.ensures.opened.node

pub returns-in-Ok-mark : goal.returns-in-Ok-mark
returns-in-Ok-mark g c = ends_opened _ _ _ _ _ _ _ _ _ _ _ _ c.new-core.ensures c.in-Ok.ensures.opened _ _ _ c.in-Ok-mark.ensures c.serve_opened.ensures

pub returns-in-Ok : goal.returns-in-Ok
returns-in-Ok g c =
    let back = c.handed_back.ensures in
    let up = ap (λ (n : Node _). (node_of n).failed) c.new-core.ensures ∙ ap (λ (n : NodeState). n.failed) c.in-Ok.ensures.opened.node in
    ends_unmarked _ _ _ _ _ _ _ c.new-core.result _ _ _ _ c.new-core.ensures c.in-Ok.ensures.opened up c.requires.peers _ _ _ _ c.in-Err-mark.ensures back.first back.second back.status back.lost

pub returns : goal.returns
returns g c =
    ends_refused _ _ _ _ _ _ _ _ _ _ _ _ _ _ c.in-Err.ensures.refused refl c.early.ensures.first c.early.ensures.second
    (c.early.ensures.status ∙ c.status_of_refusal-status.ensures) c.early.ensures.lost
