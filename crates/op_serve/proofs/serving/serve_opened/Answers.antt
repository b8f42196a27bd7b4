use Rattle.std.proofs.Common.{ap, ◌∙◌}
use Rattle.op_core.specs.declared.node_core.NodeCore.{NodeCore}
use Rattle.op_serve.proofs.Endings.{goes_unheard, goes_unserved, goes_served}
use Rattle.op_serve.proofs.serving.serve_opened.Goals as goal

pub returns-in-Err : goal.returns-in-Err
returns-in-Err g c =
    let back = c.handed_back.ensures in
    goes_unheard _ _ _ c.args.core c.requires.up c.requires.settings.peers _ _ _ _ _ _ _ _ _ _ c.in-Err.ensures back.first back.second back.status back.lost

pub returns-in-Ok : goal.returns-in-Ok
returns-in-Ok g c =
    let serves = rw c.in-Ok.is at c.serve-core.ensures.serves in
    goes_served _ _ _ c.args.core c.requires.up c.requires.settings.peers c.serve-core.result.core _ _ _ _ _ _ serves _ _ _ _ _ _ c.in_default.ensures
    c.park-first.ensures.first c.park-first.ensures.second c.status_of.ensures

pub returns-in-Err-end : goal.returns-in-Err-end
returns-in-Err-end g c =
    let back = c.handed_back-in-Err-end.ensures in
    let unserved = rw c.in-Err-end.is at c.serve-core.ensures.unserved in
    goes_unserved _ _ _ c.args.core c.requires.up c.requires.settings.peers _ _ _ _ _ _ _ _ _ _ _ _ c.in_default.ensures
    (ap (λ x. (g.N.Net.told x, g.N.Net.fault_count x)) unserved.net) unserved.clock.1
    (back.first ∙ ap (λ (n : NodeCore _). n.node.store.first) unserved.node) (back.second ∙ ap (λ (n : NodeCore _). n.node.store.second) unserved.node) back.status back.lost
