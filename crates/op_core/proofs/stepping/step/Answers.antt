use Rattle.std.proofs.Common.{◌≡◌, None, false, refl, subst, sym, ap, ◌∙◌, IfOk}
use Rattle.op_node.specs.Nodes.{node_of}
use Rattle.op_node.specs.declared.node.Node.{Node}
use Rattle.op_serving.specs.Cores.{Standing, reopens}
use Rattle.op_serving.specs.Fates.{Steps}
use Rattle.op_serving.specs.Ranges.{GivenInRange}
use Rattle.op_core.specs.Disks.{StepStores}
use Rattle.op_core.specs.NodeCores.{IsServable, place_at, standing_of}
use Rattle.op_core.specs.declared.node_core.NodeCore.{NodeCore}
use Rattle.op_core.proofs.NodeCores.{admits, stays, gave}
use Rattle.op_core.proofs.Disks.{did, noted_steps}
use Rattle.op_core.proofs.stepping.step.Goals as goal

pub step-done-requires : goal.step-done-requires
step-done-requires g c =
    let noted = c.note_place.ensures in
    admits c.note_place.new.self.node c.args.input (subst (λ (k : Node _). IsServable k) (sym noted.node) c.requires.ready) c.requires.range

pub returns-clause-steps : goal.returns-clause-steps
returns-clause-steps g c =
    let state = g.D.Disk.state in
    let old = c.args.core.now in
    let n = c.note_place.new.self in
    let noted = c.note_place.ensures in
    let m : NodeCore _ = record n { node = c.step-done.new.self } in
    let done = c.step-done.ensures in
    let ready = subst (λ (k : Node _). IsServable k) (sym noted.node) c.requires.ready in
    let shut = subst (λ (k : Standing). reopens k c.args.input ≡ false) (sym noted.standing) c.requires.stays in
    let stood : n.node.failed ≡ None → n.stood ≡ place_at (node_of n.node).state =
    λ up. noted.place (sym (ap (λ (k : Node _). k.failed) noted.node) ∙ up) ∙ ap (λ (k : Node _). place_at (node_of k).state) (sym noted.node) in
    subst (λ r. Steps (standing_of state) (StepStores state) old c.args.input r m) (sym c.hand_on.ensures)
    (noted_steps state old n noted.node noted.standing m c.args.input _
    (did state n m c.args.input ready c.requires.range stood refl c.step-done.result shut done.stepped done.steps))

pub returns-clause-given : goal.returns-clause-given
returns-clause-given g c =
    let ready = subst (λ (k : Node _). IsServable k) (sym c.note_place.ensures.node) c.requires.ready in
    subst (λ r. IfOk r GivenInRange) (sym c.hand_on.ensures) (gave c.note_place.new.self.node c.step-done.new.self c.args.input c.step-done.result ready c.requires.range c.step-done.ensures.stepped c.done_fits.ensures)

pub returns-clause-ready : goal.returns-clause-ready
returns-clause-ready g c =
    let ready = subst (λ (k : Node _). IsServable k) (sym c.note_place.ensures.node) c.requires.ready in
    stays c.note_place.new.self.node c.step-done.new.self c.args.input c.step-done.result ready c.requires.range c.step-done.ensures.stepped c.step-done.ensures.sound
