use Rattle.std.proofs.Common.{refl, subst, sym, IfOk}
use Rattle.op_types.specs.declared.events.Input.TheVariants.{Tick}
use Rattle.op_serving.specs.Fates.{Steps}
use Rattle.op_serving.specs.Ranges.{GivenInRange}
use Rattle.op_core.specs.Disks.{StepStores}
use Rattle.op_core.specs.NodeCores.{standing_of}
use Rattle.op_core.specs.declared.node_core.NodeCore.{NodeCore}
use Rattle.op_core.proofs.NodeCores.{stays_again, gave_again}
use Rattle.op_core.proofs.Disks.{has_failed, did_again}
use Rattle.op_core.proofs.stepping.open_again.Goals as goal

pub restart-requires-clause-sound : goal.restart-requires-clause-sound
restart-requires-clause-sound g c = c.requires.ready.sound

pub restart-requires-clause-failed : goal.restart-requires-clause-failed
restart-requires-clause-failed g c = has_failed g.D.Disk.state c.args.core.now c.requires.failed

pub returns-clause-steps : goal.returns-clause-steps
returns-clause-steps g c =
    let state = g.D.Disk.state in
    let n = c.args.core.now in
    let m : NodeCore _ = record n { node = c.restart.new.self } in
    subst (λ r. Steps (standing_of state) (StepStores state) n Tick r m) (sym c.hand_on_again.ensures)
    (did_again state n m c.requires.failed refl c.restart.result c.restart.ensures.opened c.restart.ensures.refused)

pub returns-clause-given : goal.returns-clause-given
returns-clause-given g c =
    subst (λ r. IfOk r GivenInRange) (sym c.hand_on_again.ensures) (gave_again g.D.Disk.state c.args.core.now.node c.restart.new.self c.restart.result c.restart.ensures.opened c.requires.ready)

pub returns-clause-ready : goal.returns-clause-ready
returns-clause-ready g c =
    stays_again g.D.Disk.state c.args.core.now.node c.restart.new.self c.restart.result c.restart.ensures.opened c.restart.ensures.refused c.restart.ensures.sound c.requires.ready
