use Rattle.op_types.specs.Changes.{durable_after}
use Rattle.op_node.proofs.Taken.{at_once_checkpointed, at_once_uncheckpointed}
use Rattle.op_node.proofs.gathered.commit_then_checkpoint.Goals as goal

pub returns-in-Ok : goal.returns-in-Ok
returns-in-Ok g c d changes is applies some is_whole =
    let one = c.in_default.ensures in
    let two = c.in-Ok.ensures in
    at_once_checkpointed g.D.Disk.state d changes c.args.framed.now c.args.whole is applies some c.args.store.now c.commit.new.self c.checkpoint.new.self is_whole c.requires.passes one.commits one.alone one.ends one.appended (λ e. c.checkpoint.ensures.alone e)
    (λ r. two.checkpoints (durable_after d changes) (one.commits d changes r is applies).stored is_whole) two.ends two.switched

pub returns-in-Err-checkpoint : goal.returns-in-Err-checkpoint
returns-in-Err-checkpoint g c d changes is applies some is_whole =
    let one = c.in_default.ensures in
    let two = c.in-Err-checkpoint.ensures in
    at_once_uncheckpointed g.D.Disk.state d changes c.args.framed.now c.args.whole is applies some c.args.store.now c.commit.new.self c.checkpoint.new.self is_whole c.requires.passes one.commits one.alone one.ends one.appended (λ e. c.checkpoint.ensures.alone e)
    c.in-Err-checkpoint.fault (λ r. two.checkpoints (durable_after d changes) (one.commits d changes r is applies).stored is_whole) two.ends two.switched
