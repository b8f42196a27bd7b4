use Rattle.op_mirror.proofs.Crashes.{still_leaves_mixes}
use Rattle.op_mirror.proofs.levelling.sync_alone.Goals as goal

pub returns-in-Ok-clause-leaves : goal.returns-in-Ok-clause-leaves
returns-in-Ok-clause-leaves g c =
    let state = g.D.Disk.state in
    λ x y o. still_leaves_mixes x y (state c.args.second.now) (state c.sync.new.self) (c.sync.ensures.does.goes_on o)

pub returns-in-Err-clause-leaves : goal.returns-in-Err-clause-leaves
returns-in-Err-clause-leaves g c =
    let state = g.D.Disk.state in
    λ x y o. still_leaves_mixes x y (state c.args.second.now) (state c.sync.new.self) (c.sync.ensures.does.goes_on o)
