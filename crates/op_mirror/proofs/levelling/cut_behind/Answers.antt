use Rattle.op_mirror.proofs.Crashes.{cut_leaves, mixes_joined}
use Rattle.op_mirror.proofs.levelling.cut_behind.Goals as goal

pub returns-in_default-clause-leaves : goal.returns-in_default-clause-leaves
returns-in_default-clause-leaves g c =
    let state = g.D.Disk.state in
    λ x y is o. cut_leaves x y c.args.len (state c.args.second.now) (state c.cut.new.self) is (c.cut.ensures.does.goes_on o)

pub returns-clause-leaves : goal.returns-clause-leaves
returns-clause-leaves g c =
    let state = g.D.Disk.state in
    λ x y is o. mixes_joined x y (state c.args.second.now) (state c.cut.new.self) (state c.sync_second.new.second)
    (cut_leaves x y c.args.len (state c.args.second.now) (state c.cut.new.self) is (c.cut.ensures.does.goes_on o))
    (c.sync_second.ensures.leaves x y ((c.cut.ensures.does.model).1 o))
