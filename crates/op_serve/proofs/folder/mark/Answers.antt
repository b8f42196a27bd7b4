use Rattle.std.proofs.Common.{refl}
use Rattle.op_serve.proofs.Folders.{marks_so, unwritten}
use Rattle.op_serve.proofs.folder.mark.Goals as goal

pub returns-in_default : goal.returns-in_default
returns-in_default g c = rw c.in_default.is refl

pub returns-in-Ok : goal.returns-in-Ok
returns-in-Ok g c = rw c.in-Some.is (marks_so g.D.Disk.state c.in-Some.at _ _ _ c.sync.result c.in-Ok.ensures.does c.sync.ensures.does c.sync.ensures.synced)

pub returns-in-Err : goal.returns-in-Err
returns-in-Err g c = rw c.in-Some.is (unwritten c.in-Some.at _ _ (g.D.Disk.state c.args.identity.now) _ c.in-Err.ensures.does)
