use Rattle.op_mirror.proofs.Telling.{same_copies}
use Rattle.op_mirror.proofs.laws.marks_tell_copies.Goals as goal

pub returns : goal.returns
returns g c m n same = same_copies g.D.Disk.state m n same
