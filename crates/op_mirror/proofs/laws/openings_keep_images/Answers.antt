use Rattle.op_mirror.proofs.Starts.{cut_short, opened}
use Rattle.op_mirror.proofs.laws.openings_keep_images.Goals as goal

pub returns-clause-cut_short : goal.returns-clause-cut_short
returns-clause-cut_short g c m a b a' b' h leaves = cut_short g.D.Disk.state m a b h a' b' leaves

pub returns-clause-opened : goal.returns-clause-opened
returns-clause-opened g c m n a b h o = opened g.D.Disk.state m a b h n o
