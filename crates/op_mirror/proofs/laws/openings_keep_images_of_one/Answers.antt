use Rattle.op_mirror.proofs.Starts.{second_cut_short, second_opened, first_cut_short, first_opened}
use Rattle.op_mirror.proofs.laws.openings_keep_images_of_one.Goals as goal

pub returns-clause-second_cut_short : goal.returns-clause-second_cut_short
returns-clause-second_cut_short g c m a b a' b' h leaves oa one = second_cut_short g.D.Disk.state m a b a' b' h leaves oa one

pub returns-clause-second_opened : goal.returns-clause-second_opened
returns-clause-second_opened g c m n a b h o oa one = second_opened g.D.Disk.state m n a b h o oa one

pub returns-clause-first_cut_short : goal.returns-clause-first_cut_short
returns-clause-first_cut_short g c m a b a' b' h leaves = first_cut_short g.D.Disk.state m a b a' b' h leaves

pub returns-clause-first_opened : goal.returns-clause-first_opened
returns-clause-first_opened g c m n a b h o ob out = first_opened g.D.Disk.state m n a b h o ob out
