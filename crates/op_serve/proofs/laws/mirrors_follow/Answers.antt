use Rattle.std.proofs.Common.{inr}
use Rattle.op_serve.proofs.Between.{goes_on, images, lives_on, stands_again, stands_still, passes_on, leaves_next}
use Rattle.op_serve.proofs.laws.mirrors_follow.Goals as goal

pub returns-clause-follow : goal.returns-clause-follow
returns-clause-follow g c a b x y first_out second_out disks one two =
    inr ((goes_on g.D.Disk first_out a disks.first disks.first_copy x one).reads, (goes_on g.D.Disk second_out b disks.second disks.second_copy y two).reads)

pub returns-clause-left : goal.returns-clause-left
returns-clause-left g c l a b x y first_out second_out disks one two = lives_on g.D.Disk l a b x y first_out second_out disks one two

pub returns-clause-images : goal.returns-clause-images
returns-clause-images g c m n out first second o = images g.D.Disk out m first second n o

pub returns-clause-opened : goal.returns-clause-opened
returns-clause-opened g c out next m a b a' b' u v held again leaves stays stand = stands_again g.D.Disk out next m a b a' b' u v held again leaves stays stand

pub returns-clause-uncalled : goal.returns-clause-uncalled
returns-clause-uncalled g c out next m a b u v held stays stand = stands_still g.D.Disk out next m a b u v held stays stand

pub returns-clause-passes_on : goal.returns-clause-passes_on
returns-clause-passes_on g c m obeys mixes = passes_on g.D.Disk m obeys mixes

pub returns-clause-ends : goal.returns-clause-ends
returns-clause-ends g c begins id o old new s lost e obey = leaves_next g.D.Disk begins id o old new s lost e obey
