use Rattle.op_serve.specs.Nodes.{disks_in}
use Rattle.op_serve.proofs.Looking.{only_looks, looks_well, follows_still, leaves_on, held_still}
use Rattle.op_serve.proofs.laws.looks_change_nothing.Goals as goal

pub returns-clause-only : goal.returns-clause-only
returns-clause-only g c id o old new r = only_looks g.D.Disk id o old new r

pub returns-clause-well : goal.returns-clause-well
returns-clause-well g c id o old new begins = looks_well g.D.Disk id o old new begins

pub returns-clause-follow : goal.returns-clause-follow
returns-clause-follow g c gone old seen = follows_still (disks_in g.D.Disk.state gone) (disks_in g.D.Disk.state old) (disks_in g.D.Disk.state seen)

pub returns-clause-left : goal.returns-clause-left
returns-clause-left g c l old seen = leaves_on l (disks_in g.D.Disk.state old) (disks_in g.D.Disk.state seen)

pub returns-clause-copies : goal.returns-clause-copies
returns-clause-copies g c out m a b x y = held_still g.D.Disk out m a b x y
