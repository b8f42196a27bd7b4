use Rattle.op_serve.proofs.Told.{newer_is_told, newer_is_there, damage_is_told, damage_is_there}
use Rattle.op_serve.proofs.laws.what_is_not_read_is_told.Goals as goal

pub returns-clause-newer : goal.returns-clause-newer
returns-clause-newer g c id o = newer_is_told g.D.Disk.state id o

pub returns-clause-damaged : goal.returns-clause-damaged
returns-clause-damaged g c id o = damage_is_told g.D.Disk.state id o

pub returns-clause-only_newer : goal.returns-clause-only_newer
returns-clause-only_newer g c id o = newer_is_there g.D.Disk.state id o

pub returns-clause-only_damaged : goal.returns-clause-only_damaged
returns-clause-only_damaged g c id o = damage_is_there g.D.Disk.state id o
