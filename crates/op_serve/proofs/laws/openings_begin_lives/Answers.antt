use Rattle.std.proofs.Common.{refl}
use Rattle.op_cluster_laws.specs.Traces.{stands}
use Rattle.op_serve.specs.Nodes.{disks_in}
use Rattle.op_serve.proofs.Living.{next_life, first_start}
use Rattle.op_serve.proofs.laws.openings_begin_lives.Goals as goal

pub returns-clause-next : goal.returns-clause-next
returns-clause-next g c members l gone old new n opened =
    next_life g.D.Disk.state (stands l).kind (stands l).me members l (disks_in g.D.Disk.state gone) old new n opened refl refl

pub returns-clause-first : goal.returns-clause-first
returns-clause-first g c kind id members old new n = first_start g.D.Disk.state kind id members old new n
