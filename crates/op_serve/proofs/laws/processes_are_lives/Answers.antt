use Rattle.std.proofs.Common.{refl}
use Rattle.op_runs.specs.Possible.{kind_in}
use Rattle.op_serve.proofs.Processes.{process_of, refused_leaves, processes_last}
use Rattle.op_serve.proofs.laws.processes_are_lives.Goals as goal

pub returns-clause-ends : goal.returns-clause-ends
returns-clause-ends g c id o old new s lost = process_of g.D.Disk.state id o old new s lost

pub returns-clause-refused : goal.returns-clause-refused
returns-clause-refused g c kind id members l old new = refused_leaves g.D.Disk.state kind id members l old new

pub returns-clause-lasts : goal.returns-clause-lasts
returns-clause-lasts g c id members observers p ps faulted =
    processes_last g.D.Disk.state (kind_in observers id) id members p ps observers faulted refl
