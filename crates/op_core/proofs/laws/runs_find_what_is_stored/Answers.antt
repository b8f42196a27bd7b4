use Rattle.op_core.proofs.Runs.{runs_keep, runs_find, runs_store}
use Rattle.op_core.proofs.laws.runs_find_what_is_stored.Goals as goal

pub returns-clause-kept : goal.returns-clause-kept
returns-clause-kept g c old new ds = runs_keep g.D.Disk.state old new ds

pub returns-clause-found : goal.returns-clause-found
returns-clause-found g c old new ds u = runs_find g.D.Disk.state old new ds u

pub returns-clause-stored : goal.returns-clause-stored
returns-clause-stored g c old new ds u = runs_store g.D.Disk.state old new ds u
