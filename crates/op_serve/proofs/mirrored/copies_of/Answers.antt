use Rattle.op_serve.proofs.mirrored.copies_of.Goals as goal

pub returns-clause-failed : goal.returns-clause-failed
returns-clause-failed g c = c.faults-faults.ensures.marks.both_out

pub returns-clause-mixes : goal.returns-clause-mixes
returns-clause-mixes g c = c.faults-faults.ensures.mixes
