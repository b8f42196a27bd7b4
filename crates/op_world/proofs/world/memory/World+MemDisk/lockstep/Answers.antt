use Rattle.op_world.proofs.world.memory.World+MemDisk.lockstep.Goals as goal

pub returns-clause-report : goal.returns-clause-report
returns-clause-report c = c.lockstep_over.ensures.report
