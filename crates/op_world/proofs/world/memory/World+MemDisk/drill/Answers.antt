use Rattle.op_world.proofs.world.memory.World+MemDisk.drill.Goals as goal

pub returns-clause-report : goal.returns-clause-report
returns-clause-report c = c.drill_over.ensures.report
