use Rattle.op_drill.proofs.random.drilled.Goals as goal

pub returns-in-Ok : goal.returns-in-Ok
returns-in-Ok c = c.in-Ok.ensures.report
