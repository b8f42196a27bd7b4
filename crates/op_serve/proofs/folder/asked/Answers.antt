use Rattle.op_serve.proofs.folder.asked.Goals as goal

pub returns-in-Ok : goal.returns-in-Ok
returns-in-Ok g c = (_, c.in-Ok.ensures.read, c.claim_of.ensures)
