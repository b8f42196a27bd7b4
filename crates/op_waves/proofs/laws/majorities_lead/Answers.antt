use Rattle.op_waves.proofs.Leading.{sessions_promise, majorities_lead, all_lead}
use Rattle.op_waves.proofs.laws.majorities_lead.Goals as goal

pub returns : goal.returns
returns c = record { promise = sessions_promise; lead = majorities_lead; all = all_lead }
