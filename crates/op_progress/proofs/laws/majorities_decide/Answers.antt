use Rattle.op_progress.proofs.Deciding.{majorities_decide}
use Rattle.op_progress.proofs.laws.majorities_decide.Goals as goal

pub returns : goal.returns
returns c = record { decide = majorities_decide }
