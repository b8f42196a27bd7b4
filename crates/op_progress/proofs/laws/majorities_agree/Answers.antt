use Rattle.op_progress.proofs.Settling.{majorities_agree}
use Rattle.op_progress.proofs.Whole.{all_agree}
use Rattle.op_progress.proofs.laws.majorities_agree.Goals as goal

pub returns : goal.returns
returns c = record { agree = majorities_agree; all = all_agree }
