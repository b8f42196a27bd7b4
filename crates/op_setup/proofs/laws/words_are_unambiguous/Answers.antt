use Rattle.op_setup.proofs.TaskWords.{flag_drills, one_task}
use Rattle.op_setup.proofs.laws.words_are_unambiguous.Goals as goal

pub returns : goal.returns
returns c = record { one = one_task; flag = flag_drills }
