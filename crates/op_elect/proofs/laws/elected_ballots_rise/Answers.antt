use Rattle.op_elect.proofs.Rising.{rise_above}
use Rattle.op_elect.proofs.laws.elected_ballots_rise.Goals as goal

pub returns : goal.returns
returns c = λ from to calls ballots run. rise_above from to calls ballots run
