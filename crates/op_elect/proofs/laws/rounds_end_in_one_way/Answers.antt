use Rattle.op_elect.proofs.Ends.{some_end, one_end}
use Rattle.op_elect.proofs.laws.rounds_end_in_one_way.Goals as goal

pub returns : goal.returns
returns c = record { some = some_end; one = one_end }
