use Rattle.op_bounds.proofs.Owners.{observers_own_none}
use Rattle.op_bounds.proofs.laws.observers_own_no_ballot.Goals as goal

pub returns : goal.returns
returns c = record { owns = observers_own_none }
