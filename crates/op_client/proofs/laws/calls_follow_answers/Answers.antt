use Rattle.op_client.proofs.Follows.{one_call}
use Rattle.op_client.proofs.laws.calls_follow_answers.Goals as goal

pub returns : goal.returns
returns c = one_call
