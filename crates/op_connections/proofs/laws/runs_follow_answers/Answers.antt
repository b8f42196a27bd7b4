use Rattle.op_connections.proofs.Runs.{follow}
use Rattle.op_connections.proofs.laws.runs_follow_answers.Goals as goal

pub returns : goal.returns
returns c o line given p end other one two marks fates = follow o line given p end other one two marks fates
