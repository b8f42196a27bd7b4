use Rattle.op_connections.proofs.Behind.{few_wait}
use Rattle.op_connections.proofs.laws.few_frames_wait.Goals as goal

pub returns : goal.returns
returns c = record { few = few_wait }
