use Rattle.op_paxos.proofs.parts.parts_do_as_the_whole.Goals as goal
use Rattle.op_paxos.proofs.PromisesInRuns.{promise_in_parts}
use Rattle.op_paxos.proofs.PartsInRuns.{sync_in_parts}
use Rattle.op_paxos.proofs.Wholes.{wholes_fit}

pub returns : goal.returns
returns c = record { promise = promise_in_parts; sync = sync_in_parts; whole = wholes_fit }
