use Rattle.op_linear.proofs.Tracks.{traces_are_runs}
use Rattle.op_linear.proofs.laws.traces_are_runs.Goals as goal

pub returns : goal.returns
returns c = record { track = traces_are_runs }
