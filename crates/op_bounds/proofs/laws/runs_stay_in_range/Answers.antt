use Rattle.op_bounds.specs.Messages.{Passes}
use Rattle.op_bounds.proofs.Runs.{happenings_stay, runs_stay}
use Rattle.op_bounds.proofs.Starts.{starts_in}
use Rattle.op_bounds.proofs.Known.{nodes_runs_stay, all_runs_stay}
use Rattle.op_bounds.proofs.laws.runs_stay_in_range.Goals as goal

pub returns : goal.returns
returns c =
    record {
      start = λ known. starts_in (Passes known);
      happening = λ known. happenings_stay (Passes known);
      run = λ known. runs_stay (Passes known);
      nodes = nodes_runs_stay;
      all = all_runs_stay;
    }
