use Rattle.op_bounds.specs.Messages.{Passes}
use Rattle.op_bounds.proofs.Starts.{openings_stay, observer_openings_stay}
use Rattle.op_bounds.proofs.laws.openings_stay_in_range.Goals as goal

pub returns : goal.returns
returns c = record { stay = λ known. openings_stay (Passes known); observers = λ known. observer_openings_stay (Passes known) }
