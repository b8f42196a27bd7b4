use Rattle.op_bounds.specs.Messages.{Passes}
use Rattle.op_bounds.proofs.Observing.{observer_steps_stay}
use Rattle.op_bounds.proofs.Steps.{steps_stay}
use Rattle.op_bounds.proofs.laws.steps_stay_in_range.Goals as goal

pub returns : goal.returns
returns c = record { stay = λ known. steps_stay (Passes known); observers = λ known. observer_steps_stay (Passes known) }
