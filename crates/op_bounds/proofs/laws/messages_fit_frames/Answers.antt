use Rattle.op_bounds.specs.Messages.{Passes}
use Rattle.op_bounds.proofs.Frames.{steps_fit, observer_steps_fit, openings_fit, runs_fit}
use Rattle.op_bounds.proofs.laws.messages_fit_frames.Goals as goal

pub returns : goal.returns
returns c = record { step = λ known. steps_fit (Passes known); observers = λ known. observer_steps_fit (Passes known); opening = λ known. openings_fit (Passes known); run = runs_fit }
