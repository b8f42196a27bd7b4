use Rattle.op_linear.proofs.Effects.{effects_come_once}
use Rattle.op_linear.proofs.laws.effects_come_once.Goals as goal

pub returns : goal.returns
returns c = record { once = effects_come_once }
