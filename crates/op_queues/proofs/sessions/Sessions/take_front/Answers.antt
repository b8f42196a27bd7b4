use Rattle.std.proofs.Common.{arith, ap}
use Rattle.op_serving.specs.Counts.{most_inputs}
use Rattle.op_queues.proofs.sessions.Sessions.take_front.Goals as goal

pub returns-clause-most : goal.returns-clause-most
unfolding most_inputs
returns-clause-most c = omega (arith, c.take_front_at.ensures.most, ap most_inputs c.self.view_is)
