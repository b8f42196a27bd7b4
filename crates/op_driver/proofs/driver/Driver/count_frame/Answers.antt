use Rattle.std.proofs.Common.{ap, arith, ◌+◌}
use Rattle.op_serving.specs.Counts.{most_inputs}
use Rattle.op_driver.specs.Driver.{Served}
use Rattle.op_queues.proofs.Counting.{most_at_frame}
use Rattle.op_driver.proofs.driver.Driver.count_frame.Goals as goal

pub returns-clause-most : goal.returns-clause-most
returns-clause-most g c = omega (arith, ap (λ (x : Served _). most_inputs x.loop) c.begin_frame.ensures, most_at_frame (c.args.frames + 1) c.args.self.now.loop)
