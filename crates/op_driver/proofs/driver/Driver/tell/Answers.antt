use Rattle.std.proofs.Common.{ap, arith}
use Rattle.op_serving.specs.Counts.{most_inputs}
use Rattle.op_queues.proofs.Counting.{most_waits}
use Rattle.op_serving.specs.Wire.{client_frame}
use Rattle.op_driver.proofs.driver.Driver.tell.Goals as goal

pub returns-in-Ok-clause-most : goal.returns-in-Ok-clause-most
returns-in-Ok-clause-most g c =
    rw (← c.self.view_is) (omega (arith, ap most_inputs c.in-Ok.ensures.ok, most_waits c.args.conn (client_frame c.of_no_command-told.result) c.self.inside.sessions))
