use Rattle.op_serving.specs.Inputs.{flushed, leaves}
use Rattle.op_driver.proofs.Draining.{does_then}
use Rattle.op_driver.proofs.driver.Driver.end.Goals as goal

pub returns-clause-does : goal.returns-clause-does
returns-clause-does g c = does_then (λ l s. flushed l s) (λ l s. leaves l c.args.conn s) c.flush.ensures.does c.leave.ensures.does
