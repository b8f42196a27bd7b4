use Rattle.op_serving.specs.Inputs.{enter}
use Rattle.op_queues.proofs.Settling.{stays_then}
use Rattle.op_driver.proofs.Draining.{gives}
use Rattle.op_driver.proofs.driver.Driver.give.Goals as goal

pub returns-clause-gives : goal.returns-clause-gives
returns-clause-gives g c = gives (λ l s. enter l c.args.who.now c.args.input s) c.enter.ensures.does c.drain.ensures.drained (stays_then c.enter.ensures.stays c.drain.ensures.stays) c.drain.ensures.none
