use Rattle.op_queues.proofs.Settling.{stays_then}
use Rattle.op_driver.proofs.Grouping.{from_drained}
use Rattle.op_driver.proofs.driver.Driver.give_group.Goals as goal

pub returns-clause-gives : goal.returns-clause-gives
returns-clause-gives g c = from_drained c.args.ungiven.now c.enter_group.new.ungiven c.enter_group.ensures.gives c.drain.ensures.drained

pub returns-clause-stays : goal.returns-clause-stays
returns-clause-stays g c = stays_then c.enter_group.ensures.stays c.drain.ensures.stays
