use Rattle.std.proofs.Common.{◌∙◌, ap, arith}
use Rattle.op_serving.specs.State.{kind_at}
use Rattle.op_queues.proofs.Settling.{stays_same, stays_then, left_place}
use Rattle.op_driver.specs.Driver.{Served}
use Rattle.op_driver.proofs.Draining.{ends}
use Rattle.op_serving.specs.Counts.{most_inputs}
use Rattle.op_queues.proofs.Counting.{most_left}
use Rattle.op_driver.proofs.driver.Driver.leave.Goals as goal

pub returns-clause-does : goal.returns-clause-does
returns-clause-does g c = ends c.args.conn c.args.self.now c.take_out.new.self c.drain.new.self c.take_out.ensures c.drain.ensures.drained c.drain.ensures.none c.requires

pub returns-clause-stays : goal.returns-clause-stays
returns-clause-stays g c = stays_then (stays_same (ap (λ (x : Served _). x.loop.place) c.take_out.ensures ∙ left_place c.args.conn (kind_at c.args.conn c.args.self.now.loop) c.args.self.now.loop)) c.drain.ensures.stays

pub returns-clause-most : goal.returns-clause-most
returns-clause-most g c = omega (arith, c.drain.ensures.most, ap (λ (x : Served _). most_inputs x.loop) c.take_out.ensures, most_left c.args.conn c.args.self.now.loop)
