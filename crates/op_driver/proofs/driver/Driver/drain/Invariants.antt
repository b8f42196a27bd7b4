use Rattle.std.proofs.Common.{◌≤◌}
use Rattle.op_driver.specs.Driver.{Drained, IsShed}
use Rattle.op_serving.specs.Counts.{most_inputs}
use Rattle.op_serving.specs.Losses.{size, Stays}
use Rattle.op_driver.proofs.driver.Driver.drain.Given as goal

abbrev pub invariant-downs : goal.invariant-downs
invariant-downs g l = record {
  drained : Drained g.K.Core.stores l.fn.self l.self;
  stays : Stays l.fn.self.loop l.self.loop;
  shed : IsShed l.self.loop;
  most : most_inputs l.self.loop ≤ most_inputs l.fn.self.loop;
}

abbrev pub decreases-downs : goal.decreases-downs
decreases-downs g l = size l.self.loop
