use Rattle.std.proofs.Common.{◌≤◌, ◌≡◌, Ok}
use Rattle.op_serving.specs.Pump.{Settings}
use Rattle.op_driver.specs.Driver.{hello_left}
use Rattle.op_serving.specs.Counts.{most_inputs}
use Rattle.op_pump.specs.Moments.{IsIdleAt, Writes, Waits}
use Rattle.op_pump.proofs.Written.{if_same}
use Rattle.op_pump.proofs.pump.Pump.write_hello.Given as goal

abbrev pub invariant-hello : goal.invariant-hello
invariant-hello g l = record {
  idle : IsIdleAt l.fn.self.driver.loop.place.turn l.fn.self.driver.loop.place.at l.self.driver.loop;
  writes : (o : Settings)
      → Writes g.K.Core.stores o g.K.Core.line l.conn (Ok l.next) l.fn.self.timer l.fn.self.driver l.self.driver
      (g.N.Net.told l.fn.net, g.N.Net.fault_count l.fn.net) (g.N.Net.told l.net, g.N.Net.fault_count l.net);
  waits : Waits l.conn l.self.driver.loop l.next;
  timer : l.self.timer ≡ l.fn.self.timer;
  most : most_inputs l.self.driver.loop ≤ most_inputs l.fn.self.driver.loop;
}

abbrev pub decreases-hello : goal.decreases-hello
decreases-hello g l = if_same l.next l.conn (hello_left l.conn l.self.driver.loop)
