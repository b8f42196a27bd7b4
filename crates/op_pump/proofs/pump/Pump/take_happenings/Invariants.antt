use Rattle.std.proofs.Common.{◌≤◌, ◌+◌, ◌*◌, ◌≡◌, []}
use Rattle.op_serving.specs.Pump.{Settings, asks, piece_len}
use Rattle.op_serving.specs.Counts.{most_inputs}
use Rattle.op_pump.specs.Moments.{moment, Goes, IsIdleAt}
use Rattle.op_pump.proofs.pump.Pump.take_happenings.Given as goal

abbrev pub invariant-loop-i : goal.invariant-loop-i
invariant-loop-i g l = record {
  idle : IsIdleAt l.fn.self.driver.loop.place.turn l.i l.self.driver.loop;
  goes : (o : Settings)
      → Goes g.K.Core.stores o g.K.Core.line [] (moment (asks 0 l.count) l.fn.self.timer l.fn.self.driver)
      (moment (asks l.i l.count) l.self.timer l.self.driver) (g.N.Net.told l.fn.net, g.N.Net.fault_count l.fn.net)
      (g.N.Net.told l.net, g.N.Net.fault_count l.net);
  given : g.N.Net.given l.net ≡ g.N.Net.given l.fn.net;
  timer : l.self.timer ≡ l.fn.self.timer;
  most : most_inputs l.self.driver.loop ≤ most_inputs l.fn.self.driver.loop + l.i * piece_len;
}
