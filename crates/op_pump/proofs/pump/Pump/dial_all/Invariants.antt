use Rattle.std.proofs.Common.{◌≤◌, ◌+◌, ◌*◌, ◌≡◌, ℕ, [], drop}
use Rattle.op_serving.specs.Pump.{Settings, dials}
use Rattle.op_serving.specs.Counts.{most_inputs}
use Rattle.op_pump.specs.Counts.{most_of_dial}
use Rattle.op_pump.specs.Moments.{moment, Goes, IsIdleAt}
use Rattle.op_pump.proofs.pump.Pump.dial_all.Given as goal

abbrev pub invariant-loop-peer : goal.invariant-loop-peer
invariant-loop-peer g l = record {
  idle : IsIdleAt l.fn.self.driver.loop.place.turn 0 l.self.driver.loop;
  goes : (o : Settings) (k : ℕ)
      → Goes g.K.Core.stores o g.K.Core.line [] (moment (dials l.settings.peers k) l.fn.self.timer l.fn.self.driver)
      (moment (dials (drop l.peer-index l.settings.peers) k) l.self.timer l.self.driver) (g.N.Net.told l.fn.net, g.N.Net.fault_count l.fn.net)
      (g.N.Net.told l.net, g.N.Net.fault_count l.net);
  given : g.N.Net.given l.net ≡ g.N.Net.given l.fn.net;
  most : most_inputs l.self.driver.loop ≤ most_inputs l.fn.self.driver.loop + most_of_dial * l.peer-index;
  timer : l.self.timer ≡ l.fn.self.timer;
  core : l.self.driver.core ≡ l.fn.self.driver.core;
}
