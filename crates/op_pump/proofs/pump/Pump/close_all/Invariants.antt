use Rattle.std.proofs.Common.{◌≡◌, ◌++◌, ℕ, List, length, map}
use Rattle.op_outside.specs.Nets.{Closed}
use Rattle.op_outside.specs.Telling.{Grows}
use Rattle.op_driver.specs.Driver.{emptied}
use Rattle.op_pump.proofs.pump.Pump.close_all.Given as goal

abbrev pub invariant-closes : goal.invariant-closes
invariant-closes g l = record {
  closed : (done : List ℕ) × (l.fn.self.driver.loop.closes ≡ done ++ l.self.driver.loop.closes) × Grows (g.N.Net.told l.fn.net) (map Closed done)
      (g.N.Net.told l.net);
  counts : g.N.Net.fault_count l.net ≡ g.N.Net.fault_count l.fn.net;
  given : g.N.Net.given l.net ≡ g.N.Net.given l.fn.net;
  same : emptied l.self.driver ≡ emptied l.fn.self.driver;
  timer : l.self.timer ≡ l.fn.self.timer;
}

abbrev pub decreases-closes : goal.decreases-closes
decreases-closes g l = length l.self.driver.loop.closes
