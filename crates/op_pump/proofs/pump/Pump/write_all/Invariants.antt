use Rattle.std.proofs.Common.{◌≤◌, ◌≡◌, ℕ, []}
use Rattle.op_serving.specs.Turns.{waiting_from}
use Rattle.op_serving.specs.Pump.{Settings, writes}
use Rattle.op_serving.specs.Counts.{most_inputs}
use Rattle.op_pump.specs.Moments.{moment, Goes, IsIdleAt, Waits}
use Rattle.op_pump.proofs.Written.{behind_measure}
use Rattle.op_pump.proofs.pump.Pump.write_all.Given as goal

abbrev pub invariant-queues : goal.invariant-queues
invariant-queues g l = record {
  idle : IsIdleAt l.fn.self.driver.loop.place.turn l.fn.self.driver.loop.place.at l.self.driver.loop;
  goes : (o : Settings)
      → (low : ℕ) × Goes g.K.Core.stores o g.K.Core.line [] (moment (writes 0) l.fn.self.timer l.fn.self.driver)
      (moment (writes low) l.self.timer l.self.driver) (g.N.Net.told l.fn.net, g.N.Net.fault_count l.fn.net)
      (g.N.Net.told l.net, g.N.Net.fault_count l.net) × (l.next ≡ waiting_from low l.self.driver.loop.sessions);
  waits : Waits 0 l.self.driver.loop l.next;
  timer : l.self.timer ≡ l.fn.self.timer;
  most : most_inputs l.self.driver.loop ≤ most_inputs l.fn.self.driver.loop;
}

abbrev pub decreases-queues : goal.decreases-queues
decreases-queues g l = behind_measure l.next
