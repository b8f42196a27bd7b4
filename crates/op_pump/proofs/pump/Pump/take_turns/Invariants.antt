use Rattle.std.proofs.Common.{◌≤◌, ◌+◌, ◌*◌, length}
use Rattle.op_serving.specs.Losses.{last_count}
use Rattle.op_serving.specs.Pump.{turn}
use Rattle.op_serving.specs.Counts.{most_inputs}
use Rattle.op_pump.specs.Counts.{most_in_turn}
use Rattle.op_pump.specs.Moments.{moment, TurnGoes, IsIdleAt, set_of}
use Rattle.op_pump.proofs.pump.Pump.take_turns.Given as goal

abbrev pub invariant-turns : goal.invariant-turns
invariant-turns g l = record {
  idle : IsIdleAt l.self.driver.loop.place.turn l.self.driver.loop.place.at l.self.driver.loop;
  turns : l.self.driver.loop.place.turn + l.self.timer.left ≤ last_count;
  goes : TurnGoes g.K.Core.stores (set_of l.settings) g.K.Core.line (moment turn l.fn.self.timer l.fn.self.driver) (moment turn l.self.timer l.self.driver)
      (g.N.Net.told l.fn.net, g.N.Net.fault_count l.fn.net) (g.N.Net.told l.net, g.N.Net.fault_count l.net) (g.C.Clock.answers l.fn.clock)
      (g.C.Clock.answers l.clock);
  most : most_inputs l.self.driver.loop + l.self.timer.left * most_in_turn (length l.settings.peers) ≤ most_inputs l.fn.self.driver.loop + l.fn.self.timer.left
      * most_in_turn (length l.settings.peers);
}

abbrev pub decreases-turns : goal.decreases-turns
decreases-turns g l = l.self.timer.left
