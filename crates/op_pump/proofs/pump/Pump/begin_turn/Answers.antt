use Rattle.std.proofs.Common.{rules, refl, Some, None, ◌-◌, arith, ap}
use Rattle.op_outside.proofs.Seen.{went_wrong}
use Rattle.op_serving.specs.Counts.{most_inputs}
use Rattle.op_serving.specs.Pump.{was_waited}
use Rattle.op_driver.specs.Driver.{Served}
use Rattle.op_queues.proofs.Counting.{most_turn}
use Rattle.op_pump.proofs.Steps.{turn_goes}
use Rattle.op_pump.proofs.pump.Pump.begin_turn.Goals as goal

pub returns-in-Ok-clause-goes : goal.returns-in-Ok-clause-goes
returns-in-Ok-clause-goes g c o =
    let t = c.args.self.now.timer in
    turn_goes (was_waited (Some c.in-Ok.happened)) {v = record t { left = t.left - 1 }} refl c.requires.left c.requires.ending
    (omega (arith, c.requires.left, c.requires.turns)) c.requires.idle.idle c.begin_turn.ensures (search rules) (search rules) (λ l before. refl)
    (search rules) (search rules)

pub returns-in-Err-clause-goes : goal.returns-in-Err-clause-goes
returns-in-Err-clause-goes g c o =
    turn_goes (was_waited None) {v = c.args.self.now.timer} refl c.requires.left c.requires.ending (omega (arith, c.requires.left, c.requires.turns))
    c.requires.idle.idle c.begin_turn.ensures refl tt (λ l before. refl) (search rules) (went_wrong _ _ c.wait.result (search rules) c.wait.ensures.cause)

pub returns-in-Ok-clause-most : goal.returns-in-Ok-clause-most
returns-in-Ok-clause-most g c = omega (arith, ap (λ (x : Served _). most_inputs x.loop) c.begin_turn.ensures, most_turn c.args.self.now.driver.loop)

pub returns-in-Err-clause-most : goal.returns-in-Err-clause-most
returns-in-Err-clause-most g c = omega (arith, ap (λ (x : Served _). most_inputs x.loop) c.begin_turn.ensures, most_turn c.args.self.now.driver.loop)
