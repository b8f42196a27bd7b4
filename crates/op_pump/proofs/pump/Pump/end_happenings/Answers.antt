use Rattle.std.proofs.Common.{subst, ◌∙◌, ap, arith}
use Rattle.op_serving.specs.Counts.{most_inputs}
use Rattle.op_serving.specs.Inputs.{flushed}
use Rattle.op_serving.specs.Pump.{writes_place}
use Rattle.op_driver.specs.Driver.{Does, Served}
use Rattle.op_queues.proofs.Counting.{most_at}
use Rattle.op_pump.proofs.Going.{on_ok, idle_at}
use Rattle.op_pump.proofs.Steps.{happenings_end, frames_moved}
use Rattle.op_pump.proofs.pump.Pump.end_happenings.Goals as goal

pub returns-clause-goes : goal.returns-clause-goes
returns-clause-goes g c o k =
    let does = subst (λ x. Does g.K.Core.stores (λ l s. flushed l s) x c.flush.new.self) c.begin_happening.ensures c.flush.ensures.does in
    happenings_end c.requires.at does c.settle.ensures.timer c.settle.ensures.settles

pub returns-clause-idle : goal.returns-clause-idle
returns-clause-idle g c =
    let moved = frames_moved writes_place c.args.self.now.driver c.begin_happening.ensures in
    on_ok c.settle.result (idle_at (c.flush.ensures.rests.turn ∙ moved.2) (c.flush.ensures.rests.at ∙ moved.0)) c.settle.ensures.idle

pub returns-clause-most : goal.returns-clause-most
returns-clause-most g c =
    omega (
      arith,
      c.settle.ensures.most,
      c.flush.ensures.most,
      ap (λ (x : Served _). most_inputs x.loop) c.begin_happening.ensures,
      most_at writes_place
          c.args.self.now.driver.loop,
    )
