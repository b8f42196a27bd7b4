use Rattle.std.proofs.Common.{rules, subst, ◌∙◌, ◌+◌, ap, arith}
use Rattle.op_serving.specs.Counts.{most_inputs}
use Rattle.op_driver.specs.Driver.{Acts, Served}
use Rattle.op_queues.proofs.Counting.{most_at}
use Rattle.op_pump.specs.Moments.{happened}
use Rattle.op_pump.proofs.Going.{on_from}
use Rattle.op_pump.proofs.Steps.{happened_so, then_read}
use Rattle.op_pump.proofs.pump.Pump.take_happening.Goals as goal

pub returns-in-Some-clause-goes : goal.returns-in-Some-clause-goes
returns-in-Some-clause-goes g c o k less =
    let h = c.ready-happening.ensures in
    then_read c.ready-happening.result less c.requires.idle.at (search rules) c.requires.idle.idle h.tells h.count
    (on_from c.begin_happening.ensures (c.read_from.ensures.on o c.args.i k))

pub returns-in-None-clause-goes : goal.returns-in-None-clause-goes
returns-in-None-clause-goes g c o k less =
    let h = c.ready-happening.ensures in
    let acts = subst (λ x. Acts g.K.Core.stores (λ l s. happened l c.ready-happening.result s) x c.happen.new.self.driver) c.begin_happening.ensures
    c.happen.ensures.acts in
    happened_so c.ready-happening.result less c.requires.idle.at (search rules) acts (c.settle.ensures.timer ∙ c.happen.ensures.timer) h.tells h.count
    c.settle.ensures.settles

pub returns-in-Some-clause-most : goal.returns-in-Some-clause-most
returns-in-Some-clause-most g c =
    omega (
      arith,
      c.read_from.ensures.most,
      ap (λ (x : Served _). most_inputs x.loop) c.begin_happening.ensures,
      most_at (c.args.i + 1)
          c.args.self.now.driver.loop,
    )

pub returns-in-None-clause-most : goal.returns-in-None-clause-most
returns-in-None-clause-most g c =
    omega (
      arith,
      c.settle.ensures.most,
      c.happen.ensures.most,
      ap (λ (x : Served _). most_inputs x.loop) c.begin_happening.ensures,
      most_at (c.args.i + 1)
          c.args.self.now.driver.loop,
    )
