use Rattle.std.proofs.Common.{ap, sym, subst, arith}
use Rattle.op_serving.specs.State.{Loop}
use Rattle.op_serving.specs.Losses.{size, Stays}
use Rattle.op_serving.specs.Counts.{most_inputs}
use Rattle.op_driver.specs.Driver.{Served, IsShed}
use Rattle.op_queues.proofs.Shedding.{sheds, size_shed, thin_shed}
use Rattle.op_driver.proofs.Draining.{drained_shed}
use Rattle.op_driver.proofs.driver.Driver.shed.Goals as goal

pub returns-clause-drained : goal.returns-clause-drained
returns-clause-drained g c = drained_shed c.args.self.now c.shed_all.new.self c.shed_all.ensures.is c.shed_all.ensures.up

pub returns-clause-stays : goal.returns-clause-stays
returns-clause-stays g c =
    let s : Loop = c.args.self.now.loop in
    subst (λ (t : Loop). Stays s t) (sym (ap (λ (x : Served _). x.loop) c.shed_all.ensures.is)) (sheds s c.shed_all.ensures.up).stays

pub returns-clause-shed : goal.returns-clause-shed
returns-clause-shed g c =
    let s : Loop = c.args.self.now.loop in
    subst (λ (t : Loop). IsShed t) (sym (ap (λ (x : Served _). x.loop) c.shed_all.ensures.is)) (λ n. thin_shed n s)

pub returns-clause-ends : goal.returns-clause-ends
returns-clause-ends g c = omega (arith, size_shed c.args.self.now.loop, ap (λ (x : Served _). size x.loop) c.shed_all.ensures.is)

pub returns-clause-most : goal.returns-clause-most
returns-clause-most g c = omega (arith, (sheds c.args.self.now.loop c.shed_all.ensures.up).most, ap (λ (x : Served _). most_inputs x.loop) c.shed_all.ensures.is)
