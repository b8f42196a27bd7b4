use Rattle.std.proofs.Common.{subst, sym, ap, arith}
use Rattle.op_driver.specs.Driver.{Served, IsDrained}
use Rattle.op_driver.specs.Driver as whole
use Rattle.op_driver.proofs.Dealing.{reads_all, reads_none, drained_fed}
use Rattle.op_serving.specs.Counts.{most_inputs}
use Rattle.op_queues.proofs.Counting.{most_feeds}
use Rattle.op_driver.proofs.driver.Driver.read.Goals as goal

pub returns-in-Ok-clause-acts : goal.returns-in-Ok-clause-acts
returns-in-Ok-clause-acts g c = reads_all c.in-Ok.ensures.ok c.in-Ok.ensures.held c.deal_all.ensures.deals

pub returns-in-Err-clause-acts : goal.returns-in-Err-clause-acts
returns-in-Err-clause-acts g c =
    reads_none g.K.Core.line c.args.conn c.args.bytes.now c.args.self.now c.lose.new.self (subst (λ (d : Served _). whole.Loses g.K.Core.stores c.args.conn d c.lose.new.self) c.in-Err.ensures.err c.lose.ensures.loses)

pub returns-in-Ok-clause-most : goal.returns-in-Ok-clause-most
returns-in-Ok-clause-most g c = omega (arith, c.deal_all.ensures.most, ap (λ (x : Served _). most_inputs x.loop) c.in-Ok.ensures.ok, most_feeds c.args.conn c.args.bytes.now c.args.self.now.loop)

pub deal_all-requires-clause-none : goal.deal_all-requires-clause-none
deal_all-requires-clause-none g c = subst (λ (d : Served _). IsDrained d.loop) (sym c.in-Ok.ensures.ok) (drained_fed c.args.conn c.args.bytes.now c.args.self.now.loop c.requires.none)
