use Rattle.std.proofs.Common.{◌∙◌, ap, arith}
use Rattle.op_queues.proofs.Settling.{stays_same, stays_then, lost_place}
use Rattle.op_driver.specs.Driver.{Served}
use Rattle.op_driver.proofs.Draining.{loses}
use Rattle.op_serving.specs.Counts.{most_inputs}
use Rattle.op_queues.proofs.Counting.{most_lost}
use Rattle.op_driver.proofs.driver.Driver.lose.Goals as goal

pub returns-clause-loses : goal.returns-clause-loses
returns-clause-loses g c =
    let is = c.note_loss.ensures.lost in
    loses c.args.conn c.args.self.now c.note_loss.new.self c.drain.new.self c.requires c.note_loss.ensures.few is c.drain.ensures.drained
    (stays_then (stays_same (ap (λ (x : Served _). x.loop.place) is ∙ lost_place c.args.conn c.args.self.now.loop)) c.drain.ensures.stays) c.drain.ensures.none

pub returns-clause-most : goal.returns-clause-most
returns-clause-most g c = omega (arith, c.drain.ensures.most, ap (λ (x : Served _). most_inputs x.loop) c.note_loss.ensures.lost, most_lost c.args.conn c.args.self.now.loop)
