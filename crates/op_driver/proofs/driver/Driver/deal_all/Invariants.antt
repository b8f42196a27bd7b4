use Rattle.std.proofs.Common.{◌≡◌, ◌≤◌, ◌+◌}
use Rattle.op_serving.specs.Counts.{most_inputs}
use Rattle.op_driver.specs.Driver.{Rests}
use Rattle.op_driver.specs.Driver.{Any, Run}
use Rattle.op_driver.proofs.Dealing.{Reached}
use Rattle.op_driver.proofs.driver.Driver.deal_all.Given as goal

abbrev pub invariant-fronts : goal.invariant-fronts
invariant-fronts g l = record {
  few : l.frames + l.left ≤ l.most;
  rests : Rests l.fn.self.loop l.self.loop;
  frames : l.self.loop.place.frames ≡ l.frames;
  most : most_inputs l.self.loop ≤ most_inputs l.fn.self.loop;
  reached : Run g.K.Core.stores Any Any (Reached g.K.Core.line l.conn l.most l.left l.frames) l.fn.self l.self;
}

abbrev pub decreases-fronts : goal.decreases-fronts
decreases-fronts g l = l.left
