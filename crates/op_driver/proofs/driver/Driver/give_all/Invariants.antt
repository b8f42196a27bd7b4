use Rattle.std.proofs.Common.{◌≤◌, ◌+◌, length}
use Rattle.op_serving.specs.Counts.{most_inputs}
use Rattle.op_driver.proofs.Grouping.{Gone}
use Rattle.op_driver.proofs.driver.Driver.give_all.Given as goal

abbrev pub invariant-groups : goal.invariant-groups
invariant-groups g l = record {
  gone : Gone g.K.Core.stores l.fn.ungiven l.ungiven l.fn.self l.self;
  most : most_inputs l.self.loop + length l.ungiven.inputs ≤ most_inputs l.fn.self.loop + length l.fn.ungiven.inputs;
}

abbrev pub decreases-groups : goal.decreases-groups
decreases-groups g l = length l.ungiven.inputs
