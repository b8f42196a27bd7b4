use Rattle.std.proofs.Common.{◌≡◌, ◌+◌, ◌≤◌, length, vec_len, vec_capacity, All}
use Rattle.op_serving.specs.Ranges.{InputInRange}
use Rattle.op_core.specs.Groups.{ToldInRange}
use Rattle.op_core.specs.NodeCores.{IsServable}
use Rattle.op_core.proofs.Came.{SoFar}
use Rattle.op_core.proofs.node_core.NodeCoreCore.step_all.Given as goal

abbrev pub invariant-groups : goal.invariant-groups
invariant-groups g l = record {
  came : SoFar g.D.Disk.state l.fn.self l.fn.inputs.items l.inputs.items l.results.items l.self;
  ready : IsServable l.self.node;
  range : All InputInRange l.inputs.items;
  given : All ToldInRange l.results.items;
  room : vec_len l.results + length l.inputs.items ≤ vec_capacity l.results;
  capacity : vec_capacity l.results ≡ vec_capacity l.fn.results;
}

abbrev pub decreases-groups : goal.decreases-groups
decreases-groups g l = length l.inputs.items
