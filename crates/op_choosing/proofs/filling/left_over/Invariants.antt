use Rattle.std.proofs.Common.{◌≡◌, ◌≤◌, ◌++◌, drop}
use Rattle.op_types.specs.Limits.{positions_end}
use Rattle.op_protocol.specs.Promises.{left_over}
use Rattle.op_choosing.proofs.filling.left_over.Given as goal

abbrev pub invariant-loop-buffered : goal.invariant-loop-buffered
invariant-loop-buffered l = (l.end ≤ positions_end) × (l.replies ++ left_over l.stop l.end (drop l.buffered-index l.buffer) ≡ left_over l.initial.stop l.len l.buffer)
