use Rattle.std.proofs.Common.{◌≡◌, ◌+◌, ◌≤◌, ◌++◌, drop, length, None}
use Rattle.op_types.specs.Limits.{positions_end}
use Rattle.op_protocol.specs.Promises.{fitting}
use Rattle.op_choosing.proofs.filling.fitting.Given as goal

abbrev pub invariant-loop-buffered : goal.invariant-loop-buffered
invariant-loop-buffered l = (l.end ≡ l.len + length l.fitted) × (l.end ≤ positions_end) × (l.fitted ++ fitting None l.end (drop l.buffered-index l.buffer) ≡ fitting None l.len l.buffer)
