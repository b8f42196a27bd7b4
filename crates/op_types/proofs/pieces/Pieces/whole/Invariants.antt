use Rattle.std.proofs.Common.{◌≡◌, drop}
use Rattle.op_types.specs.Stages.{whole_bytes}
use Rattle.op_types.proofs.Pieced.{behind}
use Rattle.op_types.proofs.pieces.Pieces.whole.Given as goal

abbrev pub invariant-loop-byte : goal.invariant-loop-byte
invariant-loop-byte l = whole_bytes l.self.bytes ≡ behind l.bytes.items (whole_bytes (drop l.byte-index l.byte-items))
