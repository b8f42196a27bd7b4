use Rattle.std.proofs.Common.{◌≡◌, drop}
use Rattle.std.specs.Prelude.{is_some}
use Rattle.op_types.specs.Stages.{whole_bytes}
use Rattle.op_types.proofs.pieces.are_there.Given as goal

abbrev pub invariant-loop-byte : goal.invariant-loop-byte
invariant-loop-byte l = is_some (whole_bytes (drop l.byte-index l.places)) ≡ is_some (whole_bytes l.places)
