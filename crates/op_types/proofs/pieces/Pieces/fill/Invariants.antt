use Rattle.std.proofs.Common.{◌≡◌, take}
use Rattle.op_types.specs.Stages.{bytes_with_at}
use Rattle.op_types.proofs.pieces.Pieces.fill.Given as goal

abbrev pub invariant-loop-i : goal.invariant-loop-i
invariant-loop-i l = record {
  at : l.self-inside.at ≡ l.fn.self.at;
  bytes : l.self-inside.bytes.items ≡ bytes_with_at l.fn.self.bytes l.from (take l.i l.bytes);
}
