use Rattle.std.proofs.Common.{arith}
use Rattle.op_msg.proofs.forwards.put_forwards.Goals as goal

pub put_entries-requires : goal.put_entries-requires
put_entries-requires c = record { few = omega (arith, c.requires.few); each = λ k e at. (c.requires.each k e at).0 }
