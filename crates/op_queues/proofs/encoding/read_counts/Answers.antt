use Rattle.std.proofs.Common.{arith}
use Rattle.op_queues.proofs.encoding.read_counts.Goals as goal

pub returns-in-BasePiece : goal.returns-in-BasePiece
returns-in-BasePiece c = rw c.in-BasePiece.is (record { total = omega arith; from = omega arith })
