use Rattle.std.proofs.Common.{length}
use Rattle.op_text.proofs.DecodedBytes.{IsReadTo}
use Rattle.op_text.proofs.decoding.all_bytes.Given as goal

abbrev pub invariant-loop-rest : goal.invariant-loop-rest
invariant-loop-rest l = IsReadTo l.bytes.items l.rest l.word

abbrev pub decreases-loop-rest : goal.decreases-loop-rest
decreases-loop-rest l = length l.rest
