use Rattle.std.proofs.Common.{length, map}
use Rattle.op_text.proofs.WriteWords.{AreReadTo}
use Rattle.op_text.proofs.writes.many_operation.Given as goal

abbrev pub invariant-loop-first : goal.invariant-loop-first
invariant-loop-first g l = AreReadTo l.writes.items (map g.W.AsSlice.items l.rest) (map g.W.AsSlice.items l.words)

abbrev pub decreases-loop-first : goal.decreases-loop-first
decreases-loop-first g l = length l.rest
