use Rattle.std.proofs.Common.{◌≡◌, ◌≤◌, List, length, map}
use Rattle.op_types.specs.Limits.{most_writes}
use Rattle.op_types.specs.declared.writes.Write.{Write}
use Rattle.op_text.proofs.WriteWords.{AreReadTo}
use Rattle.op_text.proofs.writes.are_writes.Given as goal

abbrev pub invariant-loop-first : goal.invariant-loop-first
invariant-loop-first g l = record {
  few : l.count ≤ most_writes;
  read : (ws : List Write) × AreReadTo ws (map g.W.AsSlice.items l.rest) (map g.W.AsSlice.items l.words) × (length ws ≡ l.count);
}

abbrev pub decreases-loop-first : goal.decreases-loop-first
decreases-loop-first g l = length l.rest
