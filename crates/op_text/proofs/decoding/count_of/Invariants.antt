use Rattle.std.proofs.Common.{◌≡◌, ◌+◌, ◌≤◌, ℕ, List, length}
use Rattle.op_text.proofs.DecodedBytes.{IsReadTo}
use Rattle.op_text.proofs.decoding.count_of.Given as goal

abbrev pub invariant-loop-rest : goal.invariant-loop-rest
invariant-loop-rest l = record {
  read : (bytes : List ℕ) × IsReadTo bytes l.rest l.word × (length bytes ≡ l.count);
  fits : l.count + length l.rest ≤ length l.word;
}

abbrev pub decreases-loop-rest : goal.decreases-loop-rest
decreases-loop-rest l = length l.rest
