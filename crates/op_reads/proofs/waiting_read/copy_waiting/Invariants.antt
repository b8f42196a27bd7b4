use Rattle.std.proofs.Common.{◌≡◌, take}
use Rattle.op_reads.proofs.waiting_read.copy_waiting.Given as goal

abbrev pub invariant-loop-read : goal.invariant-loop-read
invariant-loop-read l = l.copies.items ≡ take l.read-index l.waiting
