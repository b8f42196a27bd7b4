use Rattle.std.proofs.Common.{◌≡◌, ◌++◌, drop}
use Rattle.std.specs.Prelude.{map}
use Rattle.op_reads.specs.Reads.{WaitingRead}
use Rattle.op_reads.proofs.waiting_read.asked_reads.Given as goal

abbrev pub invariant-loop-read : goal.invariant-loop-read
invariant-loop-read l = l.reads ++ map (λ (w : WaitingRead). w.asked) (drop l.read-index l.waiting) ≡ map (λ (w : WaitingRead). w.asked) l.waiting
