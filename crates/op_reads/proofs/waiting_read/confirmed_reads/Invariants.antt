use Rattle.std.proofs.Common.{◌≡◌, ◌++◌, drop}
use Rattle.std.specs.Prelude.{map}
use Rattle.std.specs.List.{filter}
use Rattle.op_reads.specs.Reads.{WaitingRead, is_confirmed}
use Rattle.op_reads.proofs.waiting_read.confirmed_reads.Given as goal

abbrev pub invariant-loop-read : goal.invariant-loop-read
invariant-loop-read l = l.reads ++ map (λ (w : WaitingRead). w.asked) (filter (is_confirmed l.members) (drop l.read-index l.waiting)) ≡ map (λ (w : WaitingRead). w.asked) (filter (is_confirmed l.members) l.waiting)
