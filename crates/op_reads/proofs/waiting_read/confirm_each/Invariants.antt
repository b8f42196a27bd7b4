use Rattle.std.proofs.Common.{◌≡◌, ◌++◌, take, drop}
use Rattle.std.specs.Prelude.{map}
use Rattle.op_reads.specs.Reads.{confirming}
use Rattle.op_reads.proofs.waiting_read.confirm_each.Given as goal

abbrev pub invariant-loop-read : goal.invariant-loop-read
invariant-loop-read l = take l.read-index l.waiting ++ map (confirming l.number l.from) (drop l.read-index l.waiting) ≡ map (confirming l.number l.from) l.initial.waiting
