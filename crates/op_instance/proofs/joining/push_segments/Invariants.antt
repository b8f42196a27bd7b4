use Rattle.std.proofs.Common.{◌≡◌, ◌+◌, ◌++◌, length}
use Rattle.op_protocol.specs.Joining.{segment_bodies}
use Rattle.op_protocol.specs.Parts.{messages}
use Rattle.op_instance.proofs.joining.push_segments.Given as goal

abbrev pub invariant-loop-run : goal.invariant-loop-run
invariant-loop-run l = record {
  sent : l.sends ++ messages l.conf l.to (segment_bodies l.at l.rest) ≡ l.fn.sends ++ messages l.conf l.to (segment_bodies l.start l.entries);
  place : l.at + length l.rest ≡ l.start + length l.entries;
}

abbrev pub decreases-loop-run : goal.decreases-loop-run
decreases-loop-run l = length l.rest
