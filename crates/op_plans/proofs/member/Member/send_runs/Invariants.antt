use Rattle.std.proofs.Common.{◌≡◌, ◌+◌, ◌++◌, length}
use Rattle.op_types.specs.Cutting.{cut, parts_from}
use Rattle.op_protocol.specs.Parts.{messages}
use Rattle.op_plans.specs.Heads.{part_of}
use Rattle.op_plans.proofs.member.Member.send_runs.Given as goal

abbrev pub invariant-loop-run : goal.invariant-loop-run
invariant-loop-run l = record {
  sent : l.sends ++ messages l.self.part.now.conf l.to (parts_from (part_of l.head) l.at (cut l.rest))
      ≡ l.fn.sends ++ messages l.self.part.now.conf l.to (parts_from (part_of l.head) l.start (cut l.entries));
  place : l.at + length l.rest ≡ l.start + length l.entries;
}

abbrev pub decreases-loop-run : goal.decreases-loop-run
decreases-loop-run l = length l.rest
