use Rattle.std.proofs.Common.{◌+◌, ◌≤◌, ℕ, List, ◌++◌, length}
use Rattle.op_runs.specs.declared.events.Event.{Event}
use Rattle.op_sched.specs.Grammar.{numbered_lines, AreEvents, IsFirstBadEvent}
use Rattle.op_sched.proofs.reading.events.Given as goal

abbrev pub invariant-loop-next : goal.invariant-loop-next
invariant-loop-next l = record {
  good : (more : List Event) → AreEvents l.is_mirrored (numbered_lines l.at l.rest) more → AreEvents l.is_mirrored (numbered_lines l.number l.text) (l.events.items ++ more);
  bad : (n : ℕ) → IsFirstBadEvent l.is_mirrored (numbered_lines l.at l.rest) n → IsFirstBadEvent l.is_mirrored (numbered_lines l.number l.text) n;
  fits : l.at + length l.rest ≤ l.number + length l.text;
}

abbrev pub decreases-loop-next : goal.decreases-loop-next
decreases-loop-next l = length l.rest
