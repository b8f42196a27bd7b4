use Rattle.std.proofs.Common.{◌≡◌, ◌+◌, ◌≤◌, length}
use Rattle.op_sched.specs.Grammar.{lines_of, numbered_lines}
use Rattle.op_sched.proofs.reading.lines.next_numbered.Given as goal

abbrev pub invariant-loop-line : goal.invariant-loop-line
invariant-loop-line l = record {
  left : numbered_lines l.at l.rest ≡ numbered_lines l.number l.text;
  count : l.at + length (lines_of l.rest) ≡ l.number + length (lines_of l.text);
  shorter : length l.rest ≤ length l.text;
  fits : l.at + length l.rest ≤ l.number + length l.text;
}

abbrev pub decreases-loop-line : goal.decreases-loop-line
decreases-loop-line l = length l.rest
