use Rattle.std.proofs.Common.{◌≡◌, map, take}
use Rattle.op_replay.proofs.running.lines_of.Given as goal

abbrev pub invariant-loop-event : goal.invariant-loop-event
invariant-loop-event l = l.lines.items ≡ map (λ e. e.line) (take l.event-index l.events)
