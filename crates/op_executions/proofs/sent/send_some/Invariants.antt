use Rattle.std.proofs.Common.{◌≡◌, ◌++◌}
use Rattle.std.specs.Vec.Iter.{into_iter_items}
use Rattle.op_runs.specs.World.{sent_by}
use Rattle.op_executions.proofs.sent.send_some.Given as goal

abbrev pub invariant-sends : goal.invariant-sends
invariant-sends l = l.messages.items ++ sent_by l.from (into_iter_items l.to-iterator) ≡ l.initial.messages.items ++ sent_by l.from l.fn.sends
