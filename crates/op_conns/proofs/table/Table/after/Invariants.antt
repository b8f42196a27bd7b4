use Rattle.std.proofs.Common.{◌≡◌, ◌+◌}
use Rattle.op_conns.specs.Tables.{next_waiting}
use Rattle.op_conns.proofs.Waiting.{first_waiting}
use Rattle.op_conns.proofs.table.Table.after.Given as goal

abbrev pub invariant-loop-later : goal.invariant-loop-later
invariant-loop-later l = first_waiting l.self l.later-iterator ≡ next_waiting (l.conn + 1) l.self
