use Rattle.std.proofs.Common.{◌≡◌}
use Rattle.op_conns.specs.Tables.{next_waiting}
use Rattle.op_conns.proofs.Waiting.{first_waiting}
use Rattle.op_conns.proofs.table.Table.next.Given as goal

abbrev pub invariant-loop-conn : goal.invariant-loop-conn
invariant-loop-conn l = first_waiting l.self l.conn-iterator ≡ next_waiting l.low l.self
