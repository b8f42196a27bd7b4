use Rattle.std.proofs.Common.{◌≡◌, ◌-◌}
use Rattle.op_kv.specs.Rising.{rising_read}
use Rattle.op_kv.specs.Bases.{client_above, rising_clients}
use Rattle.op_kv.specs.Looked.{end_of}
use Rattle.op_kv.proofs.base.clients_end.Given as goal

abbrev pub invariant-clients : goal.invariant-clients
invariant-clients l = end_of (rising_read client_above (λ c. c.0) (l.count - l.counter) l.low l.bytes l.at) ≡ end_of (rising_clients.read l.bytes l.first)
