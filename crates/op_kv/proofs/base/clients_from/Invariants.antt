use Rattle.std.proofs.Common.{◌≡◌, ◌-◌, []}
use Rattle.std.specs.Ordering.{nat_cmp}
use Rattle.op_overlay.specs.Entries.{entries_over}
use Rattle.op_kv.specs.Rising.{rising_read}
use Rattle.op_kv.specs.Bases.{client_above, rising_clients}
use Rattle.op_kv.proofs.RisingSteps.{made_of}
use Rattle.op_kv.proofs.base.clients_from.Given as goal

abbrev pub invariant-clients : goal.invariant-clients
invariant-clients l =
    made_of (entries_over nat_cmp l.clients.entries) (rising_read client_above (λ c. c.0) (l.count - l.counter) l.low l.bytes l.at)
    ≡ made_of (entries_over nat_cmp []) (rising_clients.read l.bytes l.first)
