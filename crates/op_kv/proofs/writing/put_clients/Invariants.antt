use Rattle.std.proofs.Common.{◌≡◌, ◌++◌, map}
use Rattle.std.specs.List.{flat_map}
use Rattle.std.specs.Map.Iter.{deref_pair}
use Rattle.op_spec.specs.Service.{client_bytes}
use Rattle.op_kv.proofs.writing.put_clients.Given as goal

abbrev pub invariant-clients : goal.invariant-clients
invariant-clients l = l.out.items ++ flat_map client_bytes (map deref_pair l.client-iterator) ≡ l.initial.out.items ++ flat_map client_bytes (map deref_pair l.clients.entries)
