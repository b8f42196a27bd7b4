use Rattle.std.proofs.Common.{◌-◌}
use Rattle.op_client.specs.Rules.{most_waits, at, turn}
use Rattle.op_client.specs.Run.{Ran}
use Rattle.op_client.proofs.client.Client.talk.Given as goal

abbrev pub invariant-loop : goal.invariant-loop
invariant-loop g l = Ran l.conn (at turn most_waits l.fn.self) (at turn (most_waits - l.counter) l.self) (g.N.Net.told l.fn.net, g.N.Net.fault_count l.fn.net) (g.N.Net.told l.net, g.N.Net.fault_count l.net)
