use Rattle.std.proofs.Common.{ℕ, length}
use Rattle.op_client.specs.Rules.{at, write}
use Rattle.op_client.specs.Run.{Ran}
use Rattle.op_client.proofs.client.Client.write_left.Given as goal

abbrev pub invariant-left : goal.invariant-left
invariant-left g l = (k : ℕ) → Ran l.conn (at write k l.fn.self) (at write k l.self) (g.N.Net.told l.fn.net, g.N.Net.fault_count l.fn.net) (g.N.Net.told l.net, g.N.Net.fault_count l.net)

abbrev pub decreases-left : goal.decreases-left
decreases-left g l = length l.self.left
