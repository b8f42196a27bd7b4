use Rattle.std.proofs.Common.{◌≡◌, ℕ}
use Rattle.op_client.specs.Rules.{at, ask}
use Rattle.op_client.specs.Run.{Ran}
use Rattle.op_client.proofs.client.Client.take_happenings.Given as goal

abbrev pub invariant-loop-i : goal.invariant-loop-i
invariant-loop-i g l = record {
  ran : (k : ℕ) → Ran l.conn (at (ask 0 l.happened) k l.fn.self) (at (ask l.i l.happened) k l.self) (g.N.Net.told l.fn.net, g.N.Net.fault_count l.fn.net) (g.N.Net.told l.net, g.N.Net.fault_count l.net);
  given : g.N.Net.given l.net ≡ l.happened;
}
