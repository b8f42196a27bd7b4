use Rattle.op_executions.proofs.Servers.{HaveServers}
use Rattle.op_executions.proofs.world.first_servers.Given as goal

abbrev pub invariant-ids : goal.invariant-ids
invariant-ids g l = HaveServers g.S.Server.kind l.members l.observers l.ids l.servers.items l.pid-index
