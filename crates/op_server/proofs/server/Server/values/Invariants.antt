use Rattle.std.proofs.Common.{◌≡◌, map, take}
use Rattle.op_protocol.specs.Reading.{read_reply}
use Rattle.op_chain.specs.Plans.{planned_by}
use Rattle.op_server.proofs.server.Server.values.Given as goal

abbrev pub invariant-loop-read : goal.invariant-loop-read
invariant-loop-read l = l.replies ≡ map (read_reply (planned_by l.self.chain l.plan).service) (take l.read-index l.asked)
