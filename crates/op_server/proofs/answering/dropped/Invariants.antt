use Rattle.std.proofs.Common.{◌≡◌, map, take}
use Rattle.op_protocol.specs.Reading.{dropped_read}
use Rattle.op_server.proofs.answering.dropped.Given as goal

abbrev pub invariant-loop-read : goal.invariant-loop-read
invariant-loop-read l = l.replies ≡ map (dropped_read l.cause) (take l.read-index l.asked)
