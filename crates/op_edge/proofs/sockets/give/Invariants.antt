use Rattle.std.proofs.Common.{◌≤◌, vec_len}
use Rattle.op_outside.specs.Nets.{most_happenings}
use Rattle.op_edge.proofs.sockets.give.Given as goal

abbrev pub invariant-peers : goal.invariant-peers
invariant-peers l = vec_len l.given ≤ most_happenings
