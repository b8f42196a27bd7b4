use Rattle.std.proofs.Common.{◌≤◌, vec_len}
use Rattle.op_outside.specs.Nets.{most_happenings}
use Rattle.op_edge.proofs.sockets.Sockets.accept.Given as goal

abbrev pub invariant-accepted : goal.invariant-accepted
invariant-accepted g l = vec_len l.given ≤ most_happenings
