use Rattle.std.proofs.Common.{drop}
use Rattle.op_command.specs.Replies.{said_of as denied}
use Rattle.op_serving.specs.State.{Loop}
use Rattle.op_serving.specs.Losses.{settled, Does}
use Rattle.op_serving.specs.Handing.{said_each, told_all}
use Rattle.op_queues.proofs.sessions.Sessions.deny_all.Given as goal

abbrev pub invariant-loop-conn : goal.invariant-loop-conn
invariant-loop-conn l =
    (t : Loop) → Does (λ marks s. settled marks (told_all (said_each (drop l.conn-index l.keys) (denied l.why)) s)) l.self t
    → Does (λ marks s. settled marks (told_all (said_each l.keys (denied l.why)) s)) l.fn.self t
