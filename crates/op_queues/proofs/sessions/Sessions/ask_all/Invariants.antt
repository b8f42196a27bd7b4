use Rattle.std.proofs.Common.{drop, false}
use Rattle.op_serving.specs.State.{Loop}
use Rattle.op_serving.specs.Losses.{settled, Does}
use Rattle.op_serving.specs.Handing.{asked}
use Rattle.op_queues.proofs.sessions.Sessions.ask_all.Given as goal

abbrev pub invariant-loop-conn : goal.invariant-loop-conn
invariant-loop-conn l =
    (t : Loop) → Does (λ marks s. settled marks (asked false (drop l.conn-index l.keys) s)) l.self t → Does
    (λ marks s. settled marks (asked false l.keys s)) l.fn.self t
