use Rattle.std.specs.Vec.Iter.{into_iter_items}
use Rattle.op_serving.specs.State.{Loop}
use Rattle.op_serving.specs.Losses.{settled, Does}
use Rattle.op_serving.specs.Handing.{sent_all}
use Rattle.op_queues.proofs.sessions.Sessions.send_all.Given as goal

abbrev pub invariant-loop-message : goal.invariant-loop-message
invariant-loop-message l =
    (t : Loop) → Does (λ marks s. settled marks (sent_all (into_iter_items l.message-iterator) s)) l.self t → Does
    (λ marks s. settled marks (sent_all l.fn.sends s)) l.fn.self t
