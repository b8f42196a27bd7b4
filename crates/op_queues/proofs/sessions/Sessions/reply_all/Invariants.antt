use Rattle.std.specs.Vec.Iter.{into_iter_items}
use Rattle.op_serving.specs.State.{Loop}
use Rattle.op_serving.specs.Losses.{settled, Does}
use Rattle.op_serving.specs.Handing.{replied_all}
use Rattle.op_queues.proofs.sessions.Sessions.reply_all.Given as goal

abbrev pub invariant-loop-decided : goal.invariant-loop-decided
invariant-loop-decided l =
    (t : Loop) → Does (λ marks s. settled marks (replied_all l.read (into_iter_items l.decided-iterator) s)) l.self t → Does
    (λ marks s. settled marks (replied_all l.read l.fn.replies s)) l.fn.self t
