use Rattle.std.proofs.lemmas.Result.{IfOk-weaker}
use Rattle.op_replay_nodes.proofs.became.closed_again.Goals as goal

pub returns : goal.returns
returns g c =
    IfOk-weaker c.down_again.result _ _
    (λ r left. (
      left.0,
      left.1,
      record {
        shown_is = left.2.shown_is;
        first_left = λ x k. c.in-Ok.ensures x (left.2.first_left x k);
        second_left = λ x k. c.in-Ok-close.ensures x (left.2.second_left x k);
      },
      left.3,
    ))
    c.down_again.ensures
