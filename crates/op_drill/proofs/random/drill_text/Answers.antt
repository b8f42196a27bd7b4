use Rattle.std.proofs.lemmas.Result.{IfOk-weaker}
use Rattle.op_drill.proofs.random.drill_text.Goals as goal

pub returns : goal.returns
returns c = IfOk-weaker c.summary_text.result _ _ (λ r h. record { summary = c.in_ok-summary.summary; report = c.in_ok-summary.ensures; written = h }) c.summary_text.ensures
