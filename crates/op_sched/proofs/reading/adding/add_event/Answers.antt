use Rattle.op_sched.proofs.EventWords.{no_event}
use Rattle.op_sched.proofs.reading.adding.add_event.Goals as goal

pub returns-in-None : goal.returns-in-None
returns-in-None c = rw c.in-Some.ensures.cases.0 (λ w h. no_event _ _ (rw c.in-None.is at c.form_of.ensures) w h.0)
