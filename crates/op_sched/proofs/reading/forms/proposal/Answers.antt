use Rattle.op_sched.proofs.EventWords.{only_commands}
use Rattle.op_sched.proofs.reading.forms.proposal.Goals as goal

pub returns-in-None : goal.returns-in-None
returns-in-None c = only_commands c.args.form _ (rw c.in-None.is at c.in_ok-id.ensures)
