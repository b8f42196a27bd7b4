use Rattle.op_sched.proofs.EventWords.{only_commands}
use Rattle.op_sched.proofs.reading.adding.add_command.Goals as goal

pub returns-in_default : goal.returns-in_default
returns-in_default c = only_commands c.args.form _ (rw c.in_default.is at c.in_ok-id.ensures)
