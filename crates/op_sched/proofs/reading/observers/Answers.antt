use Rattle.op_sched.proofs.Spares.{observer_line}
use Rattle.op_sched.proofs.reading.observers.Goals as goal

pub returns : goal.returns
returns c = observer_line c.args.members.now c.args.spares.now c.args.line.now _ c.split_words-count.ensures.split c.observers.result c.observers.ensures
