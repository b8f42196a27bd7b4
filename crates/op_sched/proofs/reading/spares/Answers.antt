use Rattle.op_sched.proofs.Spares.{spare_line}
use Rattle.op_sched.proofs.reading.spares.Goals as goal

pub returns : goal.returns
returns c = spare_line c.args.members.now c.args.line.now _ c.split_words-count.ensures.split c.spares.result c.spares.ensures
