use Rattle.op_sched.proofs.Spares.{header_line}
use Rattle.op_sched.proofs.reading.members.Goals as goal

pub returns : goal.returns
returns c = header_line c.args.line.now _ c.split_words-count.ensures.split c.members.result c.members.ensures
