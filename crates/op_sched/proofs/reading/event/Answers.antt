use Rattle.op_sched.proofs.EventWords.{line_adds}
use Rattle.op_sched.proofs.reading.event.Goals as goal

pub returns : goal.returns
returns c = line_adds c.args.is_mirrored c.args.next.now.line.now _ _ _ _ c.split_words-count.ensures.split c.add_event.result c.add_event.ensures
