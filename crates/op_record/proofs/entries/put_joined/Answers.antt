use Rattle.op_types.specs.Ranges.{EntryInRange}
use Rattle.op_record.proofs.Appending.{all_behind}
use Rattle.op_record.proofs.entries.put_joined.Goals as goal

pub put_each-requires-2 : goal.put_each-requires-2
put_each-requires-2 c = all_behind EntryInRange c.args.first.now c.args.second.now c.requires.each
