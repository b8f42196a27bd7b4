use Rattle.std.proofs.Common.{subst}
use Rattle.op_types.specs.Rooms.{no_needs, with_room}
use Rattle.op_record.specs.Ranges.{DurableInRange}
use Rattle.op_record.proofs.Appending.{appended}
use Rattle.op_record.proofs.body.put_whole_behind.Goals as goal

pub put_whole_parts-requires : goal.put_whole_parts-requires
put_whole_parts-requires c = subst DurableInRange (appended (with_room no_needs c.args.durable.now) c.args.added.now c.args.decided) c.requires
