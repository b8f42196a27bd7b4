use Rattle.std.proofs.Common.{length}
use Rattle.op_chain.proofs.waiting_set.WaitingSet.+make_more_room.Given as goal

abbrev pub decreases-make_more_room : goal.decreases-make_more_room
decreases-make_more_room l = length l.commands.now
