use Rattle.std.proofs.Common.{length}
use Rattle.op_leader.proofs.staged.+make_room_among.Given as goal

abbrev pub decreases-make_room_among : goal.decreases-make_room_among
decreases-make_room_among l = length l.stages.now
