use Rattle.op_configurations.proofs.lists_are_one.Goals as goal
use Rattle.op_configurations.proofs.Standing as standing
use Rattle.op_configurations.proofs.Latest as known
use Rattle.op_configurations.proofs.Fixed as fixed

pub returns : goal.returns
returns c = record { one_list = standing.one_list; machine = standing.meets; safe = standing.safe; grows = standing.grows; never_falls = standing.never_falls; latest = known.latest_rises; ended = known.ended_below; fixed = fixed.before_is_fixed }
