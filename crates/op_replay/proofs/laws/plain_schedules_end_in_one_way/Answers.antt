use Rattle.op_replay.proofs.PlainSchedules.{end_in_one_way}
use Rattle.op_replay.proofs.laws.plain_schedules_end_in_one_way.Goals as goal

pub returns : goal.returns
returns c = end_in_one_way
