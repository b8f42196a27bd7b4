use Rattle.op_sched.proofs.UnambiguousSchedules.{events_suit_disks}
use Rattle.op_sched.proofs.laws.schedule_suits_its_disks.Goals as goal

pub returns : goal.returns
returns c = events_suit_disks
