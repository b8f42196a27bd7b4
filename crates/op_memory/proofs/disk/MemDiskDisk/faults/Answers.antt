use Rattle.op_memory.proofs.Sound.{disk_is_sound}
use Rattle.op_memory.proofs.disk.MemDiskDisk.faults.Goals as goal

pub returns-clause-sound : goal.returns-clause-sound
returns-clause-sound c = λ _. disk_is_sound c.args.self.now
