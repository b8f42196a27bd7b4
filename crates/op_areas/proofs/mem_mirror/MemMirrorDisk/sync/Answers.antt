use Rattle.op_outside.specs.Disks.{DiskState, Does}
use Rattle.op_outside.specs.Disks.Edit.{Nothing}
use Rattle.op_memory.specs.MemDisks.{known_disk}
use Rattle.op_mirror.specs.Mirrors.{known_mirror}
use Rattle.op_areas.proofs.Braced.{braced_known}
use Rattle.op_areas.proofs.mem_mirror.MemMirrorDisk.sync.Goals as goal

pub returns-clause-does : goal.returns-clause-does
returns-clause-does c =
    braced_known (λ (d : DiskState). Does Nothing d (known_mirror known_disk c.sync.new.self) c.sync.result)
    c.args.self.now.mirror c.brace.new.self.mirror c.brace.ensures c.sync.ensures.does
