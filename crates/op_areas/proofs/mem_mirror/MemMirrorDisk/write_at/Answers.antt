use Rattle.op_outside.specs.Disks.{DiskState, Does}
use Rattle.op_outside.specs.Disks.Edit.{Write}
use Rattle.op_memory.specs.MemDisks.{known_disk}
use Rattle.op_mirror.specs.Mirrors.{known_mirror}
use Rattle.op_areas.proofs.Braced.{braced_known}
use Rattle.op_areas.proofs.mem_mirror.MemMirrorDisk.write_at.Goals as goal

pub returns-clause-does : goal.returns-clause-does
returns-clause-does c =
    braced_known (λ (d : DiskState). Does (Write c.args.at c.args.bytes.now) d (known_mirror known_disk c.write_at.new.self) c.write_at.result)
    c.args.self.now.mirror c.brace.new.self.mirror c.brace.ensures c.write_at.ensures.does
