use Rattle.std.proofs.Common.{Result, Ok, Err}
use Rattle.std.specs.Prelude.{OnOk}
use Rattle.op_memory.specs.declared.disk.MemDisk.{MemDisk}
use Rattle.op_areas.specs.declared.pair.DiskPair.{DiskPair}
use Rattle.op_areas.specs.Disks.{IsArmed}
use Rattle.op_areas.specs.Media.{HoldNoMore}
use Rattle.op_areas.specs.Pairs.{holds_pair}
use Rattle.op_areas.proofs.Disks.{armed_leaves}
use Rattle.op_areas.proofs.Pairs.{pair_no_more}
use Rattle.op_areas.proofs.mirror.MemMirrorArea.arm.Goals as goal

-- both copies are armed
both : {T E : Type 0} (r : Result T E) (c : DiskPair) (first second : MemDisk) → IsArmed c.first first → OnOk r (IsArmed c.second second)
    → OnOk r (HoldNoMore holds_pair c (record { first = first; second = second }))
both (Ok x) c first second a b =
    pair_no_more c (record { first = first; second = second }) a.killed (armed_leaves c.first first a) b.killed (armed_leaves c.second second b)
both (Err e) c first second a b = tt

pub returns : goal.returns
returns c = both c.arm_disk-2.result c.args.copies.now c.arm_disk.new.disk c.arm_disk-2.new.disk c.in_ok-arm_disk.ensures c.arm_disk-2.ensures
