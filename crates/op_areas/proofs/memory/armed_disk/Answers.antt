use Rattle.op_memory.specs.MemDisks.{known_disk}
use Rattle.op_areas.proofs.Disks.{armed_anew, anew_twice}
use Rattle.op_areas.proofs.memory.armed_disk.Goals as goal

pub returns-then-matches : goal.returns-then-matches
returns-then-matches c =
    anew_twice (known_disk c.args.disk) (known_disk c.arm_disk.new.disk) _ (armed_anew c.args.disk c.arm_disk.new.disk c.in_ok-arm_disk.ensures) c.in_ok-forget.ensures.known

pub returns : goal.returns
returns c = armed_anew c.args.disk c.arm_disk.new.disk c.in_ok-arm_disk.ensures
