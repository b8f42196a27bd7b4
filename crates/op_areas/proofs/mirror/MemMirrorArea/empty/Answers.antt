use Rattle.op_areas.proofs.Pairs.{empty_pair}
use Rattle.op_areas.proofs.mirror.MemMirrorArea.empty.Goals as goal

pub returns : goal.returns
returns c =
    empty_pair (record { first = c.in_ok-empty_disk.field-0; second = c.in_ok-empty_disk-2.field-0 }) c.in_ok-empty_disk.ensures c.in_ok-empty_disk-2.ensures
