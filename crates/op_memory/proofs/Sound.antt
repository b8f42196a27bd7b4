-- What holds of a disk in memory at each moment, and what its calls make pending.
use Rattle.op_outside.specs.Disks.{IsSound}
use Rattle.op_memory.specs.declared.disk.MemDisk.{MemDisk}
use Rattle.op_memory.specs.Histories.{start_of}
use Rattle.op_memory.specs.MemDisks.{known_disk}
use Rattle.op_memory.proofs.Moments.{left_now, now_left, now_too}

pub disk_is_sound : (d : MemDisk) → IsSound (known_disk d)
disk_is_sound d =
    let h = d.history in
    record {
      image = now_left (start_of h) h.calls.items h.bytes.items h.tied.image;
      images = λ x. (left_now (start_of h) h.calls.items x, now_left (start_of h) h.calls.items x);
      now_too = now_too (start_of h) h.calls.items;
    }
