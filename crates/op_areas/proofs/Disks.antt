-- Disks in memory that are made or armed.
use Rattle.std.proofs.Common.{ℕ, refl, sym, subst, ◌∙◌}
use Rattle.op_outside.specs.Disks.{DiskState}
use Rattle.op_memory.specs.Histories.{known_of}
use Rattle.op_memory.specs.MemDisks.{known_disk, BeginsAnew}
use Rattle.op_memory.specs.declared.disk.MemDisk.{MemDisk}
use Rattle.op_memory.specs.declared.disk_history.DiskHistory.{DiskHistory}
use Rattle.op_memory.specs.declared.fault_count.FaultCount.{FaultCount}
use Rattle.op_areas.specs.Disks.{IsArmed, LeavesNoMore}

-- what is known of a disk that is armed stays
pub armed_known : (P : DiskState → Type 0) (old new : MemDisk) → IsArmed old new → P (known_disk old) → P (known_disk new)
armed_known P old new t k =
    subst (λ (made : ℕ). P (known_of new.history new.faults.count made)) (sym t.made)
    (subst (λ (f : FaultCount). P (known_of new.history f.count old.script.made)) (sym t.same.faults)
    (subst (λ (h : DiskHistory). P (known_of h old.faults.count old.script.made)) (sym t.same.history) k))

-- a state begins anew in itself
pub anew_itself : (d : DiskState) → BeginsAnew d d
anew_itself d = record {
  model = (λ k. k, λ k. k);
  content = refl;
  pending = refl;
  images = λ x. (λ k. k, λ k. k);
  faults = refl;
  calls = refl;
  mark = refl;
  rests = λ r. r;
}

pub armed_anew : (old new : MemDisk) → IsArmed old new → BeginsAnew (known_disk old) (known_disk new)
armed_anew old new t = armed_known (λ d. BeginsAnew (known_disk old) d) old new t (anew_itself (known_disk old))

pub armed_leaves : (old new : MemDisk) → IsArmed old new → LeavesNoMore old new
armed_leaves old new t x left = ((armed_anew old new t).images x).0 left

pub anew_twice : (a b c : DiskState) → BeginsAnew a b → BeginsAnew b c → BeginsAnew a c
anew_twice a b c ab bc = record {
  model = (λ k. ab.model.0 (bc.model.0 k), λ k. bc.model.1 (ab.model.1 k));
  content = bc.content ∙ ab.content;
  pending = bc.pending ∙ ab.pending;
  images = λ x. (λ k. (ab.images x).0 ((bc.images x).0 k), λ k. (bc.images x).1 ((ab.images x).1 k));
  faults = bc.faults ∙ ab.faults;
  calls = bc.calls ∙ ab.calls;
  mark = bc.mark ∙ ab.mark;
  rests = λ r. bc.rests (ab.rests r);
}
