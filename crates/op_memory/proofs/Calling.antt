-- A call that a disk in memory keeps is a call of a disk.
use Rattle.std.proofs.Common.{◌≡◌, ℕ, ap, subst, refl, Result}
use Rattle.std.specs.Prelude.{OnOk}
use Rattle.op_outside.specs.Causes.{FailsOnlyOnFault}
use Rattle.op_outside.specs.Disks.{Edit, Edits, GoesOn, Does}
use Rattle.op_memory.specs.declared.disk.MemDisk.{MemDisk}
use Rattle.op_memory.specs.declared.disk_history.DiskHistory.{DiskHistory}
use Rattle.op_memory.specs.Histories.{known_of}
use Rattle.op_memory.specs.MemDisks.{known_disk, seen_of, fault_count_of, IsUnchanged}

-- once its fate is known
pub history_call : {T E : Type 0} (kept asked : Edit) (old mid new : MemDisk) (r : Result T E) → kept ≡ asked → IsUnchanged old mid → FailsOnlyOnFault (fault_count_of mid) (fault_count_of new) r
    → ((f i g j : ℕ) → GoesOn kept (known_of mid.history f i) (known_of new.history g j)) → OnOk r (Edits asked (seen_of old) (seen_of new)) → Does asked (known_disk old) (known_disk new) r
history_call kept asked old mid new r same still cause goes_on done =
    let from_old = subst (λ (h : DiskHistory). (f i g j : ℕ) → GoesOn kept (known_of h f i) (known_of new.history g j)) still.history goes_on in
    record {
      cause = subst (λ (n : ℕ). FailsOnlyOnFault n (fault_count_of new) r) (ap (λ c. c.count) still.faults) cause;
      model = (λ f. f, λ f. f);
      mark = refl;
      done = λ f. done;
      goes_on = λ f. subst (λ (e : Edit). GoesOn e (known_disk old) (known_disk new)) same (from_old (fault_count_of old) old.script.made (fault_count_of new) new.script.made);
    }
