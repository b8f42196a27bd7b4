-- What is known of a mirror that is told of a stop of its second copy.
use Rattle.std.proofs.Common.{ℕ, [], ◌∷◌, subst}
use Rattle.op_outside.specs.Disks.{DiskState}
use Rattle.op_memory.specs.MemDisks.{known_disk}
use Rattle.op_memory.specs.declared.disk.MemDisk.{MemDisk}
use Rattle.op_mirror.specs.Copies.{mirrored}
use Rattle.op_mirror.specs.Mirrors.{known_mirror}
use Rattle.op_mirror.specs.declared.gone.Gone.{Gone}
use Rattle.op_mirror.specs.declared.mirror.Mirror.{Mirror}
use Rattle.op_areas.specs.Bracing.{IsBraced}
use Rattle.op_areas.specs.Disks.{IsArmed}
use Rattle.op_areas.proofs.Disks.{armed_known}

armed_back : (P : DiskState → Type 0) (old new : MemDisk) → IsArmed old new → P (known_disk new) → P (known_disk old)
armed_back P old new t = armed_known (λ d. P d → P (known_disk old)) old new t (λ k. k)

-- what holds of the state of one that is told held of it before
pub braced_known : {g : _} (P : DiskState → Type 0) (m r : Mirror MemDisk g) → IsBraced m r → P (known_mirror known_disk r) → P (known_mirror known_disk m)
braced_known P m r b p =
    armed_back (λ d. P (mirrored m.gone m.faults m.calls (m.first_mark ∷ m.second_mark ∷ []) d (known_disk m.second))) m.first r.first b.armed
    (subst (λ (d : MemDisk). P (mirrored m.gone m.faults m.calls (m.first_mark ∷ m.second_mark ∷ []) (known_disk r.first) (known_disk d))) b.rest.second
    (subst (λ (gone : Gone). P (mirrored gone m.faults m.calls (m.first_mark ∷ m.second_mark ∷ []) (known_disk r.first) (known_disk r.second))) b.rest.gone
    (subst (λ (n : ℕ). P (mirrored r.gone n m.calls (m.first_mark ∷ m.second_mark ∷ []) (known_disk r.first) (known_disk r.second))) b.rest.faults
    (subst (λ (n : ℕ). P (mirrored r.gone r.faults n (m.first_mark ∷ m.second_mark ∷ []) (known_disk r.first) (known_disk r.second))) b.rest.calls
    (subst (λ (n : ℕ). P (mirrored r.gone r.faults r.calls (n ∷ m.second_mark ∷ []) (known_disk r.first) (known_disk r.second))) b.rest.first_mark
    (subst (λ (n : ℕ). P (mirrored r.gone r.faults r.calls (r.first_mark ∷ n ∷ []) (known_disk r.first) (known_disk r.second))) b.rest.second_mark p))))))
