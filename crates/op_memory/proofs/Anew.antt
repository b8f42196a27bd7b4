-- A disk whose moments begin anew: a crash leaves of it what it left of the old one.
use Rattle.std.proofs.Common.{◌≡◌, ℕ, List, refl, sym, ◌∙◌, ap, subst}
use Rattle.std.specs.Prelude.{◌↔◌}
use Rattle.op_outside.specs.Disks.{MayLeave, IsAtRest}
use Rattle.op_memory.specs.declared.disk_history.DiskHistory.{DiskHistory}
use Rattle.op_outside.specs.Pendings.{IsImage}
use Rattle.op_memory.specs.Images.{State}
use Rattle.op_memory.specs.Histories.{known_of, history_state, start_of}
use Rattle.op_memory.specs.MemDisks.{BeginsAnew}
use Rattle.op_memory.proofs.Moments.{left_now, now_left}

module _ (h k : DiskHistory) (faults made : ℕ) (bytes : k.bytes.items ≡ h.bytes.items) (state : history_state k ≡ history_state h) where
  images : (x : List ℕ) → MayLeave (known_of k faults made) x ↔ MayLeave (known_of h faults made) x
  images x = (
    λ left. now_left (start_of h) h.calls.items x (subst (λ (s : State). IsImage s.pending x) state (left_now (start_of k) k.calls.items x left)),
    λ left. now_left (start_of k) k.calls.items x (subst (λ (s : State). IsImage s.pending x) (sym state) (left_now (start_of h) h.calls.items x left)),
  )

  rests : IsAtRest (known_of h faults made) → IsAtRest (known_of k faults made)
  rests r = record {
    obeys = tt;
    only = record {
      no_other = λ c left. r.only.no_other c ((images c).0 left) ∙ sym bytes;
      itself = (images k.bytes.items).1 (subst (MayLeave (known_of h faults made)) (sym bytes) r.only.itself);
    };
  }

  pub begins_anew : BeginsAnew (known_of h faults made) (known_of k faults made)
  begins_anew = record {
    model = (λ f. f, λ f. f);
    content = bytes;
    pending = ap (λ (s : State). s.pending) state;
    images = images;
    faults = refl;
    calls = refl;
    mark = refl;
    rests = rests;
  }
