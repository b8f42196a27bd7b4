-- What is kept of both disks, by no call and by two runs of calls.
use Rattle.std.proofs.Common.{◌≡◌, Bool, true, false, refl, sym, ap, subst, ◌∙◌}
use Rattle.std.specs.Prelude.{◌↔◌}
use Rattle.op_outside.specs.Disks.{DiskState, Kept}
use Rattle.op_store.specs.Stored.{Disks, KeepBoth, disks_with, chosen_disk, other}

-- no call
pub keep_same : (disks : Disks) → KeepBoth disks disks
keep_same disks = record { model = ((λ x. x, λ x. x), (λ x. x, λ x. x)); mark = (refl, refl) }

-- one run after the other
pub keep_both : (old mid new : Disks) → KeepBoth old mid → KeepBoth mid new → KeepBoth old new
keep_both old mid new one two =
    record {
      model = ((λ f. one.model.0.0 (two.model.0.0 f), λ f. two.model.0.1 (one.model.0.1 f)), (λ f. one.model.1.0 (two.model.1.0 f), λ f. two.model.1.1 (one.model.1.1 f)));
      mark = (two.mark.0 ∙ one.mark.0, two.mark.1 ∙ one.mark.1);
    }

-- what one call keeps of the chosen disk, where the other isn't called
module _ {D : Type 0} (state : D → DiskState) where
  same_model : (y v : D) → y ≡ v → (state y).obeys ↔ (state v).obeys
  same_model y v same = subst (λ w. (state w).obeys ↔ (state v).obeys) (sym same) (λ z. z, λ z. z)

  pub kept_beside : (b : Bool) (x y u v : D) → Kept (chosen_disk b (disks_with state u v)) (chosen_disk b (disks_with state x y)) → other b x y ≡ other b u v → KeepBoth (disks_with state u v) (disks_with state x y)
  kept_beside false x y u v kept same = record { model = (kept.model, same_model y v same); mark = (kept.mark, ap (λ w. (state w).mark) same) }
  kept_beside true x y u v kept same = record { model = (same_model x u same, kept.model); mark = (ap (λ w. (state w).mark) same, kept.mark) }
