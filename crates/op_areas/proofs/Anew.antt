-- A mirror that is taken apart, and put together of copies that began anew.
use Rattle.std.proofs.Common.{◌≡◌, ⊎_elim, inl, inr, ℕ, List, [], ◌∷◌, refl, sym, subst, ◌∙◌}
use Rattle.op_outside.specs.Disks.{DiskState, MayLeave}
use Rattle.op_memory.specs.MemDisks.{known_disk, BeginsAnew}
use Rattle.op_memory.specs.declared.disk.MemDisk.{MemDisk}
use Rattle.op_mirror.specs.declared.gone.Gone.{Gone}
use Rattle.op_mirror.specs.declared.gone.Gone.TheVariants.{Neither, First, Second}
use Rattle.op_mirror.specs.declared.halves.Halves.{Halves}
use Rattle.op_mirror.specs.declared.mirror.Mirror.{Mirror}
use Rattle.op_mirror.specs.Copies.{mirrored, read_copy}
use Rattle.op_mirror.specs.Joins.{IsMadeOf}
use Rattle.op_mirror.specs.Mirrors.{known_mirror}
use Rattle.op_mirror.proofs.Telling.{marks_stay}

module _ (f k : ℕ) (counts : List ℕ) (a b a' b' : DiskState) (first : BeginsAnew a a') (second : BeginsAnew b b') where
  content : (gone : Gone) → (read_copy gone a' b').content ≡ (read_copy gone a b).content
  content Neither = first.content
  content First = second.content
  content Second = first.content

  pending : (gone : Gone) → (read_copy gone a' b').pending ≡ (read_copy gone a b).pending
  pending Neither = first.pending
  pending First = second.pending
  pending Second = first.pending

  left : (gone : Gone) (x : List ℕ) → MayLeave (mirrored gone f k counts a' b') x → MayLeave (mirrored gone f k counts a b) x
  left Neither x may = ⊎_elim (λ p. inl (p.0, (first.images x).0 p.1)) (λ p. inr (p.0, (second.images x).0 p.1)) may
  left First x may = ⊎_elim (λ p. inl (p.0, (first.images x).0 p.1)) (λ p. inr (p.0, (second.images x).0 p.1)) may
  left Second x may = ⊎_elim (λ p. inl (p.0, (first.images x).0 p.1)) (λ p. inr (p.0, (second.images x).0 p.1)) may

  back : (gone : Gone) (x : List ℕ) → MayLeave (mirrored gone f k counts a b) x → MayLeave (mirrored gone f k counts a' b') x
  back Neither x may = ⊎_elim (λ p. inl (p.0, (first.images x).1 p.1)) (λ p. inr (p.0, (second.images x).1 p.1)) may
  back First x may = ⊎_elim (λ p. inl (p.0, (first.images x).1 p.1)) (λ p. inr (p.0, (second.images x).1 p.1)) may
  back Second x may = ⊎_elim (λ p. inl (p.0, (first.images x).1 p.1)) (λ p. inr (p.0, (second.images x).1 p.1)) may

  pub mirrored_anew : (gone : Gone) → BeginsAnew (mirrored gone f k counts a b) (mirrored gone f k counts a' b')
  mirrored_anew gone = record {
    model = (λ o. (first.model.0 o.0, second.model.0 o.1), λ o. (first.model.1 o.0, second.model.1 o.1));
    content = content gone;
    pending = pending gone;
    images = λ x. (left gone x, back gone x);
    faults = refl;
    calls = refl;
    mark = marks_stay counts a.mark b.mark a'.mark b'.mark first.mark second.mark;
    rests = λ r. record {
      obeys = (first.model.1 r.obeys.0, second.model.1 r.obeys.1);
      only = record {
        no_other = λ c may. r.only.no_other c (left gone c may) ∙ sym (content gone);
        itself = back gone (read_copy gone a' b').content (subst (MayLeave (mirrored gone f k counts a b)) (sym (content gone)) r.only.itself);
      };
    };
  }

-- what is known of a mirror is that of its parts
pub made_known : {g : _} (P : DiskState → Type 0) (a b : MemDisk) (h : Halves) (m : Mirror MemDisk g) → IsMadeOf known_disk a b h m
    → P (mirrored h.gone h.faults h.calls (h.first_mark ∷ h.second_mark ∷ []) (known_disk a) (known_disk b)) → P (known_mirror known_disk m)
made_known P a b h m made p =
    subst (λ (d : MemDisk). P (mirrored m.gone m.faults m.calls (m.first_mark ∷ m.second_mark ∷ []) (known_disk d) (known_disk m.second))) (sym made.first_is)
    (subst (λ (d : MemDisk). P (mirrored m.gone m.faults m.calls (m.first_mark ∷ m.second_mark ∷ []) (known_disk a) (known_disk d))) (sym made.second_is)
    (subst (λ (gone : Gone). P (mirrored gone m.faults m.calls (m.first_mark ∷ m.second_mark ∷ []) (known_disk a) (known_disk b))) (sym made.gone)
    (subst (λ (n : ℕ). P (mirrored h.gone n m.calls (m.first_mark ∷ m.second_mark ∷ []) (known_disk a) (known_disk b))) (sym made.faults)
    (subst (λ (n : ℕ). P (mirrored h.gone h.faults n (m.first_mark ∷ m.second_mark ∷ []) (known_disk a) (known_disk b))) (sym made.calls)
    (subst (λ (n : ℕ). P (mirrored h.gone h.faults h.calls (n ∷ m.second_mark ∷ []) (known_disk a) (known_disk b))) (sym made.first_mark)
    (subst (λ (n : ℕ). P (mirrored h.gone h.faults h.calls (h.first_mark ∷ n ∷ []) (known_disk a) (known_disk b))) (sym made.second_mark) p))))))

pub together_anew : {g k : _} (a b a' b' : MemDisk) (h : Halves) (m : Mirror MemDisk g) (r : Mirror MemDisk k) → IsMadeOf known_disk a b h m → IsMadeOf known_disk a' b' h r
    → BeginsAnew (known_disk a) (known_disk a') → BeginsAnew (known_disk b) (known_disk b') → BeginsAnew (known_mirror known_disk m) (known_mirror known_disk r)
together_anew a b a' b' h m r old new first second =
    made_known (λ d. BeginsAnew d (known_mirror known_disk r)) a b h m old
    (made_known (BeginsAnew (mirrored h.gone h.faults h.calls (h.first_mark ∷ h.second_mark ∷ []) (known_disk a) (known_disk b))) a' b' h r new
    (mirrored_anew h.faults h.calls (h.first_mark ∷ h.second_mark ∷ []) (known_disk a) (known_disk b) (known_disk a') (known_disk b') first second h.gone))
