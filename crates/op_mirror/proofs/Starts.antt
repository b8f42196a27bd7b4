-- Copies that a crash left of a mirror, and what an opening of them leaves.
use Rattle.std.proofs.Common.{◌⊎◌, inl, inr, ⊎_elim, ℕ, List, [], ◌∷◌, sym, subst, ◌≡◌, arith}
use Rattle.op_outside.specs.Pendings.{IsMixed}
use Rattle.op_outside.specs.Disks.{DiskState, MayLeave, IsAtRest, LeavesOnly, GoesOn}
use Rattle.op_outside.specs.Disks.Edit.{Nothing}
use Rattle.op_outside.proofs.Runs.{before-refl, now_torn}
use Rattle.op_mirror.specs.declared.gone.Gone.{Gone}
use Rattle.op_mirror.specs.declared.gone.Gone.TheVariants.{Neither, First, Second}
use Rattle.op_mirror.specs.declared.mirror.Mirror.{Mirror}
use Rattle.op_mirror.specs.Copies.{mirrored}
use Rattle.op_mirror.specs.Crashes.{MixOf, LeftOfEither, IsOneCall}
use Rattle.op_mirror.specs.Mirrors.{known_mirror}
use Rattle.op_mirror.specs.Opens.{LeavesBoth, Opens}
use Rattle.op_mirror.specs.Starts.{HoldsLeft, HoldLeft, LeftWhile, LeftOfBothWhile, MixesAreLeft, AreLeft, GoesOnFrom}

-- a crash of a mirror leaves it of one of the copies
pub of_either : (gone : Gone) (f c : ℕ) (counts : List ℕ) (a b : DiskState) (x : List ℕ) → MayLeave (mirrored gone f c counts a b) x → LeftOfEither a b x
of_either Neither f c counts a b x left = ⊎_elim (λ p. inl p.1) (λ p. inr p.1) left
of_either First f c counts a b x left = ⊎_elim (λ p. inl p.1) (λ p. inr p.1) left
of_either Second f c counts a b x left = ⊎_elim (λ p. inl p.1) (λ p. inr p.1) left

module _ (a b a' b' : DiskState) (known : List ℕ → Type 0) (a_rests : IsAtRest a) (b_rests : IsAtRest b) (a_left : known a.content) (b_left : known b.content)
    (mixed : (x y w z : List ℕ) → known x → known y → known w → IsMixed x y w z → known z) (leaves : LeavesBoth a b a' b') where
  of_first : (x : List ℕ) → MayLeave a x → known x
  of_first x left = subst known (sym (a_rests.only.no_other x left)) a_left

  of_second : (x : List ℕ) → MayLeave b x ⊎ MixOf a.content b.content b x → known x
  of_second x left = ⊎_elim
      (λ was. subst known (sym (b_rests.only.no_other x was)) b_left)
      (λ mix. mixed a.content b.content mix.0 x a_left b_left (subst known (sym (b_rests.only.no_other mix.0 mix.1)) b_left) mix.2)
      left

  pub left_while : (x : List ℕ) → LeftOfBothWhile a b a' b' x → known x
  left_while x left = ⊎_elim
      (λ in_first. ⊎_elim (λ was. of_first x was) (λ was. of_first x was) ((leaves.first a_rests.obeys).each a.moment x (before-refl a.moment) in_first))
      (λ in_second. of_second x ((leaves.second a_rests.obeys b_rests.obeys).each b.moment x (before-refl b.moment) in_second))
      left

  pub left_then : (x : List ℕ) → LeftOfEither a' b' x → known x
  left_then x left = ⊎_elim
      (λ in_first. ⊎_elim (λ was. of_first x was) (λ was. of_first x was) ((leaves.first a_rests.obeys).now x in_first))
      (λ in_second. of_second x ((leaves.second a_rests.obeys b_rests.obeys).now x in_second))
      left

module _ {D : Type 0} {g : _} (state : D → DiskState) (m : Mirror D g) (a b : D) (h : HoldLeft state m a b) where
  abbrev known : List ℕ → Type 0
  known = MayLeave (known_mirror state m)

  either : (x : List ℕ) → known x → LeftOfEither (state m.first) (state m.second) x
  either x left = of_either m.gone m.faults m.calls (m.first_mark ∷ m.second_mark ∷ []) (state m.first) (state m.second) x left

  mixed : (x y w z : List ℕ) → known x → known y → known w → IsMixed x y w z → known z
  mixed x y w z kx ky kw mix = h.mixes h.none_out h.obeys.0 h.obeys.1 x y w z (either x kx) (either y ky) (either w kw) mix

  pub cut_short : (a' b' : D) → LeavesBoth (state a) (state b) (state a') (state b') → MixesAreLeft state m (LeftOfBothWhile (state a) (state b) (state a') (state b'))
  cut_short a' b' leaves x y w z lx ly lw mix =
      let each = left_while (state a) (state b) (state a') (state b') known h.first.rests h.second.rests h.first.left h.second.left mixed leaves in
      mixed x y w z (each x lx) (each y ly) (each w lw) mix

  leaves : (n : Mirror D g) → Opens state a b n → AreLeft state m (MayLeave (known_mirror state n))
  leaves n o x left =
      left_then (state a) (state b) (state n.first) (state n.second) known h.first.rests h.second.rests h.first.left h.second.left mixed o.leaves x
      (of_either n.gone n.faults n.calls (n.first_mark ∷ n.second_mark ∷ []) (state n.first) (state n.second) x left)

  pub opened : (n : Mirror D g) → Opens state a b n → GoesOnFrom state m n
  opened n o = record {
    reads = leaves n o (known_mirror state n).content (o.sound (o.model.1 (h.first.rests.obeys, h.second.rests.obeys))).image;
    leaves = leaves n o;
  }

-- ---- one copy alone

-- a mirror of which the first copy failed first leaves what the second one does, and the other way round
left_of_second : (gone : Gone) (f c : ℕ) (counts : List ℕ) (a b : DiskState) (x : List ℕ) → gone ≡ First → MayLeave (mirrored gone f c counts a b) x → MayLeave b x
left_of_second Neither f c counts a b x is left = absurd (cc)
left_of_second First f c counts a b x is left = ⊎_elim (λ p. let no : 1 ≡ 0 = p.0 in absurd (omega arith)) (λ p. p.1) left
left_of_second Second f c counts a b x is left = absurd (cc)

left_of_first : (gone : Gone) (f c : ℕ) (counts : List ℕ) (a b : DiskState) (x : List ℕ) → gone ≡ Second → MayLeave (mirrored gone f c counts a b) x → MayLeave a x
left_of_first Neither f c counts a b x is left = absurd (cc)
left_of_first First f c counts a b x is left = absurd (cc)
left_of_first Second f c counts a b x is left = ⊎_elim (λ p. p.1) (λ p. let no : 1 ≡ 0 = p.0 in absurd (omega arith)) left

-- calls of a disk at rest that change nothing
module _ (known : List ℕ → Type 0) (d e : DiskState) (rests : IsAtRest d) (left : known d.content) where
  at_rest : (x : List ℕ) → MayLeave d x → known x
  at_rest x may = subst known (sym (rests.only.no_other x may)) left

  still_while : GoesOn Nothing d e → (x : List ℕ) → LeftWhile d e x → known x
  still_while on x may = ⊎_elim (λ was. at_rest x was) (λ torn. subst known (sym torn.2) (at_rest torn.0 torn.1)) (on.nothing_else d.moment x (before-refl d.moment) may)

  still_now : GoesOn Nothing d e → (x : List ℕ) → MayLeave e x → known x
  still_now on x may = let torn = now_torn Nothing d e on x may in subst known (sym torn.2) (at_rest torn.0 torn.1)

  only_while : LeavesOnly (MayLeave d) d e → (x : List ℕ) → LeftWhile d e x → known x
  only_while only x may = ⊎_elim (λ was. at_rest x was) (λ was. at_rest x was) (only.each d.moment x (before-refl d.moment) may)

  only_now : LeavesOnly (MayLeave d) d e → (x : List ℕ) → MayLeave e x → known x
  only_now only x may = ⊎_elim (λ was. at_rest x was) (λ was. at_rest x was) (only.now x may)

module _ {D : Type 0} {g : _} (state : D → DiskState) (m : Mirror D g) where
  pub second_cut_short : (a b a' b' : D) → HoldsLeft state m b → LeavesBoth (state a) (state b) (state a') (state b') → (state a).obeys → IsOneCall (state a) (state a') → AreLeft state m (LeftWhile (state b) (state b'))
  second_cut_short a b a' b' h leaves oa one = still_while (MayLeave (known_mirror state m)) (state b) (state b') h.rests h.left (leaves.at_once oa h.rests.obeys one)

  pub first_cut_short : (a b a' b' : D) → HoldsLeft state m a → LeavesBoth (state a) (state b) (state a') (state b') → AreLeft state m (LeftWhile (state a) (state a'))
  first_cut_short a b a' b' h leaves = only_while (MayLeave (known_mirror state m)) (state a) (state a') h.rests h.left (leaves.first h.rests.obeys)

  pub second_opened : (n : Mirror D g) (a b : D) → HoldsLeft state m b → Opens state a b n → (state a).obeys → IsOneCall (state a) (state n.first) → GoesOnFrom state m n
  second_opened n a b h o oa one =
      let each : AreLeft state m (MayLeave (known_mirror state n)) =
      λ x left. still_now (MayLeave (known_mirror state m)) (state b) (state n.second) h.rests h.left (o.leaves.at_once oa h.rests.obeys one) x
      (left_of_second n.gone n.faults n.calls (n.first_mark ∷ n.second_mark ∷ []) (state n.first) (state n.second) x (o.at_once oa one) left) in
      record { reads = each (known_mirror state n).content (o.sound (o.model.1 (oa, h.rests.obeys))).image; leaves = each }

  pub first_opened : (n : Mirror D g) (a b : D) → HoldsLeft state m a → Opens state a b n → (state b).obeys → n.gone ≡ Second → GoesOnFrom state m n
  first_opened n a b h o ob out =
      let each : AreLeft state m (MayLeave (known_mirror state n)) =
      λ x left. only_now (MayLeave (known_mirror state m)) (state a) (state n.first) h.rests h.left (o.leaves.first h.rests.obeys) x
      (left_of_first n.gone n.faults n.calls (n.first_mark ∷ n.second_mark ∷ []) (state n.first) (state n.second) x out left) in
      record { reads = each (known_mirror state n).content (o.sound (o.model.1 (h.rests.obeys, ob))).image; leaves = each }
