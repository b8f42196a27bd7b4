-- What is staged stands within the positions, and so does a promise of which all is there.
use Rattle.std.proofs.Common.{◌≡◌, ℕ, ◌+◌, ◌-◌, ◌<◌, ◌≤◌, Bool, true, false, cond, eqb, List, [], ◌∷◌, length, refl, sym, ap, ◌∙◌, arith, Option, Some, None, is_some}
use Rattle.std.specs.Cmp.{unsigned_ties}
use Rattle.std.proofs.lemmas.Bool.{false≢true, eqb-true, cond_both}
use Rattle.std.proofs.lemmas.Option.{slice_get_within}
use Rattle.op_types.specs.Limits.{positions_end}
use Rattle.op_types.specs.declared.log.Entry.{Entry}
use Rattle.op_types.specs.declared.runs.PromisedRun.{PromisedRun}
use Rattle.op_types.specs.Joinings.{Held, held_at, held_with}
use Rattle.op_types.specs.Rings.{AreBelow}
use Rattle.op_types.specs.RoleStates.{stage_of, told_by}
use Rattle.op_types.proofs.Elements.{none_some}
use Rattle.op_types.proofs.Stages.{EachHeld, with_each}
use Rattle.op_choosing.specs.Choosing.{IsAdmitted}
use Rattle.op_leader.specs.Adopting.{AreStagedWithin}
use Rattle.op_leader.specs.Completing.{IsRun, whole_with}
use Rattle.op_leader.proofs.Gaps.{run_has, whole_len}

-- ---- one stage

head_is : (n : ℕ) (x : ℕ × Entry) (xs : Held) → held_at (x ∷ xs) n ≡ cond (eqb n x.0) (Some x.1) (held_at xs n)
head_is n x xs = ap (λ (b : Bool). cond b (Some x.1) (held_at xs n)) (sym (unsigned_ties n x.0))

below_each : (end : ℕ) (h : Held) → AreBelow end h → EachHeld (λ i e. i < end) h
below_each end [] below i e is = none_some e is
below_each end (x ∷ xs) below i e is = by (eqb i x.0) refl (below_each end xs below.1 i e) (sym (head_is i x xs) ∙ is)
  where
    by : (b : Bool) → eqb i x.0 ≡ b → (held_at xs i ≡ Some e → i < end) → cond b (Some x.1) (held_at xs i) ≡ Some e → i < end
    by true c later k = omega (arith, eqb-true i x.0 c, below.0)
    by false c later k = later k

with_within : (end : ℕ) (h : Held) (at : ℕ) (es : List Entry) → AreBelow end h → at + length es ≤ end → EachHeld (λ i e. i < end) (held_with h at es)
with_within end h at es below fits = with_each (λ i e. i < end) h at es (below_each end h below) (λ j e is. let lt : j < length es = slice_get_within es j e is in omega arith)

-- ---- a promise of which all is there

len_within : (end : ℕ) (h : Held) (part : PromisedRun) → IsRun part → part.at + length part.run ≤ end → AreBelow end h → is_some (whole_with h part) ≡ true → part.len ≤ end
len_within end h part run small below whole =
    let last : ℕ = part.len - 1 in
    let has = run_has (held_with h part.at part.run) part.start (part.len - part.start) last whole (omega (arith, run.low, run.some, run.within)) (omega (arith, run.low, run.some, run.within)) in
    by (held_at (held_with h part.at part.run) last) refl has
  where
    by : (o : Option Entry) → held_at (held_with h part.at part.run) (part.len - 1) ≡ o → is_some o ≡ true → part.len ≤ end
    by None e s = absurd (false≢true s)
    by (Some x) e s = let lt : part.len - 1 < end = with_within end h part.at part.run below small (part.len - 1) x e in omega arith

some_whole : (o : Option (List Entry)) (es : List Entry) → o ≡ Some es → is_some o ≡ true
some_whole o es is = ap is_some is

-- it ends within the positions
pub whole_admitted : (h : Held) (part : PromisedRun) (q : ℕ) (es : List Entry) → IsRun part → AreBelow positions_end h → whole_with h part ≡ Some es → IsAdmitted (told_by q part es)
whole_admitted h part q es run below whole =
    let size : part.start + length es ≡ part.len = whole_len h part es run whole in
    let small : part.len ≤ positions_end = len_within positions_end h part run run.small below (some_whole (whole_with h part) es whole) in
    omega (arith, size, small)

-- ---- all stages

pub within_of : (stages : List (ℕ × Held)) (q : ℕ) → AreStagedWithin stages → AreBelow positions_end (stage_of stages q)
within_of [] q all = tt
within_of (s ∷ stages) q all = cond_both (eqb s.0 q) s.1 (stage_of stages q) (AreBelow positions_end) (λ _. all.0) (λ _. within_of stages q all.1)
