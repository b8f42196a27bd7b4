-- When a part completes a promise: what is staged reaches from the promise's start to the run, and from there to the end.
use Rattle.std.proofs.Common.{◌≡◌, ◌⊎◌, inl, inr, ⊎_elim, ℕ, zero, suc, ◌+◌, ◌-◌, ◌<◌, ◌≤◌, Bool, true, false, ◌&&◌, List, length, refl, sym, ap, ◌∙◌, subst, arith, Option, Some, None, is_some}
use Rattle.std.specs.Prelude.{slice_get}
use Rattle.std.proofs.lemmas.Bool.{false≢true, and_from, and_parts, cases_lt}
use Rattle.std.proofs.lemmas.Option.{slice_get_within}
use Rattle.op_types.specs.declared.log.Entry.{Entry}
use Rattle.op_types.specs.declared.runs.PromisedRun.{PromisedRun}
use Rattle.op_types.specs.Joinings.{Held, held_at, held_with, held_run, with_first}
use Rattle.op_types.proofs.Stages.{Has, with_each, with_has, with_here, run_full, run_each}
use Rattle.op_leader.specs.Completing.{IsRun, whole_with}

-- ---- whole runs

first_parts : (o : Option Entry) (r : Option (List Entry)) → is_some (with_first o r) ≡ true → (is_some o ≡ true) × (is_some r ≡ true)
first_parts None r e = absurd (false≢true e)
first_parts (Some x) None e = absurd (false≢true e)
first_parts (Some x) (Some xs) e = (refl, refl)

-- each position of a whole run is held
pub run_has : (h : Held) (at count i : ℕ) → is_some (held_run h at count) ≡ true → at ≤ i → i < at + count → Has h i
run_has h at zero i whole le lt = absurd (omega arith)
run_has h at (suc count) i whole le lt =
    let p = first_parts (held_at h at) (held_run h (at + 1) count) whole in
    ⊎_elim
    (λ (above : at < i). run_has h (at + 1) count i p.1 (omega arith) (omega (arith, lt)))
    (λ (low : i ≤ at). let here : at ≡ i = omega arith in subst (λ n. Has h n) here p.0)
    (cases_lt at i)

-- ---- what was held before a run came

-- the position was held, or is the run's
abbrev Came : Held → ℕ → List Entry → ℕ → Type 0
Came h at es n = Has h n ⊎ ((at ≤ n) × (n < at + length es))

came : (h : Held) (at : ℕ) (es : List Entry) (i : ℕ) → Has (held_with h at es) i → Came h at es i
came h at es i has = by (held_at (held_with h at es) i) refl has
  where
    placed : (j : ℕ) (e : Entry) → slice_get es j ≡ Some e → Came h at es (at + j)
    placed j e is = let lt : j < length es = slice_get_within es j e is in inr (omega arith, omega arith)

    by : (o : Option Entry) → held_at (held_with h at es) i ≡ o → is_some o ≡ true → Came h at es i
    by None e s = absurd (false≢true s)
    by (Some x) e s = with_each (λ n y. Came h at es n) h at es (λ n y is. inl (ap is_some is)) placed i x e

-- a position outside of the run was held
outside : (h : Held) (at : ℕ) (es : List Entry) (i : ℕ) → Has (held_with h at es) i → (i < at) ⊎ (at + length es ≤ i) → Has h i
outside h at es i has out = ⊎_elim
    (λ (held : Has h i). held)
    (λ (p : (at ≤ i) × (i < at + length es)). ⊎_elim (λ (low : i < at). absurd (omega arith)) (λ (high : at + length es ≤ i). absurd (omega arith)) out)
    (came h at es i has)

-- ---- a whole promise

same_truth : (a b : Bool) → (a ≡ true → b ≡ true) → (b ≡ true → a ≡ true) → a ≡ b
same_truth true true f g = refl
same_truth true false f g = absurd (false≢true (f refl))
same_truth false true f g = absurd (false≢true (g refl))
same_truth false false f g = refl

-- with the part all is there, where all was there before the run and behind it
pub whole_by_gaps : (h : Held) (part : PromisedRun) → IsRun part → is_some (whole_with h part) ≡ (is_some (held_run h part.start (part.at - part.start)) && is_some (held_run h (part.at + length part.run) (part.len - (part.at + length part.run))))
whole_by_gaps h part run = same_truth _ _ (λ whole. and_from _ _ (before whole) (behind whole)) (λ gaps. let p = and_parts _ _ gaps in run_full (held_with h part.at part.run) part.start (part.len - part.start) (λ i le lt. all p.0 p.1 i le (omega (arith, lt, run.low, run.within))))
  where
    before : is_some (whole_with h part) ≡ true → is_some (held_run h part.start (part.at - part.start)) ≡ true
    before whole = run_full h part.start (part.at - part.start) (λ i le lt. outside h part.at part.run i (run_has (held_with h part.at part.run) part.start (part.len - part.start) i whole le (omega (arith, lt, run.low, run.within))) (inl (omega (arith, lt, run.low))))

    behind : is_some (whole_with h part) ≡ true → is_some (held_run h (part.at + length part.run) (part.len - (part.at + length part.run))) ≡ true
    behind whole = run_full h (part.at + length part.run) (part.len - (part.at + length part.run)) (λ i le lt. outside h part.at part.run i (run_has (held_with h part.at part.run) part.start (part.len - part.start) i whole (omega (arith, le, run.low)) (omega (arith, lt, run.low, run.within))) (inr le))

    all : is_some (held_run h part.start (part.at - part.start)) ≡ true → is_some (held_run h (part.at + length part.run) (part.len - (part.at + length part.run))) ≡ true → (i : ℕ) → part.start ≤ i → i < part.len → Has (held_with h part.at part.run) i
    all first last i le lt = ⊎_elim
        (λ (low : i < part.at). with_has h part.at part.run i (run_has h part.start (part.at - part.start) i first le (omega arith)))
        (λ (from : part.at ≤ i). ⊎_elim
        (λ (here : i < part.at + length part.run). with_here h part.at part.run i from here)
        (λ (past : part.at + length part.run ≤ i). with_has h part.at part.run i (run_has h (part.at + length part.run) (part.len - (part.at + length part.run)) i last past (omega arith)))
        (cases_lt i (part.at + length part.run)))
        (cases_lt i part.at)

-- its entries reach from its start to the log's length
pub whole_len : (h : Held) (part : PromisedRun) (es : List Entry) → IsRun part → whole_with h part ≡ Some es → part.start + length es ≡ part.len
whole_len h part es run whole =
    let size : length es ≡ part.len - part.start = (run_each (λ i e. Unit {0}) (held_with h part.at part.run) part.start (part.len - part.start) es (λ i e is. tt) whole).0 in
    omega (arith, size, run.low, run.within)

-- ---- by two looks at what is staged

both_looks : (h items : Held) (part : PromisedRun) (n : ℕ) (a b : Bool) → IsRun part → items ≡ h → n ≡ length part.run
    → a ≡ is_some (held_run items part.start (part.at - part.start)) → b ≡ is_some (held_run items (part.at + n) (part.len - (part.at + n)))
    → (a && b) ≡ is_some (whole_with h part)
both_looks h items part n a b run same count first last =
    let before : a ≡ is_some (held_run h part.start (part.at - part.start)) = first ∙ ap (λ (l : Held). is_some (held_run l part.start (part.at - part.start))) same in
    let behind : b ≡ is_some (held_run h (part.at + length part.run) (part.len - (part.at + length part.run))) =
    last ∙ ap (λ (l : Held). is_some (held_run l (part.at + n) (part.len - (part.at + n)))) same ∙ ap (λ (m : ℕ). is_some (held_run h (part.at + m) (part.len - (part.at + m)))) count in
    ap (λ (t : Bool). t && b) before
    ∙ ap (λ (t : Bool). is_some (held_run h part.start (part.at - part.start)) && t) behind
    ∙ sym (whole_by_gaps h part run)

-- the first finds all before the run, and the second tells
pub second_tells : (h items : Held) (part : PromisedRun) (n : ℕ) (a b : Bool) → IsRun part → items ≡ h → n ≡ length part.run
    → a ≡ is_some (held_run items part.start (part.at - part.start)) → b ≡ is_some (held_run items (part.at + n) (part.len - (part.at + n)))
    → a ≡ true → b ≡ is_some (whole_with h part)
second_tells h items part n a b run same count first last all = sym (ap (λ (t : Bool). t && b) all) ∙ both_looks h items part n a b run same count first last

-- the first finds a gap
pub first_tells : (h items : Held) (part : PromisedRun) (a : Bool) → IsRun part → items ≡ h → a ≡ is_some (held_run items part.start (part.at - part.start)) → a ≡ false → a ≡ is_some (whole_with h part)
first_tells h items part a run same first gap =
    let b : Bool = is_some (held_run items (part.at + length part.run) (part.len - (part.at + length part.run))) in
    gap ∙ sym (ap (λ (t : Bool). t && b) gap) ∙ both_looks h items part (length part.run) a b run same refl first refl
