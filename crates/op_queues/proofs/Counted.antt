-- The counts of the frames that wait behind: what comes and goes changes them.
use Rattle.std.proofs.Common.{◌≡◌, ◌+◌, ◌-◌, ◌++◌, ◌∷◌, [], ℕ, suc, if◌then◌else◌, ◌==◌, List, false, Option, Some, None, refl, sym, ◌∙◌, ap, inl, inr, arith}
use Rattle.std.specs.Option.{unwrap_or}
use Rattle.std.proofs.lemmas.Bool.{eqb-true, eqb-false, eq-eqb, ne_eqb}
use Rattle.std.specs.BTreeMap.{is_at}
use Rattle.std.specs.Ordering.{nat_cmp}
use Rattle.op_conns.proofs.Numbers.{is_at_other}
use Rattle.op_serving.specs.State.{Table, find, without, changed, changed_at}
use Rattle.op_serving.specs.Room.{count_at, without_first}
use Rattle.op_queues.specs.Counted.{count_of, AreCounts}
use Rattle.op_queues.proofs.Tables.{same_or_not, find_set, find_set_apart, find_without}
use Rattle.op_queues.proofs.Frames.{count_none, count_apart, count_apart_first, count_push_own, count_push_apart, first_less}

-- ---- counts

away : (c d : ℕ) → (c ≡ d → ⊥) → is_at (nat_cmp d) c ≡ false
away c d apart = is_at_other d c (λ k. apart (sym k))

-- of one connection, and of the others
counts_by : (old new : Table ℕ) (t now : Table (List ℕ)) (d : ℕ) → AreCounts old t → count_of d new ≡ count_at d now
    → ((c : ℕ) → (c ≡ d → ⊥) → count_of c new ≡ count_of c old) → ((c : ℕ) → (c ≡ d → ⊥) → count_at c now ≡ count_at c t) → AreCounts new now
counts_by old new t now d are own others rest =
    record { each = λ c. elim (same_or_not c d) [ inl same ↦ rw same own | inr apart ↦ others c apart ∙ are.each c ∙ sym (rest c apart) ] }

module _ (old new : Table ℕ) (t : Table (List ℕ)) (d : ℕ) (are : AreCounts old t) where
  -- one more
  pub counts_push : (frame : List ℕ) (now : Table (List ℕ)) → now ≡ t ++ (d, frame) ∷ [] → find d new ≡ Some (count_at d t + 1)
      → ((c : ℕ) → is_at (nat_cmp d) c ≡ false → find c new ≡ find c old) → AreCounts new now
  counts_push frame now is own others =
      counts_by old new t now d are (rw (is, own) (sym (count_push_own d frame t))) (λ c apart. ap (λ o. unwrap_or o 0) (others c (away c d apart)))
      (λ c apart. ap (count_at c) is ∙ count_push_apart c d frame t apart)

  -- none of one connection
  pub counts_without : (now : Table (List ℕ)) → now ≡ without d t → find d new ≡ None → ((c : ℕ) → is_at (nat_cmp d) c ≡ false → find c new ≡ find c old)
      → AreCounts new now
  counts_without now is own others =
      counts_by old new t now d are (rw (is, own) (sym (count_none d (without d t) (find_without d t))))
      (λ c apart. ap (λ o. unwrap_or o 0) (others c (away c d apart))) (λ c apart. ap (count_at c) is ∙ count_apart c d t apart)

  -- one less
  down : (c : ℕ) (o : Option ℕ) → find d old ≡ o → count_of c (changed_at (λ n. n - 1) d o old) ≡ (if c == d then count_of c old - 1 else count_of c old)
  down c None e = grind (arith, e, eqb-true c d)
  down c (Some n) e = grind (arith, e, eqb-true c d, eqb-false c d, find_set d (n - 1) n old e, find_set_apart d c (n - 1) old)

  pub counts_first : (frame : List ℕ) (now : Table (List ℕ)) → find d t ≡ Some frame → new ≡ changed (λ n. n - 1) d old → now ≡ without_first d t
      → AreCounts new now
  counts_first frame now first fewer is =
      let less : count_at d t ≡ suc (count_at d (without_first d t)) = first_less d frame t first in
      let here : count_of d new ≡ count_of d old - 1 = ap (count_of d) fewer ∙ down d (find d old) refl ∙ rw (eq-eqb d d refl) refl in
      counts_by old new t now d are (rw is (let k = are.each d in omega (arith, here, k, less)))
      (λ c apart. ap (count_of c) fewer ∙ down c (find d old) refl ∙ rw (ne_eqb c d apart) refl)
      (λ c apart. ap (count_at c) is ∙ count_apart_first c d t apart)
