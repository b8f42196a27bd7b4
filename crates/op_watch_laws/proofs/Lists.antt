-- Lists that only grow: what stands before a configuration that was opened stays.
use Rattle.std.proofs.Common.{◌≡◌, ◌<◌, ◌≤◌, ⊎_elim, ℕ, zero, suc, ◌+◌, ◌-◌, Bool, true, false, cond, eqb, is_some, List, [], ◌∷◌, ◌++◌, length, take, Option, refl, sym, ap, ◌∙◌, subst, arith, append-nil, length-append}
use Rattle.std.proofs.lemmas.Bool.{cases_lt, cases_eq}
use Rattle.std.proofs.lemmas.List.{take-append-le}
use Rattle.op_types.specs.Stops.{stop_at_end, named_by}
use Rattle.op_types.specs.declared.log.Entry.{Entry}
use Rattle.op_types.specs.declared.log.StopSign.{StopSign}
use Rattle.op_spec.specs.Machine.{members_of}
use Rattle.op_spec.specs.Laws.{NoneAfterStop}
use Rattle.op_spec.specs.Stands.{lists_through, prefix_of}

-- behind a stop-sign stands nothing
pub ended_whole : (l more : List Entry) → is_some (stop_at_end l) ≡ true → NoneAfterStop (l ++ more) → more ≡ []
ended_whole [] more e n = absurd (Rattle.std.proofs.lemmas.Bool.false≢true e)
ended_whole (x ∷ []) [] e n = refl
ended_whole (x ∷ []) (y ∷ more) e n = absurd (Rattle.std.proofs.lemmas.Bool.false≢true (ap (λ (o : Option StopSign). is_some o) (sym n.0) ∙ e))
ended_whole (x ∷ y ∷ l) more e n = ended_whole (y ∷ l) more e n.1

-- the lists go on, and none goes on behind a stop-sign
pub record Grown (lists lists' : ℕ → List Entry) : Type 0 where
  pub more : (c : ℕ) → (rest : List Entry) × (lists c ++ rest ≡ lists' c)
  pub ends : (c : ℕ) → NoneAfterStop (lists' c)

-- every list before a configuration ends in a stop-sign
abbrev pub AreEnded : (ℕ → List Entry) → ℕ → Type 0
AreEnded lists c = (x : ℕ) → 0 < x → x < c → is_some (stop_at_end (lists x)) ≡ true

-- as many entries of both lists are the same
pub take_grown : (l l' rest : List Entry) → l ++ rest ≡ l' → (n : ℕ) → n ≤ length l → take n l ≡ take n l'
take_grown l l' rest e n le = sym (take-append-le n l rest le) ∙ ap (take n) e

module _ (lists lists' : ℕ → List Entry) (g : Grown lists lists') where
  -- an ended list stays
  pub ended_same : (c : ℕ) → is_some (stop_at_end (lists c)) ≡ true → lists c ≡ lists' c
  ended_same c e =
      let m = g.more c in
      sym (append-nil (lists c)) ∙ ap (λ (l : List Entry). lists c ++ l) (sym (ended_whole (lists c) m.0 e (subst NoneAfterStop (sym m.1) (g.ends c)))) ∙ m.1

  pub still_ended : (c : ℕ) → AreEnded lists c → AreEnded lists' c
  still_ended c e x pos lt = subst (λ (l : List Entry). is_some (stop_at_end l) ≡ true) (ended_same x (e x pos lt)) (e x pos lt)

  through_to : (n c : ℕ) → n < c → AreEnded lists c → lists_through lists n ≡ lists_through lists' n
  through_to zero c lt e = refl
  through_to (suc n) c lt e =
      ap (λ (l : List Entry). l ++ lists (suc n)) (through_to n c (omega (arith, lt)) e) ∙ ap (λ (l : List Entry). lists_through lists' n ++ l) (ended_same (suc n) (e (suc n) (omega arith) lt))

  pub through_same : (c : ℕ) → AreEnded lists c → lists_through lists (c - 1) ≡ lists_through lists' (c - 1)
  through_same zero e = refl
  through_same (suc c) e =
      let at : suc c - 1 ≡ c = omega arith in
      ap (lists_through lists) at ∙ through_to c (suc c) (omega arith) e ∙ ap (lists_through lists') (sym at)

  -- all before a position of it
  pub prefix_same : (c n : ℕ) → AreEnded lists c → n ≤ length (lists c) → prefix_of lists c n ≡ prefix_of lists' c n
  prefix_same c n e le =
      let m = g.more c in
      ap (λ (l : List Entry). l ++ take n (lists c)) (through_same c e) ∙ ap (λ (l : List Entry). lists_through lists' (c - 1) ++ l) (take_grown (lists c) (lists' c) m.0 m.1 n le)

  -- and its members
  pub members_same : (first : List ℕ) (c : ℕ) → 0 < c → AreEnded lists c → members_of first lists c ≡ members_of first lists' c
  members_same first c pos e =
      by (eqb c 1) refl
    where
      by : (b : Bool) → eqb c 1 ≡ b → cond b first (named_by (stop_at_end (lists (c - 1)))) ≡ cond b first (named_by (stop_at_end (lists' (c - 1))))
      by true x = refl
      by false x =
          let above : 1 < c = ⊎_elim (λ (h : c ≡ 1). absurd (Rattle.std.proofs.lemmas.Bool.eqb-false c 1 x h)) (λ (h : c ≡ 1 → ⊥). ⊎_elim (λ (l : 1 < c). l) (λ (l : c ≤ 1). absurd (h (omega (arith, l, pos)))) (cases_lt 1 c)) (cases_eq c 1) in
          ap (λ (l : List Entry). named_by (stop_at_end l)) (ended_same (c - 1) (e (c - 1) (omega (arith, above)) (omega (arith, above))))

  pub longer : (c : ℕ) → length (lists c) ≤ length (lists' c)
  longer c = let m = g.more c in omega (arith, ap (λ (l : List Entry). length l) m.1, length-append (lists c) m.0)

-- where one list ends in a stop-sign, those before the next configuration are ended
pub ended_next : (lists : ℕ → List Entry) (c : ℕ) → AreEnded lists c → is_some (stop_at_end (lists c)) ≡ true → AreEnded lists (c + 1)
ended_next lists c e last x pos lt =
    ⊎_elim (λ (h : x ≡ c). ap (λ (y : ℕ). is_some (stop_at_end (lists y))) h ∙ last)
    (λ (h : x ≡ c → ⊥). e x pos (⊎_elim (λ (l : x < c). l) (λ (l : c ≤ x). absurd (h (omega (arith, l, lt)))) (cases_lt x c))) (cases_eq x c)

-- a list behind which stands another, that isn't empty and ends so
pub ends_behind : (l : List Entry) (e : Entry) (m : List Entry) → stop_at_end (l ++ e ∷ m) ≡ stop_at_end (e ∷ m)
ends_behind [] e m = refl
ends_behind (x ∷ []) e m = refl
ends_behind (x ∷ y ∷ l) e m = ends_behind (y ∷ l) e m
