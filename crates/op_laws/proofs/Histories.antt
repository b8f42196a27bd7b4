-- The history that a report tells: the lists one after the other, as far as stop-signs end them. It only goes on.
use Rattle.std.proofs.Common.{◌≡◌, ◌≤◌, ◌<◌, ℕ, zero, suc, ◌+◌, List, [], ◌∷◌, ◌++◌, Option, Some, None, is_some, true, refl, sym, ap, ◌∙◌, subst, arith, append-nil, append_assoc}
use Rattle.std.specs.Prelude.{option_map}
use Rattle.std.proofs.lemmas.Bool.{false≢true}
use Rattle.op_types.specs.Stops.{stop_at_end}
use Rattle.op_types.specs.declared.log.Entry.{Entry}
use Rattle.op_types.specs.declared.log.StopSign.{StopSign}
use Rattle.op_spec.specs.Laws.{NoneAfterStop}
use Rattle.op_spec.specs.Stands.{lists_through}
use Rattle.op_runs.specs.Replies.{history_of}
use Rattle.op_runs.specs.Summary.{listed_from}

-- the history of so many lists from a configuration on
abbrev pub history_from : (ℕ → List Entry) → ℕ → ℕ → Option (List ℕ) → List Entry
history_from lists count conf members = history_of (listed_from lists count conf members)

-- nobody is named: nothing is told
pub history_none : (lists : ℕ → List Entry) (count conf : ℕ) → history_from lists count conf None ≡ []
history_none lists zero conf = refl
history_none lists (suc count) conf = refl

-- those that a stop-sign at the end names
abbrev pub next_of : List Entry → Option (List ℕ)
next_of l = option_map (λ s. s.members) (stop_at_end l)

none_some : {A : Type 0} (a : A) → None ≡ Some a → ⊥
none_some a e = cc

-- behind a stop-sign stands nothing
pub ended_whole : (l more : List Entry) (s : StopSign) → stop_at_end l ≡ Some s → NoneAfterStop (l ++ more) → more ≡ []
ended_whole [] more s e n = absurd (none_some s e)
ended_whole (x ∷ []) [] s e n = refl
ended_whole (x ∷ []) (y ∷ more) s e n = absurd (none_some s (sym n.0 ∙ e))
ended_whole (x ∷ y ∷ l) more s e n = ended_whole (y ∷ l) more s e n.1

-- the lists go on, and none goes on behind a stop-sign
pub record Goes_on (lists lists' : ℕ → List Entry) : Type 0 where
  pub grown : (c : ℕ) → (more : List Entry) × (lists' c ≡ lists c ++ more)
  pub ends : (c : ℕ) → NoneAfterStop (lists' c)

module _ (lists lists' : ℕ → List Entry) (g : Goes_on lists lists') where
  -- an ended list stays
  pub ended_same : (c : ℕ) (s : StopSign) → stop_at_end (lists c) ≡ Some s → lists' c ≡ lists c
  ended_same c s e =
      let m = g.grown c in
      m.1 ∙ ap (λ (l : List Entry). lists c ++ l) (ended_whole (lists c) m.0 s e (subst NoneAfterStop m.1 (g.ends c))) ∙ append-nil (lists c)

  -- so the history goes on
  pub history_grows : (count count' conf : ℕ) (members : Option (List ℕ)) → count ≤ count' → (more : List Entry) × (history_from lists' count' conf members ≡ history_from lists count conf members ++ more)
  history_grows count count' conf None le = ([], history_none lists' count' conf ∙ sym (append-nil _ ∙ history_none lists count conf))
  history_grows zero count' conf (Some members) le = (history_from lists' count' conf (Some members), refl)
  history_grows (suc count) zero conf (Some members) le = absurd (omega (arith, le))
  history_grows (suc count) (suc count') conf (Some members) le = by (stop_at_end (lists conf)) refl (λ o. history_grows count count' (conf + 1) o (omega (arith, le)))
    where
      by : (o : Option StopSign) → stop_at_end (lists conf) ≡ o → ((n : Option (List ℕ)) → (more : List Entry) × (history_from lists' count' (conf + 1) n ≡ history_from lists count (conf + 1) n ++ more))
          → (more : List Entry) × (lists' conf ++ history_from lists' count' (conf + 1) (next_of (lists' conf)) ≡ (lists conf ++ history_from lists count (conf + 1) (next_of (lists conf))) ++ more)
      by None e more =
          let m = g.grown conf in
          let rest : List Entry = history_from lists' count' (conf + 1) (next_of (lists' conf)) in
          let bare : history_from lists count (conf + 1) (next_of (lists conf)) ≡ [] =
          ap (λ (x : Option StopSign). history_from lists count (conf + 1) (option_map (λ s. s.members) x)) e ∙ history_none lists count (conf + 1) in (
            m.0 ++ rest,
            ap (λ (l : List Entry). l ++ rest) m.1 ∙ append_assoc (lists conf) m.0 rest
                ∙ ap (λ (l : List Entry). l ++ (m.0 ++ rest)) (sym (ap (λ (l : List Entry). lists conf ++ l) bare ∙ append-nil (lists conf))),
          )
      by (Some s) e more =
          let same : lists' conf ≡ lists conf = ended_same conf s e in
          let r = more (next_of (lists conf)) in (
            r.0,
            ap (λ (l : List Entry). l ++ history_from lists' count' (conf + 1) (next_of l)) same ∙ ap (λ (l : List Entry). lists conf ++ l) r.1
                ∙ sym (append_assoc (lists conf) (history_from lists count (conf + 1) (next_of (lists conf))) r.0),
          )

-- ---- the front up to a configuration

some_members : (o : Option StopSign) → is_some o ≡ true → (m : List ℕ) × (option_map (λ s. s.members) o ≡ Some m)
some_members None e = absurd (false≢true e)
some_members (Some s) e = (s.members, refl)

-- where so many lists from a configuration on are ended, the history has them, and the next one
pub history_front : (lists : ℕ → List Entry) (n count k : ℕ) (members : List ℕ) → n < count → ((c : ℕ) → k < c → c ≤ k + n → is_some (stop_at_end (lists c)) ≡ true)
    → (more : List Entry) × (lists_through lists k ++ history_from lists count (suc k) (Some members) ≡ lists_through lists (k + n) ++ (lists (suc (k + n)) ++ more))
history_front lists n zero k members lt ended = absurd (omega (arith, lt))
history_front lists zero (suc count) k members lt ended =
    let rest : List Entry = history_from lists count (suc k + 1) (next_of (lists (suc k))) in
    let e : k + 0 ≡ k = omega arith in
    (rest, ap (λ (c : ℕ). lists_through lists c ++ (lists (suc c) ++ rest)) (sym e))
history_front lists (suc n) (suc count) k members lt ended =
    let m = some_members (stop_at_end (lists (suc k))) (ended (suc k) (omega arith) (omega arith)) in
    let r = history_front lists n count (suc k) m.0 (omega (arith, lt)) (λ c a b. ended c (omega (arith, a)) (omega (arith, b))) in
    let at : suc k + 1 ≡ suc (suc k) = omega arith in
    let to : suc k + n ≡ k + suc n = omega arith in (
      r.0,
      ap (λ (o : Option (List ℕ)). lists_through lists k ++ (lists (suc k) ++ history_from lists count (suc k + 1) o)) m.1
          ∙ ap (λ (c : ℕ). lists_through lists k ++ (lists (suc k) ++ history_from lists count c (Some m.0))) at
          ∙ sym (append_assoc (lists_through lists k) (lists (suc k)) (history_from lists count (suc (suc k)) (Some m.0)))
          ∙ r.1 ∙ ap (λ (c : ℕ). lists_through lists c ++ (lists (suc c) ++ r.0)) to,
    )
