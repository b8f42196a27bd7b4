-- What is added to the lists, and which of them are reported.
use Rattle.std.proofs.Common.{◌≡◌, ◌<◌, ◌+◌, ◌-◌, ℕ, suc, Bool, true, false, eqb, List, [], ◌∷◌, ◌++◌, length, drop, take, Option, Some, None, IfSome, Result, Ok, Err, OnOk, option_map, refl, sym, ap, ◌∙◌, arith, append_assoc}
use Rattle.std.proofs.lemmas.Bool.{cond-false, eqb-true}
use Rattle.op_types.specs.Stops.{stop_at_end}
use Rattle.op_types.specs.declared.durable.Closed.{Closed}
use Rattle.op_types.specs.declared.durable.Durable.{Durable}
use Rattle.op_types.specs.declared.durable.Part.{Part}
use Rattle.op_types.specs.declared.log.Entry.{Entry}
use Rattle.op_spec.specs.Ledger.{part_entries, closed_entries}
use Rattle.op_runs.specs.declared.summary.Listed.{Listed}
use Rattle.op_runs.specs.Summary.{listed_from}
use Rattle.op_world.specs.Ledgers.{list_at, ShowsMore}

-- ---- what is added

-- what a part has decided from the end of its list on
part_from : (old : List (List Entry)) (o : Option Part) (n : ℕ) → IfSome o (λ p. n ≡ length (list_at old p.conf)) → (conf : ℕ) → part_entries o conf n ≡ part_entries o conf (length (list_at old conf))
part_from old None n is conf = refl
part_from old (Some p) n is conf = by (eqb conf p.conf) refl
  where
    by : (b : Bool) → eqb conf p.conf ≡ b → part_entries (Some p) conf n ≡ part_entries (Some p) conf (length (list_at old conf))
    by true e = ap (λ (m : ℕ). part_entries (Some p) conf m) (is ∙ ap (λ (c : ℕ). length (list_at old c)) (sym (eqb-true conf p.conf e)))
    by false e = cond-false (eqb conf p.conf) (drop (n - p.trimmed) (take (p.decided - p.trimmed) p.tail.items)) [] e ∙ sym (cond-false (eqb conf p.conf) (drop (length (list_at old conf) - p.trimmed) (take (p.decided - p.trimmed) p.tail.items)) [] e)

closed_from : (old : List (List Entry)) (o : Option Closed) (n : ℕ) → IfSome o (λ l. n ≡ length (list_at old l.conf)) → (conf : ℕ) → closed_entries o conf n ≡ closed_entries o conf (length (list_at old conf))
closed_from old None n is conf = refl
closed_from old (Some l) n is conf = by (eqb conf l.conf) refl
  where
    by : (b : Bool) → eqb conf l.conf ≡ b → closed_entries (Some l) conf n ≡ closed_entries (Some l) conf (length (list_at old conf))
    by true e = ap (λ (m : ℕ). closed_entries (Some l) conf m) (is ∙ ap (λ (c : ℕ). length (list_at old c)) (sym (eqb-true conf l.conf e)))
    by false e = cond-false (eqb conf l.conf) (drop (n - l.trimmed) l.tail) [] e ∙ sym (cond-false (eqb conf l.conf) (drop (length (list_at old conf) - l.trimmed) l.tail) [] e)

-- the part's entries and the closed list's are those of the stored state
pub shown_more : (d : Durable) (old mid new : List (List Entry)) (n m : ℕ) → IfSome d.part (λ p. n ≡ length (list_at old p.conf)) → IfSome d.closed (λ l. m ≡ length (list_at old l.conf))
    → ((conf : ℕ) → list_at mid conf ≡ list_at old conf ++ part_entries d.part conf n) → ((conf : ℕ) → list_at new conf ≡ list_at mid conf ++ closed_entries d.closed conf m) → ShowsMore old d new
shown_more d old mid new n m part closed first second conf =
    let l : List Entry = list_at old conf in
    second conf
    ∙ ap (λ (es : List Entry). es ++ closed_entries d.closed conf m) (first conf)
    ∙ append_assoc l (part_entries d.part conf n) (closed_entries d.closed conf m)
    ∙ ap (λ (es : List Entry). l ++ (es ++ closed_entries d.closed conf m)) (part_from old d.part n part conf)
    ∙ ap (λ (es : List Entry). l ++ (part_entries d.part conf (length l) ++ es)) (closed_from old d.closed m closed conf)

pub shown_if : {T E : Type 0} (r : Result T E) (d : Durable) (old mid new : List (List Entry)) (n m : ℕ) → IfSome d.part (λ p. n ≡ length (list_at old p.conf)) → IfSome d.closed (λ l. m ≡ length (list_at old l.conf))
    → ((conf : ℕ) → list_at mid conf ≡ list_at old conf ++ part_entries d.part conf n) → OnOk r ((conf : ℕ) → list_at new conf ≡ list_at mid conf ++ closed_entries d.closed conf m) → OnOk r (ShowsMore old d new)
shown_if (Ok x) d old mid new n m part closed first second = shown_more d old mid new n m part closed first second
shown_if (Err e) d old mid new n m part closed first second = tt

-- ---- what is reported

-- so far these were listed of the lists, and the next one has these members; the lists from there on are still there
pub record Lists (lists left : List (List Entry)) (members : List ℕ) (count before : ℕ) (next : Option (List ℕ)) (listed : List Listed) : Type 0 where
  pub whole : listed ++ listed_from (list_at lists) (count - before) (before + 1) next ≡ listed_from (list_at lists) count 1 (Some members)
  pub left_there : (conf : ℕ) → before < conf → list_at left conf ≡ list_at lists conf

pub lists_next : (lists left more : List (List Entry)) (members ms : List ℕ) (count before : ℕ) (next after : Option (List ℕ)) (listed new : List Listed) (x : Listed) (entries : List Entry)
    → Lists lists left members count before next listed → before < count → next ≡ Some ms → entries ≡ list_at left (before + 1) → ((conf : ℕ) → before + 1 < conf → list_at more conf ≡ list_at left conf)
    → after ≡ option_map (λ s. s.members) (stop_at_end entries) → x ≡ record { conf = before + 1; members = ms; entries = entries } → new ≡ listed ++ x ∷ [] → Lists lists more members count (before + 1) after new
lists_next lists left more members ms count before next after listed new x entries old low has is others named x_is pushed =
    let f : ℕ → List Entry = list_at lists in
    let here : entries ≡ f (before + 1) = is ∙ old.left_there (before + 1) (omega arith) in
    let size : count - before ≡ suc (count - (before + 1)) = omega (arith, low) in
    let y : Listed = record { conf = before + 1; members = ms; entries = f (before + 1) } in
    let x_at : x ≡ y = x_is ∙ ap (λ (es : List Entry). let z : Listed = record { conf = before + 1; members = ms; entries = es } in z) here in
    let tail : List Listed = listed_from f (count - (before + 1)) (before + 1 + 1) after in
    let unfolds : listed_from f (count - before) (before + 1) next ≡ y ∷ tail =
    ap (λ (o : Option (List ℕ)). listed_from f (count - before) (before + 1) o) has
    ∙ ap (λ (n : ℕ). listed_from f n (before + 1) (Some ms)) size
    ∙ ap (λ (o : Option (List ℕ)). y ∷ listed_from f (count - (before + 1)) (before + 1 + 1) o) (sym (named ∙ ap (λ (es : List Entry). option_map (λ s. s.members) (stop_at_end es)) here)) in
    record {
      whole = ap (λ (ls : List Listed). ls ++ tail) pushed ∙ append_assoc listed (x ∷ []) tail ∙ ap (λ (z : Listed). listed ++ (z ∷ tail)) x_at ∙ ap (λ (ls : List Listed). listed ++ ls) (sym unfolds) ∙ old.whole;
      left_there = λ conf above. others conf above ∙ old.left_there conf (omega (arith, above));
    }
