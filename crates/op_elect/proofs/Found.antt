-- The end of a round, from what the code finds.
use Rattle.std.proofs.Common.{◌≡◌, ℕ, ◌+◌, ◌≤◌, ◌<◌, Bool, true, false, cond, ltb, Option, Some, None, List, sym, ap, ◌∙◌, subst}
use Rattle.std.proofs.lemmas.Bool.{cond_both, ltb-true, ltb-false}
use Rattle.op_types.specs.Limits.{greatest_number}
use Rattle.op_types.specs.Ballots.{is_below}
use Rattle.op_types.specs.declared.ballot.Ballot.{Ballot}
use Rattle.op_types.specs.declared.messages.Heard.{Heard}
use Rattle.op_types.specs.declared.verdict.Verdict.{Verdict}
use Rattle.op_types.specs.declared.verdict.Verdict.TheVariants as verdict
use Rattle.op_protocol.specs.Election.{Candidate, Elected, unheard, raised, exhausted, elected, unchanged, winner, least, hears_majority}
use Rattle.op_elect.proofs.Ends.{is_leader}

-- ---- the ballot above another one

abbrev above : ℕ → Ballot → Option Ballot
above me l = cond (ltb l.number greatest_number) (Some (record { number = l.number + 1; pid = me })) None

some_above : (me : ℕ) (l r : Ballot) → above me l ≡ Some r → (l.number < greatest_number) × (record { number = l.number + 1; pid = me } ≡ r)
some_above me l r =
    cond_both (ltb l.number greatest_number) (Some (record { number = l.number + 1; pid = me })) None (λ (o : Option Ballot). o ≡ Some r → (l.number < greatest_number) × (record { number = l.number + 1; pid = me } ≡ r))
    (λ fits is. (ltb-true l.number greatest_number fits, cc)) (λ last is. absurd cc)

none_above : (me : ℕ) (l : Ballot) → above me l ≡ None → greatest_number ≤ l.number
none_above me l =
    cond_both (ltb l.number greatest_number) (Some (record { number = l.number + 1; pid = me })) None (λ (o : Option Ballot). o ≡ None → greatest_number ≤ l.number)
    (λ fits is. absurd cc) (λ last is. ltb-false l.number greatest_number last)

-- ---- the cases

pub unheard_by : (c : Candidate) (heard : List Heard) (b : Bool) → b ≡ hears_majority c heard → b ≡ false → Elected c heard verdict.Nobody (record c { flag = b })
unheard_by c heard b is few = subst (λ (f : Bool). Elected c heard verdict.Nobody (record c { flag = f })) (sym few) (unheard (sym is ∙ few))

-- what the code knows where a majority was heard: the flag, the winner and the least ballot
pub record Heeds (c : Candidate) (heard : List Heard) (b : Bool) (w l : Ballot) : Type 0 where
  pub flag : b ≡ hears_majority c heard
  pub majority : b ≡ true
  pub winner : w ≡ winner c heard
  pub least : l ≡ least c

majority_of : (c : Candidate) (heard : List Heard) (b : Bool) (w l : Ballot) → Heeds c heard b w l → hears_majority c heard ≡ true
majority_of c heard b w l h = sym h.flag ∙ h.majority

-- the test of the winner, as the cases have it
low_of : (c : Candidate) (heard : List Heard) (b : Bool) (w l : Ballot) (low t : Bool) → Heeds c heard b w l → low ≡ is_below w l → low ≡ t → is_below (winner c heard) (least c) ≡ t
low_of c heard b w l low t h is told = ap (λ (x : Ballot). is_below x (least c)) (sym h.winner) ∙ ap (is_below w) (sym h.least) ∙ sym is ∙ told

pub raised_by : (c : Candidate) (heard : List Heard) (b low : Bool) (w l r : Ballot) (o : Option Ballot) → Heeds c heard b w l → low ≡ is_below w l → low ≡ true → o ≡ above c.me l → o ≡ Some r
    → Elected c heard (verdict.Raised r) (record c { own = r; flag = b })
raised_by c heard b low w l r o h is told room here =
    let s = some_above c.me (least c) r (ap (above c.me) (sym h.least) ∙ sym room ∙ here) in
    subst (λ (f : Bool). Elected c heard (verdict.Raised r) (record c { own = r; flag = f })) (sym h.majority)
    (subst (λ (x : Ballot). Elected c heard (verdict.Raised x) (record c { own = x; flag = true })) s.1
    (raised (majority_of c heard b w l h) (low_of c heard b w l low true h is told) s.0))

pub exhausted_by : (c : Candidate) (heard : List Heard) (b low : Bool) (w l : Ballot) (o : Option Ballot) → Heeds c heard b w l → low ≡ is_below w l → low ≡ true → o ≡ above c.me l → o ≡ None
    → Elected c heard verdict.Nobody (record c { flag = b })
exhausted_by c heard b low w l o h is told room none =
    subst (λ (f : Bool). Elected c heard verdict.Nobody (record c { flag = f })) (sym h.majority)
    (exhausted (majority_of c heard b w l h) (low_of c heard b w l low true h is told) (none_above c.me (least c) (ap (above c.me) (sym h.least) ∙ sym room ∙ none)))

pub elected_by : (c : Candidate) (heard : List Heard) (b low high : Bool) (w l : Ballot) → Heeds c heard b w l → low ≡ is_below w l → low ≡ false → high ≡ is_below c.leader w → high ≡ true
    → Elected c heard (verdict.Elected w) (record c { leader = w; flag = b })
elected_by c heard b low high w l h is told over is_over =
    subst (λ (f : Bool). Elected c heard (verdict.Elected w) (record c { leader = w; flag = f })) (sym h.majority)
    (subst (λ (x : Ballot). Elected c heard (verdict.Elected x) (record c { leader = x; flag = true })) (sym h.winner)
    (elected (majority_of c heard b w l h) (low_of c heard b w l low false h is told) (ap (is_below c.leader) (sym h.winner) ∙ sym over ∙ is_over)))

pub unchanged_by : (c : Candidate) (heard : List Heard) (b low high : Bool) (w l : Ballot) → Heeds c heard b w l → low ≡ is_below w l → low ≡ false → high ≡ is_below c.leader w → high ≡ false
    → Elected c heard verdict.Nobody (record c { flag = b })
unchanged_by c heard b low high w l h is told over is_over =
    let not_low = low_of c heard b w l low false h is told in
    subst (λ (f : Bool). Elected c heard verdict.Nobody (record c { flag = f })) (sym h.majority)
    (unchanged (majority_of c heard b w l h) not_low (is_leader c.leader c.floor (winner c heard) not_low (ap (is_below c.leader) (sym h.winner) ∙ sym over ∙ is_over)))

-- the same, from what the value shows
pub of_view : (c shown d : Candidate) (heard : List Heard) (v : Verdict) → c ≡ shown → Elected c heard v d → Elected shown heard v d
of_view c shown d heard v is e = subst (λ (x : Candidate). Elected x heard v d) is e
