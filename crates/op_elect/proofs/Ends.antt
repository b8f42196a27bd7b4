-- A round ends in one way.
use Rattle.std.proofs.Common.{◌≡◌, Bool, true, false, cond, ltb, List, refl, sym, ap, ◌∙◌}
use Rattle.std.proofs.lemmas.Bool.{cond_both, false≢true, ltb-true, ltb-false, lt-ltb, le-ltb}
use Rattle.op_types.specs.Limits.{greatest_number}
use Rattle.op_types.specs.Ballots.{is_below, greater}
use Rattle.op_types.proofs.Order.{is_total}
use Rattle.op_types.specs.declared.ballot.Ballot.{Ballot}
use Rattle.op_types.specs.declared.messages.Heard.{Heard}
use Rattle.op_types.specs.declared.verdict.Verdict.{Verdict}
use Rattle.op_types.specs.declared.verdict.Verdict.TheVariants as verdict
use Rattle.op_protocol.specs.Election.{Candidate, Elected, unheard, raised, exhausted, elected, unchanged, Ended, winner, least, raised_ballot, hears_majority, too_low, decided_by, round_end}

not_true : (b : Bool) → (b ≡ true → ⊥) → b ≡ false
not_true true h = absurd (h refl)
not_true false h = refl

-- a winner that isn't too low isn't below the leader's ballot
not_below_leader : (l f w : Ballot) → is_below w (greater l f) ≡ false → is_below w l ≡ false
not_below_leader l f w high =
    cond_both (is_below l f) f l (λ (g : Ballot). is_below w g ≡ false → is_below w l ≡ false)
    (λ lower not_f. not_true (is_below w l) (λ h. false≢true (sym not_f ∙ is_total.transitive w l f h lower)))
    (λ _ not_l. not_l) high

-- a winner that is neither too low nor above the leader's ballot is that one
pub is_leader : (l f w : Ballot) → is_below w (greater l f) ≡ false → is_below l w ≡ false → w ≡ l
is_leader l f w high above = is_total.total w l (not_below_leader l f w high) above

-- the function, by each of its tests
abbrev by_majority : Candidate → List Heard → Bool → Ended
by_majority c heard b = cond b (decided_by c (winner c heard)) (record { verdict = verdict.Nobody; after = record c { flag = false } })

abbrev by_lowness : Candidate → List Heard → Bool → Ended
by_lowness c heard b =
    cond b (too_low c) (cond (is_below c.leader (winner c heard)) (record { verdict = verdict.Elected (winner c heard); after = record c { leader = winner c heard; flag = true } }) (record { verdict = verdict.Nobody; after = record c { flag = true } }))

abbrev by_leader : Candidate → List Heard → Bool → Ended
by_leader c heard b = cond b (record { verdict = verdict.Elected (winner c heard); after = record c { leader = winner c heard; flag = true } }) (record { verdict = verdict.Nobody; after = record c { flag = true } })

abbrev by_room : Candidate → Bool → Ended
by_room c b = cond b (record { verdict = verdict.Raised (raised_ballot c); after = record c { own = raised_ballot c; flag = true } }) (record { verdict = verdict.Nobody; after = record c { flag = true } })

-- an end, as it is met
abbrev Meets : Candidate → List Heard → Ended → Type 0
Meets c heard e = Elected c heard e.verdict e.after

low_end : (c : Candidate) (heard : List Heard) → hears_majority c heard ≡ true → is_below (winner c heard) (least c) ≡ true → Meets c heard (too_low c)
low_end c heard majority low =
    cond_both (ltb (least c).number greatest_number) (record { verdict = verdict.Raised (raised_ballot c); after = record c { own = raised_ballot c; flag = true } }) (record { verdict = verdict.Nobody; after = record c { flag = true } }) (Meets c heard)
    (λ fits. raised majority low (ltb-true (least c).number greatest_number fits))
    (λ last. exhausted majority low (ltb-false (least c).number greatest_number last))

pub some_end : (c : Candidate) (heard : List Heard) → Elected c heard (round_end c heard).verdict (round_end c heard).after
some_end c heard =
    let w = winner c heard in
    let new : Ended = record { verdict = verdict.Elected w; after = record c { leader = w; flag = true } } in
    let same : Ended = record { verdict = verdict.Nobody; after = record c { flag = true } } in
    cond_both (hears_majority c heard) (decided_by c w) (record { verdict = verdict.Nobody; after = record c { flag = false } }) (Meets c heard)
    (λ majority. cond_both (is_below w (least c)) (too_low c) (cond (is_below c.leader w) new same) (Meets c heard)
    (λ low. low_end c heard majority low)
    (λ high. cond_both (is_below c.leader w) new same (Meets c heard) (λ above. elected majority high above) (λ below. unchanged majority high (is_leader c.leader c.floor w high below))))
    (λ few. unheard few)

-- the function's end in each case
function_end : (c d : Candidate) (heard : List Heard) (v : Verdict) → Elected c heard v d → round_end c heard ≡ record { verdict = v; after = d }
function_end c _ heard _ (unheard few) = ap (λ (b : Bool). by_majority c heard b) few
function_end c _ heard _ (raised majority low fits) =
    ap (by_majority c heard) majority ∙ ap (by_lowness c heard) low ∙ ap (by_room c) (lt-ltb (least c).number greatest_number fits)
function_end c _ heard _ (exhausted majority low last) =
    ap (by_majority c heard) majority ∙ ap (by_lowness c heard) low ∙ ap (by_room c) (le-ltb (least c).number greatest_number last)
function_end c _ heard _ (elected majority high above) = ap (by_majority c heard) majority ∙ ap (by_lowness c heard) high ∙ ap (by_leader c heard) above
function_end c _ heard _ (unchanged majority high same) =
    ap (by_majority c heard) majority ∙ ap (by_lowness c heard) high ∙ ap (by_leader c heard) (ap (is_below c.leader) same ∙ is_total.irreflexive c.leader)

pub one_end : (c d : Candidate) (heard : List Heard) (v : Verdict) → Elected c heard v d → (v ≡ (round_end c heard).verdict) × (d ≡ (round_end c heard).after)
one_end c d heard v e = let is = sym (function_end c d heard v e) in (ap (λ (x : Ended). x.verdict) is, ap (λ (x : Ended). x.after) is)
