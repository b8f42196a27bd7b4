-- The cases of a tick's step: by its verdict, and it asks nobody to be prepared; or it heard no majority, and asks those that it heard.
use Rattle.std.proofs.Common.{◌≡◌, ◌&&◌, ℕ, Bool, true, false, not, List, [], refl, sym, ap, subst, append-nil}
use Rattle.std.proofs.lemmas.Bool.{cond_both, true≢false, false≢true}
use Rattle.std.specs.Prelude.{nat_lt}
use Rattle.op_types.specs.Limits.{greatest_number}
use Rattle.op_types.specs.Ballots.{no_ballot, is_below}
use Rattle.op_types.specs.declared.ballot.Ballot.{Ballot}
use Rattle.op_types.specs.declared.durable.Part.{Part}
use Rattle.op_types.specs.declared.messages.Heard.{Heard}
use Rattle.op_types.specs.declared.messages.Msg.{Msg}
use Rattle.op_types.specs.declared.verdict.Verdict.{Verdict}
use Rattle.op_types.specs.declared.verdict.Verdict.TheVariants as verdict
use Rattle.op_protocol.specs.Election.{Candidate, greatest, hears_majority, winner, least, decided_by, Ended, round_end}
use Rattle.op_protocol.specs.State.{Volatile, PartStep}
use Rattle.op_protocol.specs.Tick.{candidate_of, next_round_state, with_floor_at, only_asks, by_verdict, asks_heard, also_sending, on_tick}

-- where the flag is then false, nobody is elected
abbrev Elects : Ended → Type 0
Elects e = e.after.flag ≡ false → e.verdict ≡ verdict.Nobody

pub unheard_elects_nobody : (c : Candidate) (heard : List Heard) → (round_end c heard).after.flag ≡ false → (round_end c heard).verdict ≡ verdict.Nobody
unheard_elects_nobody c heard = cond_both (hears_majority c heard) _ _ Elects (λ _. decided (winner c heard)) (λ _ _. refl)
  where
    decided : (g : Ballot) → Elects (decided_by c g)
    decided g =
        cond_both (is_below g (least c)) _ _ Elects (λ _. cond_both (nat_lt (least c).number greatest_number) _ _ Elects (λ _ h. absurd (true≢false h)) (λ _ h. absurd (true≢false h)))
        (λ _. cond_both (is_below c.leader g) _ _ Elects (λ _ h. absurd (true≢false h)) (λ _ h. absurd (true≢false h)))

-- who sends nothing more
pub also_nothing : (x : PartStep) → also_sending x [] ≡ x
also_nothing x = ap (λ (l : List (ℕ × Msg)). record x { sends = l }) (append-nil x.sends)

-- what a tick knows when its round has ended
abbrev pub ended_at : ℕ → Part → Volatile → Ended
ended_at me p v = round_end (candidate_of me p v) v.heard

-- what it keeps in memory for the next one
abbrev pub begun_at : ℕ → Part → Volatile → Volatile
begun_at me p v = with_floor_at (next_round_state v (ended_at me p v).after) p.promised

-- whether it asks those that it heard to prepare it
abbrev pub asks_some : ℕ → Part → Volatile → Bool
asks_some me p v = not (ended_at me p v).after.flag && is_below (greatest no_ballot v.heard) p.promised

not_both : (b c : Bool) → (not b && c) ≡ true → b ≡ false
not_both false c h = refl
not_both true c h = absurd (false≢true h)

-- a tick is one of the two
pub tick_cases : (P : PartStep → Type 0) (me : ℕ) (p : Part) (v : Volatile) → (asks_some me p v ≡ false → P (by_verdict me p (begun_at me p v) (ended_at me p v).verdict))
    → (asks_some me p v ≡ true → P (also_sending (only_asks me p (begun_at me p v)) (asks_heard me p v.heard))) → P (on_tick me p v)
tick_cases P me p v nobody some =
    cond_both (asks_some me p v) (asks_heard me p v.heard) [] (λ (l : List (ℕ × Msg)). P (also_sending (by_verdict me p (begun_at me p v) (ended_at me p v).verdict) l))
    (λ h.
    let none : (ended_at me p v).verdict ≡ verdict.Nobody = unheard_elects_nobody (candidate_of me p v) v.heard (not_both (ended_at me p v).after.flag (is_below (greatest no_ballot v.heard) p.promised) h) in
    subst (λ (x : Verdict). P (also_sending (by_verdict me p (begun_at me p v) x) (asks_heard me p v.heard))) (sym none) (some h))
    (λ h. subst P (sym (also_nothing (by_verdict me p (begun_at me p v) (ended_at me p v).verdict))) (nobody h))
