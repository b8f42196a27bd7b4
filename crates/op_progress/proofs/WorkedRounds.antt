-- Rounds that are computed by the definitions: what two of three members tell whose leader stopped before it answered them, and all
-- three when they begin.
use Rattle.std.proofs.Common.{◌≡◌, ◌&&◌, ◌||◌, not, ℕ, zero, suc, Bool, true, false, eqb, List, [], ◌∷◌, length, refl, subst, arith}
use Rattle.std.proofs.lemmas.Bool.{eqb-true, false≢true}
use Rattle.op_types.specs.declared.ballot.Ballot.{Ballot}
use Rattle.op_types.specs.declared.messages.Body.{Body}
use Rattle.op_types.specs.declared.messages.Body.TheVariants as body
use Rattle.op_runs.specs.declared.events.What.TheVariants as what
use Rattle.op_runs.specs.declared.summary.Line.{Line}
use Rattle.op_runs.specs.declared.summary.Line.TheVariants.{Ballots}
use Rattle.op_runs.specs.World.{World, Sent, node_at, first_world}
use Rattle.op_gen.specs.Links.{Links, is_linked, all_links}
use Rattle.op_lockstep.specs.Lockstep.{event_of, after_events, ticks, deliveries, after_round, ballots}
use Rattle.op_lockstep.specs.Reach.{IsOneOf}
use Rattle.op_lockstep.proofs.Lists.{Each-at, by_test}
use Rattle.op_progress.specs.Progress.{HearOneAnother, is_heartbeat, LeadsBallot}

abbrev b : ℕ → ℕ → Ballot
b n p = record { number = n; pid = p }

-- ---- rounds in which all is delivered
-- a message that comes behind the heartbeats
abbrev goes_behind : Links → Sent → Bool
goes_behind links m = is_linked links m.from m.to && not (is_heartbeat m.message.body)

-- all of these that were sent from this number on are delivered
abbrev wave : Links → ℕ → World → World
wave links since w = after_events w (deliveries (goes_behind links) since w.messages)

-- then all that these sent, so many times
abbrev waves : Links → ℕ → ℕ → World → World
waves links zero since w = w
waves links (suc k) since w = waves links k (length w.messages) (wave links since w)

-- so many rounds, of four waves each
abbrev full : List ℕ → Links → ℕ → World → World
full group links zero w = w
full group links (suc k) w = full group links k (waves links 4 (length w.messages) (after_round group links w))

-- what they tell then
abbrev told : List ℕ → World → List Line
told group w = (after_events w (ballots group)).lines

-- ---- three members begin
abbrev three : List ℕ
three = 1 ∷ 2 ∷ 3 ∷ []

abbrev begun : World
begun = full three (all_links three) 3 (first_world three [])

-- all have promised one ballot
begins : told three begun ≡ Ballots 1 (b 1 1) (b 1 3) (b 1 3) ∷ Ballots 2 (b 1 2) (b 1 3) (b 1 3) ∷ Ballots 3 (b 1 3) (b 1 3) (b 1 3) ∷ []
begins = refl

-- ---- a leader that two members promised, and never heard
abbrev two : List ℕ
two = 1 ∷ 2 ∷ []

abbrev one_link : Links
one_link = (1, 2) ∷ []

-- server 3 stops, and the others elect server 2, which leads
abbrev without_third : World
without_third = full two one_link 4 (after_events begun (event_of (what.Crash 3) ∷ []))

elects_second : told two without_third ≡ Ballots 1 (b 2 1) (b 2 2) (b 2 2) ∷ Ballots 2 (b 2 2) (b 2 2) (b 2 2) ∷ []
elects_second = refl

second_leads : LeadsBallot (b 2 2) (node_at without_third.nodes 2)
second_leads = refl

-- it comes back, and is elected with the others' heartbeats of one round
abbrev back : World
back = full three (all_links three) 1 (after_events without_third (event_of (what.Start 3) ∷ []))

abbrev prepares : Body → Bool
prepares (body.Prepare n na nl nd) = true
prepares _ = false

abbrev is_prepare : Sent → Bool
is_prepare m = prepares m.message.body

-- the others promise its ballot, and it stops before they hear that it hears a majority
abbrev stranded : World
stranded =
    let w : World = after_events back (ticks three) in
    after_events (after_events w (deliveries is_prepare (length back.messages) w.messages)) (event_of (what.Crash 3) ∷ [])

strands : told two stranded ≡ Ballots 1 (b 2 1) (b 2 2) (b 2 3) ∷ Ballots 2 (b 2 2) (b 2 2) (b 2 3) ∷ []
strands = refl

-- after four rounds both take one ballot for the leader's, which both have promised
recovers : told two (full two one_link 4 stranded) ≡ Ballots 1 (b 3 1) (b 3 2) (b 3 2) ∷ Ballots 2 (b 3 2) (b 3 2) (b 3 2) ∷ []
recovers = refl

-- and server 2 leads it
recovered_leads : LeadsBallot (b 3 2) (node_at (full two one_link 4 stranded).nodes 2)
recovered_leads = refl

-- the law speaks of these two
two_hear : HearOneAnother three one_link two
two_hear =
    record {
      all_members = λ q m. Each-at (IsOneOf three) two (refl, (refl, tt)) q m;
      rising = (omega arith, omega arith, (omega arith, omega arith, tt));
      majority = refl;
      linked = λ p q m k other. Each-at (λ p. (q : ℕ) → IsOneOf two q → (p ≡ q → ⊥) → is_linked one_link p q ≡ true) two (from_first, (from_second, tt)) p m q k other;
      apart = λ p q m l. Each-at (λ p. (q : ℕ) → is_linked one_link p q ≡ true → IsOneOf two q) two (first_apart, (second_apart, tt)) p m q l;
    }
  where
    from_first : (q : ℕ) → IsOneOf two q → (1 ≡ q → ⊥) → is_linked one_link 1 q ≡ true
    from_first q k other = Each-at (λ q. (1 ≡ q → ⊥) → is_linked one_link 1 q ≡ true) two ((λ d. absurd (d refl)), ((λ _. refl), tt)) q k other

    from_second : (q : ℕ) → IsOneOf two q → (2 ≡ q → ⊥) → is_linked one_link 2 q ≡ true
    from_second q k other = Each-at (λ q. (2 ≡ q → ⊥) → is_linked one_link 2 q ≡ true) two ((λ _. refl), ((λ d. absurd (d refl)), tt)) q k other

    first_apart : (q : ℕ) → is_linked one_link 1 q ≡ true → IsOneOf two q
    first_apart q l =
        by_test (eqb 2 q) (λ (x : Bool). eqb 2 q ≡ x → ((x || (eqb 1 q && false)) || false) ≡ true → IsOneOf two q) (λ _ e _. subst (IsOneOf two) (eqb-true 2 q e) refl)
        (λ _ _ k. by_test (eqb 1 q) (λ (y : Bool). ((false || (y && false)) || false) ≡ true → IsOneOf two q) (λ _ f. absurd (false≢true f)) (λ _ f. absurd (false≢true f)) k) refl l

    second_apart : (q : ℕ) → is_linked one_link 2 q ≡ true → IsOneOf two q
    second_apart q l =
        by_test (eqb 1 q) (λ (x : Bool). eqb 1 q ≡ x → ((false || (x && true)) || false) ≡ true → IsOneOf two q) (λ _ e _. subst (IsOneOf two) (eqb-true 1 q e) refl) (λ _ _ k. absurd (false≢true k)) refl l
