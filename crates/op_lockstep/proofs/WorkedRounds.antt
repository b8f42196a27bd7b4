-- Drills of links that are computed by the definitions: the ballots that each member then tells.
use Rattle.std.proofs.Common.{◌≡◌, ◌<◌, ◌+◌, ℕ, false, List, [], ◌∷◌, Some, refl, arith}
use Rattle.op_types.specs.Limits.{greatest_number}
use Rattle.op_types.specs.declared.ballot.Ballot.{Ballot}
use Rattle.op_runs.specs.declared.summary.Line.{Line}
use Rattle.op_runs.specs.declared.summary.Line.TheVariants.{Ballots}
use Rattle.op_gen.specs.Links.{Links}
use Rattle.op_runs.specs.World.{node_at, first_durable, first_node, first_world}
use Rattle.op_lockstep.specs.Lockstep.{hears_majority_over, after_events, lockstep, links_drill}
use Rattle.op_lockstep.specs.Reach.{HearsAlone, IsUpWithRoom, AreUpWithRoom}
use Rattle.op_lockstep.proofs.Lists.{Each-at}

abbrev b : ℕ → ℕ → Ballot
b n p = record { number = n; pid = p }

-- what each member tells after a drill
abbrev told : List ℕ → Links → ℕ → List Line
told members links rounds = (after_events (first_world members []) (links_drill members links rounds)).lines

-- servers 1 and 3 hear server 2 alone
chained : told (1 ∷ 2 ∷ 3 ∷ []) ((1, 2) ∷ (2, 3) ∷ []) 3
    ≡ Ballots 1 (b 2 1) (b 2 1) (b 2 1) ∷ Ballots 2 (b 1 2) (b 2 1) (b 1 2) ∷ Ballots 3 (b 1 3) (b 1 3) (b 1 3) ∷ []
unfolding links_drill lockstep
chained = refl

abbrev five : List ℕ
five = 1 ∷ 2 ∷ 3 ∷ 4 ∷ 5 ∷ []

abbrev star : Links
star = (1, 2) ∷ (1, 3) ∷ (1, 4) ∷ (1, 5) ∷ []

-- what the four others then tell
abbrev others_tell : List Line
others_tell =
    Ballots 2 (b 1 2) (b 1 5) (b 1 2) ∷ Ballots 3 (b 1 3) (b 1 5) (b 1 3) ∷ Ballots 4 (b 1 4) (b 1 5) (b 1 4) ∷ Ballots 5 (b 1 5) (b 1 5) (b 1 5) ∷ []

-- only server 1 hears a majority: it leads after the tick that ends the third round, and not sooner
quorum : told five star 3 ≡ Ballots 1 (b 2 1) (b 2 1) (b 2 1) ∷ others_tell
unfolding links_drill lockstep
quorum = refl

quorum_sooner : told five star 2 ≡ Ballots 1 (b 2 1) (b 1 5) (b 1 1) ∷ others_tell
unfolding links_drill lockstep
quorum_sooner = refl

-- the same where the leader isn't linked to it
constrained : told five ((1, 2) ∷ (1, 3) ∷ (1, 4) ∷ []) 3 ≡ Ballots 1 (b 2 1) (b 2 1) (b 2 1) ∷ others_tell
unfolding links_drill lockstep
constrained = refl

-- ---- the theorem speaks of these

-- server 1 alone hears a majority
star_is_heard : HearsAlone five star 1
star_is_heard =
    record {
      member = refl;
      hears = refl;
      alone = λ q m other. Each-at (λ p. (p ≡ 1 → ⊥) → hears_majority_over five star p ≡ false) five ((λ not_one. absurd (not_one refl)), ((λ _. refl), ((λ _. refl), ((λ _. refl), ((λ _. refl), tt))))) q m other;
    }

low : (n : ℕ) → n < 2 → n + 1 < greatest_number
low n h = omega arith

-- all are up when they begin
five_are_up : AreUpWithRoom five (first_world five [])
five_are_up q m = Each-at (IsUpWithRoom (first_world five [])) five (begins 1 refl refl, (begins 2 refl refl, (begins 3 refl refl, (begins 4 refl refl, (begins 5 refl refl, tt))))) q m
  where
    begins : (p : ℕ) → node_at (first_world five []).nodes p ≡ Some (first_node five p) → (first_node five p).state.durable.part ≡ (first_durable five).part → IsUpWithRoom (first_world five []) p
    begins p at has =
        record {
          node = first_node five p;
          part = _;
          at = at;
          up = refl;
          has = has;
          room = record { own = low 1 (omega arith); leader = low 0 (omega arith); floor = low 0 (omega arith); promised = low 0 (omega arith); heard = λ k d l. absurd (omega arith) };
        }
