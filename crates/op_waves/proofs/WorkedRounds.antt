-- A full round that is computed by the definitions: three members begin, and all that they send is lost but for heartbeats.
use Rattle.std.proofs.Common.{◌≡◌, ℕ, List, [], ◌∷◌, refl}
use Rattle.op_types.specs.declared.ballot.Ballot.{Ballot}
use Rattle.op_runs.specs.declared.summary.Line.{Line}
use Rattle.op_runs.specs.declared.summary.Line.TheVariants.{Ballots}
use Rattle.op_runs.specs.World.{World, node_at, first_world}
use Rattle.op_gen.specs.Links.{all_links}
use Rattle.op_lockstep.specs.Lockstep.{after_events, after_round, ballots}
use Rattle.op_progress.specs.Progress.{LeadsBallot}
use Rattle.op_waves.specs.Waves.{full_round}

abbrev b : ℕ → ℕ → Ballot
b n p = record { number = n; pid = p }

abbrev three : List ℕ
three = 1 ∷ 2 ∷ 3 ∷ []

-- what they tell then
abbrev told : World → List Line
told w = (after_events w (ballots three)).lines

abbrev one_round : World → World
one_round w = after_round three (all_links three) w

-- four rounds of their heartbeats: they agree on a ballot that its owner alone has promised
abbrev heard : World
heard = one_round (one_round (one_round (one_round (first_world three []))))

agree : told heard ≡ Ballots 1 (b 1 1) (b 1 3) (b 1 1) ∷ Ballots 2 (b 1 2) (b 1 3) (b 1 2) ∷ Ballots 3 (b 1 3) (b 1 3) (b 1 3) ∷ []
agree = refl

-- and a full round, of three waves for each session
abbrev then_ : World
then_ = after_events heard (full_round three (all_links three) 3 heard)

all_promise : told then_ ≡ Ballots 1 (b 1 1) (b 1 3) (b 1 3) ∷ Ballots 2 (b 1 2) (b 1 3) (b 1 3) ∷ Ballots 3 (b 1 3) (b 1 3) (b 1 3) ∷ []
all_promise = refl

leads : LeadsBallot (b 1 3) (node_at then_.nodes 3)
leads = refl

-- two waves don't bring the owner an answer
not_yet : LeadsBallot (b 1 3) (node_at (after_events heard (full_round three (all_links three) 2 heard)).nodes 3) → ⊥
not_yet k = k
