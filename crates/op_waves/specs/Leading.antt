-- What sessions and full rounds reach once a majority agrees on a ballot: each of them promises it, and its
-- owner leads it.
use Rattle.std.specs.Prelude.{◌≡◌, ◌≤◌, ℕ, List, ◌++◌}
use Rattle.op_types.specs.Ranges.{MembersInRange}
use Rattle.op_types.specs.declared.ballot.Ballot.{Ballot}
use Rattle.op_runs.specs.World.{World, Happening, node_at, first_world, run_of, all_done}
use Rattle.op_gen.specs.Links.{Links, all_links}
use Rattle.op_laws.specs.Runs.{RunInRange}
use Rattle.op_lockstep.specs.Reach.{IsOneOf, AreUpWithRoom, ProposeNoStop}
use Rattle.op_progress.specs.Progress.{HearOneAnother, AllComeBehind, AreFreeRounds, AgreeEverAfter, HasPromiseAt, LeadsBallot, IsPromisedAt}
use Rattle.op_progress.specs.Deciding.{LaterRounds, so_far}
use Rattle.op_waves.specs.Waves.{session, full_round}

-- ---- one session

-- some rounds that are over, the heartbeats of a further one, what may come behind them, and then a session
-- of q with s that begins anew, of three waves or more
pub record LaterSession (members spares : List ℕ) (links : Links) (group : List ℕ) (early : List Happening)
    : Type 0 where
  pub before : LaterRounds members spares links group early
  pub behind : List Happening
  pub may_come : AllComeBehind group links
      (run_of (first_world members spares) (so_far members spares links group early before)) behind
  pub waves : ℕ
  pub enough : 3 ≤ waves

-- all that has happened when it is over
abbrev pub with_session :
    (members spares : List ℕ) (links : Links) (group : List ℕ) (early : List Happening) → ℕ → ℕ
    → LaterSession members spares links group early → List Happening
with_session members spares links group early q s r =
    let before : List Happening = so_far members spares links group early r.before ++ r.behind in
    before ++ all_done (session links r.waves (q, s) (run_of (first_world members spares) before))

-- They agree on a ballot of one of them for ever, and who begins its session with the owner anew has promised
-- it from then on, and its promise is kept.
pub record PromiseEverAfter (members spares : List ℕ) (links : Links) (group : List ℕ)
    (early : List Happening) : Type 0 where
  pub agreement : AgreeEverAfter links group (run_of (first_world members spares) early)
  pub promise : (q : ℕ) → IsOneOf group q → (q ≡ agreement.leader → ⊥)
      → (r : LaterSession members spares links group early)
      → let all : List Happening = with_session members spares links group early q agreement.leader r in
      RunInRange members spares all → (i : ℕ) (hs : List Happening)
      → AreFreeRounds group links i (run_of (first_world members spares) all) hs
      → let w : World = run_of (first_world members spares) (all ++ hs) in
      IsPromisedAt agreement.ballot (node_at w.nodes q)
      × HasPromiseAt agreement.ballot q (node_at w.nodes agreement.leader)

-- So it is after four rounds, from where `MajoritiesLead` begins.
abbrev pub SessionsPromise : Type 0
SessionsPromise =
    (members spares : List ℕ) → MembersInRange members → (early : List Happening) → ProposeNoStop early
    → (links : Links) (group : List ℕ)
    → let w : World = run_of (first_world members spares) early in
    AreUpWithRoom group w → HearOneAnother members links group
    → (hs : List Happening) → AreFreeRounds group links 4 w hs
    → PromiseEverAfter members spares links group (early ++ hs)

-- ---- a full round

-- some rounds that are over, and a full one behind them, of three waves for each session or more
pub record LaterFullRound (members spares : List ℕ) (links : Links) (group : List ℕ) (early : List Happening)
    : Type 0 where
  pub before : LaterRounds members spares links group early
  pub waves : ℕ
  pub enough : 3 ≤ waves

-- all that has happened when it is over
abbrev pub with_full_round :
    (members spares : List ℕ) (links : Links) (group : List ℕ) (early : List Happening)
    → LaterFullRound members spares links group early → List Happening
with_full_round members spares links group early r =
    let before : List Happening = early ++ r.before.rounds in
    before ++ all_done (full_round group links r.waves (run_of (first_world members spares) before))

-- ---- what it reaches

-- this member leads this ballot, and each has promised it
pub record LeadsAll (group : List ℕ) (s : ℕ) (b : Ballot) (w : World) : Type 0 where
  pub leads : LeadsBallot b (node_at w.nodes s)
  pub promised : (q : ℕ) → IsOneOf group q → IsPromisedAt b (node_at w.nodes q)

-- They agree on a ballot of one of them for ever, and from the end of any later full round on its owner leads
-- it, and each of them has promised it.
pub record LeadEverAfter (members spares : List ℕ) (links : Links) (group : List ℕ) (early : List Happening)
    : Type 0 where
  pub agreement : AgreeEverAfter links group (run_of (first_world members spares) early)
  pub lead : (r : LaterFullRound members spares links group early)
      → let all : List Happening = with_full_round members spares links group early r in
      RunInRange members spares all → (i : ℕ) (hs : List Happening)
      → AreFreeRounds group links i (run_of (first_world members spares) all) hs
      → LeadsAll group agreement.leader agreement.ballot (run_of (first_world members spares) (all ++ hs))

-- So it is after four rounds over links by which a majority hear one another and nobody else, from every
-- world that a run without stop-signs reaches in which these are up and their ballots have room.
abbrev pub MajoritiesLead : Type 0
MajoritiesLead =
    (members spares : List ℕ) → MembersInRange members → (early : List Happening) → ProposeNoStop early
    → (links : Links) (group : List ℕ)
    → let w : World = run_of (first_world members spares) early in
    AreUpWithRoom group w → HearOneAnother members links group
    → (hs : List Happening) → AreFreeRounds group links 4 w hs
    → LeadEverAfter members spares links group (early ++ hs)

-- so do all members, where they are up and all links between them work
abbrev pub AllLead : Type 0
AllLead =
    (members spares : List ℕ) → MembersInRange members → (early : List Happening) → ProposeNoStop early
    → let w : World = run_of (first_world members spares) early in
    AreUpWithRoom members w → (hs : List Happening) → AreFreeRounds members (all_links members) 4 w hs
    → LeadEverAfter members spares (all_links members) members (early ++ hs)
