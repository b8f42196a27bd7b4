-- What exchanges decide once a majority agrees on a ballot for ever: nothing disturbs them then.
use Rattle.std.specs.Prelude.{◌⊎◌, ◌<◌, ◌≤◌, ℕ, List, ◌++◌, All}
use Rattle.op_types.specs.Ranges.{MembersInRange}
use Rattle.op_types.specs.declared.log.Entry.{Entry}
use Rattle.op_runs.specs.declared.events.What.{What}
use Rattle.op_runs.specs.declared.events.What.TheVariants as what
use Rattle.op_protocol.specs.Parts.{others}
use Rattle.op_runs.specs.World.{World, Happening, node_at, first_world, run_of}
use Rattle.op_runs.specs.Run.{Execution, first_execution, execution_of}
use Rattle.op_gen.specs.Links.{Links}
use Rattle.op_laws.specs.Alone.{IsKnownAt}
use Rattle.op_laws.specs.Exchange.{Term, Prepares, node_role, Proposed, Comes, IsOne, FiveSteps, IsPlaced, IsDropped, IsToldDropped}
use Rattle.op_laws.specs.Runs.{RunInRange}
use Rattle.op_lockstep.specs.Reach.{IsOneOf, AreUpWithRoom, ProposeNoStop}
use Rattle.op_progress.specs.Progress.{HearOneAnother, AllComeBehind, heartbeats, AreFreeRounds, AgreeEverAfter}

-- no session between two of these ends
abbrev pub EndsNoSession : List ℕ → What → Type 0
EndsNoSession group (what.Down p q) = IsOneOf group p → IsOneOf group q → ⊥
EndsNoSession group _ = Unit {0}

-- An entry comes at the leader of a term, which prepares its ballot, and each of these others does the five
-- steps of an exchange with it. Nothing is said of what else happens at them.
pub record Completes (w : World) (hs : List Happening) (x : Term) (with_it : List ℕ) (e : Entry)
    : Type 0 where
  pub preparing : Prepares x.ballot (node_role (node_at w.nodes x.leader))
  pub proposed_at : Proposed
  pub comes : Comes w x.leader hs proposed_at e
  pub steps : (q : ℕ) → IsOne with_it q → FiveSteps w hs x q proposed_at
  -- they are over with the happening of this number
  pub last : ℕ
  pub in_time : proposed_at.0 < last
  pub heard : (q : ℕ) (i : IsOne with_it q) → (steps q i).promise_at < last
  pub by_last : (q : ℕ) (i : IsOne with_it q) → (steps q i).ack_at ≤ last

-- What came there is decided in configuration 1 at its place, or it was dropped for what the leader's log
-- then is, and whoever proposed it was told so.
abbrev pub IsDecidedOrDropped : Execution → List Happening → Term → Proposed → Entry → Type 0
IsDecidedOrDropped t hs x at e =
    ((place : ℕ) × IsPlaced t.world x.leader hs at place
    × IsKnownAt (execution_of t hs).machine x.conf x.leader e place)
    ⊎ ((d : IsDropped t.world x.leader hs at e) × IsToldDropped t.world x.leader hs e d.buffered.adds_at)

-- some rounds that are over, behind which the heartbeats of a further one came
pub record LaterRounds (members spares : List ℕ) (links : Links) (group : List ℕ) (early : List Happening)
    : Type 0 where
  pub count : ℕ
  pub rounds : List Happening
  pub are : AreFreeRounds group links count (run_of (first_world members spares) early) rounds

-- all that has happened then
abbrev pub so_far : (members spares : List ℕ) (links : Links) (group : List ℕ) (early : List Happening)
    → LaterRounds members spares links group early → List Happening
so_far members spares links group early r =
    let w : World = run_of (first_world members spares) (early ++ r.rounds) in
    (early ++ r.rounds) ++ heartbeats group links w

-- They agree on a ballot of one of them for ever, and whatever comes behind the heartbeats of a further
-- round, where no session between two of them ends: what comes at the owner while it prepares that ballot is
-- decided once all others of them have done the five steps with it.
pub record DecideEverAfter (members spares : List ℕ) (links : Links) (group : List ℕ)
    (early : List Happening) : Type 0 where
  pub agreement : AgreeEverAfter links group (run_of (first_world members spares) early)
  pub decide : (r : LaterRounds members spares links group early) (hs : List Happening)
      → let before : List Happening = so_far members spares links group early r in
      let t : Execution = execution_of (first_execution members spares) before in
      let x : Term = record { conf = 1; leader = agreement.leader; ballot = agreement.ballot } in
      AllComeBehind group links t.world hs → All (λ h. EndsNoSession group h.event.what) hs
      → RunInRange members spares (before ++ hs)
      → (e : Entry) (c : Completes t.world hs x (others x.leader group) e)
      → IsDecidedOrDropped t hs x c.proposed_at e

-- So it is after four rounds over links by which a majority hear one another and nobody else, from every
-- world that a run without stop-signs reaches in which these are up and their ballots have room.
abbrev pub MajoritiesDecide : Type 0
MajoritiesDecide =
    (members spares : List ℕ) → MembersInRange members → (early : List Happening) → ProposeNoStop early
    → (links : Links) (group : List ℕ)
    → let w : World = run_of (first_world members spares) early in
    AreUpWithRoom group w → HearOneAnother members links group
    → (hs : List Happening) → AreFreeRounds group links 4 w hs
    → DecideEverAfter members spares links group (early ++ hs)
