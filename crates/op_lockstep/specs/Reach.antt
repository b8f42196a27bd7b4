-- What three lockstep rounds reach: the one member that hears a majority takes its own ballot for the
-- leader's.
use Rattle.std.specs.Prelude.{◌≡◌, ◌⊎◌, ◌<◌, ◌+◌, ◌==◌, ℕ, nat_eq, true, false, List, ◌++◌, length, Option, Some, None, All}
use Rattle.std.specs.Set.{is_member}
use Rattle.op_quorum.specs.Quorums.{is_majority, passing}
use Rattle.op_types.specs.Changes.{IsCommand}
use Rattle.op_types.specs.Limits.{greatest_number}
use Rattle.op_types.specs.Ranges.{MembersInRange}
use Rattle.op_types.specs.declared.ballot.Ballot.{Ballot}
use Rattle.op_types.specs.declared.durable.Part.{Part}
use Rattle.op_protocol.specs.State.{Volatile}
use Rattle.op_runs.specs.declared.events.What.{What}
use Rattle.op_runs.specs.declared.events.What.TheVariants as what
use Rattle.op_runs.specs.World.{World, Node, Up, Happening, node_at, first_world, run_of, all_done}
use Rattle.op_gen.specs.Links.{Links}
use Rattle.op_lockstep.specs.Lockstep.{hears_majority_over, after_events, ticks, lockstep}

-- ---- where the rounds begin

-- two more ballots can be raised above this one: its number is below 2^62 - 2
abbrev pub HasRoom : Ballot → Type 0
HasRoom b = b.number + 1 < greatest_number

-- the ballots that a member knows have room: its own, the leader's, where elections begin,
-- its promise, and those in the replies that it keeps
pub record BallotsHaveRoom (p : Part) (v : Volatile) : Type 0 where
  pub own : HasRoom v.own
  pub leader : HasRoom v.leader
  pub floor : HasRoom v.floor
  pub promised : HasRoom p.promised
  pub heard : All (λ h. HasRoom h.ballot) v.heard

-- the node of this id is up, has the part of this configuration, with these members, joins no other one, and
-- its ballots have room
pub record IsReady (conf : ℕ) (members : List ℕ) (w : World) (pid : ℕ) : Type 0 where
  pub node : Node
  pub part : Part
  pub at : node_at w.nodes pid ≡ Some node
  pub up : node.status ≡ Up
  pub has : node.state.durable.part ≡ Some part
  pub conf_is : part.conf ≡ conf
  pub members_are : part.members ≡ members
  pub stays : node.state.durable.joining ≡ None
  -- one that is a majority alone has no stop-sign in its log: its tick might decide that, and close the
  -- configuration
  pub unstopped : is_majority (passing (λ q. q == pid) members) (length members) ≡ true
      → All IsCommand part.tail.items
  pub room : BallotsHaveRoom part node.state.volatile

-- one of these members
abbrev pub IsOneOf : List ℕ → ℕ → Type 0
IsOneOf members p = is_member nat_eq members p ≡ true

-- each member is
abbrev pub AreReady : ℕ → List ℕ → World → Type 0
AreReady conf members w = (p : ℕ) → IsOneOf members p → IsReady conf members w p

-- this member alone hears a majority
pub record HearsAlone (members : List ℕ) (links : Links) (p : ℕ) : Type 0 where
  pub member : IsOneOf members p
  pub hears : hears_majority_over members links p ≡ true
  pub alone : (q : ℕ) → IsOneOf members q → (q ≡ p → ⊥) → hears_majority_over members links q ≡ false

-- ---- what they reach

-- the node takes its own ballot for the leader's: whether it then leads depends on what it has promised
abbrev pub ElectsItself : Option Node → Type 0
ElectsItself None = ⊥
ElectsItself (Some n) = n.state.volatile.leader ≡ n.state.volatile.own

-- after so many rounds, and from its tick that ends the last of them on as long as members tick,
-- the member takes its own ballot for the leader's
abbrev pub ElectsItselfAfter : List ℕ → Links → World → ℕ → ℕ → Type 0
ElectsItselfAfter members links w p rounds =
    (some rest : List ℕ) → members ≡ some ++ rest → IsOneOf some p
    → ElectsItself
    (node_at (after_events (after_events w (lockstep members links rounds w)) (ticks some)).nodes p)

-- From every world in which all members are ready, over links that let one member alone hear a majority,
-- that member takes its own ballot for the leader's after the tick that ends the second or the third
-- lockstep round.
abbrev pub RoundsReach : Type 0
RoundsReach =
    (conf : ℕ) (members : List ℕ) → MembersInRange members → (links : Links) (w : World) (p : ℕ)
    → AreReady conf members w → HearsAlone members links p
    → ElectsItselfAfter members links w p 2 ⊎ ElectsItselfAfter members links w p 3

-- ---- from what a run reaches

-- the node of this id is up, and its ballots have room
pub record IsUpWithRoom (w : World) (pid : ℕ) : Type 0 where
  pub node : Node
  pub part : Part
  pub at : node_at w.nodes pid ≡ Some node
  pub up : node.status ≡ Up
  pub has : node.state.durable.part ≡ Some part
  pub room : BallotsHaveRoom part node.state.volatile

-- each member is
abbrev pub AreUpWithRoom : List ℕ → World → Type 0
AreUpWithRoom members w = (p : ℕ) → IsOneOf members p → IsUpWithRoom w p

-- it is no stop-sign that is proposed
abbrev pub IsNoStop : What → Type 0
IsNoStop (what.Stop p members) = ⊥
IsNoStop _ = Unit {0}

-- none of these happenings proposes a stop-sign
abbrev pub ProposeNoStop : List Happening → Type 0
ProposeNoStop hs = All (λ h. IsNoStop h.event.what) hs

-- The same from every world that a run without stop-signs reaches, in which all members are up and their
-- ballots have room: each has the part of configuration 1 then, and joins no other one. What the spares do
-- doesn't matter.
abbrev pub RunsReach : Type 0
RunsReach =
    (members spares : List ℕ) → MembersInRange members → (early : List Happening) → ProposeNoStop early
    → (links : Links) (p : ℕ)
    → let w : World = run_of (first_world members spares) early in
    AreUpWithRoom members w → HearsAlone members links p
    → ElectsItselfAfter members links w p 2 ⊎ ElectsItselfAfter members links w p 3

-- wherever three lockstep rounds and the ticks that end the last of them are in a run,
-- over links that let one member alone hear a majority, they reach this
abbrev pub EachLockstepReaches : List ℕ → List ℕ → List Happening → Type 0
EachLockstepReaches members spares run =
    (early late : List Happening) (links : Links) (p : ℕ)
    → let w : World = run_of (first_world members spares) early in
    run ≡ early ++ all_done (lockstep members links 3 w ++ ticks members) ++ late
    → AreUpWithRoom members w → HearsAlone members links p
    → ElectsItselfAfter members links w p 2 ⊎ ElectsItselfAfter members links w p 3

-- the same, of every run without stop-signs
abbrev pub EveryLockstepReaches : Type 0
EveryLockstepReaches =
    (members spares : List ℕ) → MembersInRange members → (run : List Happening) → ProposeNoStop run
    → EachLockstepReaches members spares run
