-- What holds of observers: each stands, never falls, and what it is shown is true.
use Rattle.std.specs.Prelude.{◌≡◌, ◌≤◌, ◌<◌, ◌⊎◌, ℕ, ◌+◌, false, nat_eq, List, length, take, drop, Option, Some, None, All}
use Rattle.std.specs.Set.{is_member}
use Rattle.op_types.specs.Ballots.{no_ballot}
use Rattle.op_types.specs.Changes.{len_of}
use Rattle.op_types.specs.Ranges.{MembersInRange}
use Rattle.op_types.specs.declared.durable.Part.{Part}
use Rattle.op_types.specs.declared.durable.Durable.{Durable}
use Rattle.op_types.specs.declared.log.Entry.{Entry}
use Rattle.op_types.specs.declared.runs.Piece.{Piece}
use Rattle.op_types.specs.declared.messages.Body.{Body}
use Rattle.op_types.specs.declared.messages.Body.TheVariants as body
use Rattle.op_types.specs.declared.messages.Watch.TheVariants as watch
use Rattle.op_spec.specs.Machine.{members_of}
use Rattle.op_spec.specs.Service.{base_bytes, service_of}
use Rattle.op_spec.specs.Stands.{Stands, prefix_of}
use Rattle.op_runs.specs.World.{Node, World, Happening, node_at}
use Rattle.op_runs.specs.Possible.{SparesInRange, HappeningsInRange}
use Rattle.op_runs.specs.Run.{Execution, ServesDecided, first_execution, execution_with, execution_of}

-- an observer's stored state: a part alone, in which nothing is promised or accepted, and all is decided
pub record IsWatching (d : Durable) : Type 0 where
  pub part : Part
  pub alone : d ≡ record { part = Some part; closed = None; joining = None }
  pub promised : part.promised ≡ no_ballot
  pub accepted : part.accepted ≡ no_ballot
  pub decided : part.decided ≡ len_of part

-- an observer stands for a decided prefix, and its service is that of all of it
pub record ObserverStands (members : List ℕ) (lists : ℕ → List Entry) (n : Node) : Type 0 where
  pub watches : IsWatching n.state.durable
  pub stands : Stands members lists n.state.durable
  pub serves : ServesDecided lists n.state.durable.part n.state.service

-- the configuration of a part, and what is decided of it
abbrev pub decided_place : Option Part → ℕ × ℕ
decided_place None = (0, 0)
decided_place (Some p) = (p.conf, p.decided)

-- the same, of an observer that has begun
abbrev pub decided_place_at : Option Node → ℕ × ℕ
decided_place_at None = (0, 0)
decided_place_at (Some n) = decided_place n.state.durable.part

-- one place isn't above the other
abbrev pub IsUpTo : ℕ × ℕ → ℕ × ℕ → Type 0
IsUpTo a b = (a.0 < b.0) ⊎ ((a.0 ≡ b.0) × (a.1 ≤ b.1))

-- no observer falls
abbrev pub NoneFalls : List Node → List Node → Type 0
NoneFalls old new =
    (pid : ℕ) → IsUpTo (decided_place_at (node_at old pid)) (decided_place_at (node_at new pid))

-- these entries stand in the list from this position on
pub record ShownIsTrue (list : List Entry) (at : ℕ) (entries : List Entry) : Type 0 where
  pub within : at + length entries ≤ length list
  pub entries_are : entries ≡ take (length entries) (drop at list)

-- these are the members of the configuration, and the bytes stand at their place in the base of its list
-- before a position
pub record ShownBaseIsTrue (first : List ℕ) (lists : ℕ → List Entry) (conf : ℕ) (members : List ℕ) (p : Piece)
    : Type 0 where
  pub members_are : members ≡ members_of first lists conf
  pub within : p.at ≤ length (lists conf)
  pub total : p.total ≡ length (base_bytes (service_of (prefix_of lists conf p.at)))
  pub inside : p.from + length p.bytes ≤ p.total
  pub bytes : p.bytes
      ≡ take (length p.bytes) (drop p.from (base_bytes (service_of (prefix_of lists conf p.at))))

-- what an observer is told of a configuration is true
abbrev pub IsShownTrue : List ℕ → (ℕ → List Entry) → ℕ → Body → Type 0
IsShownTrue first lists conf (body.Watch (watch.Shown at entries)) = ShownIsTrue (lists conf) at entries
IsShownTrue first lists conf (body.Watch (watch.Base members p)) = ShownBaseIsTrue first lists conf members p
IsShownTrue first lists conf _ = Unit {0}

-- of each that was ever sent
abbrev pub ShownAreTrue : List ℕ → Execution → Type 0
ShownAreTrue members t =
    All (λ s. IsShownTrue members t.machine.lists s.message.conf s.message.body) t.world.messages

-- every run
abbrev pub InEveryRun : (List ℕ → Execution → Type 0) → Type 0
InEveryRun P =
    (members spares : List ℕ) → MembersInRange members → SparesInRange members spares
    → (hs : List Happening) → HappeningsInRange hs
    → P members (execution_of (first_execution members spares) hs)

-- after every run, each observer stands
abbrev pub EveryObserverStands : Type 0
EveryObserverStands = InEveryRun (λ members t. All (ObserverStands members t.machine.lists) t.world.observers)

-- and each message to an observer that was ever sent is true
abbrev pub EveryShownIsTrue : Type 0
EveryShownIsTrue = InEveryRun ShownAreTrue

-- this observer has an id, which neither a node has nor a member of configuration 1
pub record IsApart (members : List ℕ) (w : World) (n : Node) : Type 0 where
  pub some : 0 < n.pid
  pub no_node : node_at w.nodes n.pid ≡ None
  pub no_member : is_member nat_eq members n.pid ≡ false

-- after every run, so has each observer
abbrev pub EveryObserverIsApart : Type 0
EveryObserverIsApart = InEveryRun (λ members t. All (IsApart members t.world) t.world.observers)

-- no ballot of this id is promised
abbrev pub PromisesNoneOf : ℕ → Option Part → Type 0
PromisesNoneOf q None = Unit {0}
PromisesNoneOf q (Some p) = p.promised.pid ≡ q → ⊥

-- after every run, no node has promised a ballot of an id that is no node's, as those of observers
abbrev pub NoBallotOfOthers : Type 0
NoBallotOfOthers =
    (members spares : List ℕ) → MembersInRange members → SparesInRange members spares
    → (hs : List Happening) → HappeningsInRange hs → (q : ℕ) → 0 < q → is_member nat_eq members q ≡ false
    → let w = (execution_of (first_execution members spares) hs).world in
    node_at w.nodes q ≡ None → All (λ n. PromisesNoneOf q n.state.durable.part) w.nodes

-- and whatever happens then, no observer falls
abbrev pub NoObserverFalls : Type 0
NoObserverFalls =
    (members spares : List ℕ) → MembersInRange members → SparesInRange members spares
    → (hs : List Happening) (h : Happening) → HappeningsInRange hs
    → let t = execution_of (first_execution members spares) hs in
    NoneFalls t.world.observers (execution_with t h).world.observers
