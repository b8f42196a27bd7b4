-- A world of servers, as the definitions have it.
use Rattle.std.specs.Prelude.{◌≡◌, ◌==◌, ◌⊎◌, ℕ, ◌+◌, List, [], ◌∷◌, map, All, Option, Some, None, get_or, set, if◌then◌else◌}
use Rattle.op_types.specs.Ranges.{IsMember}
use Rattle.op_runs.specs.declared.events.Event.{Event}
use Rattle.op_runs.specs.World as runs
use Rattle.op_runs.specs.World.{Votes, Observes, World, Node, Up, Happening, Deed, deed_of, first_world, run_of, with_node, world_after}
use Rattle.op_runs.specs.Possible.{Named, ObserversInRange, kind_in, named_ids, proposals_in}
use Rattle.op_runs.specs.Schedules.{Seated, seated_at}
use Rattle.op_bounds.specs.Laws.{HappeningInRange}
use Rattle.op_laws.specs.Runs.{RunInRange}
use Rattle.op_executions.specs.Servers.{Kind, ShowsNode, first_as}
use Rattle.op_executions.specs.declared.world.ServerWorld.{ServerWorld}

-- how many ids stand before this one
abbrev pub place_of : List ℕ → ℕ → ℕ
place_of [] pid = 0
place_of (id ∷ ids) pid = if id == pid then 0 else 1 + place_of ids pid

-- ---- the world that is shown

-- of a server of this kind, where those of that one are wanted
abbrev pub also : runs.Kind → runs.Kind → Node → List Node → List Node
also Votes Votes n nodes = n ∷ nodes
also Votes Observes n nodes = nodes
also Observes Votes n nodes = nodes
also Observes Observes n nodes = n ∷ nodes

-- those that vote, or those that observe, in order
abbrev pub seated_as : runs.Kind → List Seated → List Node
seated_as k [] = []
seated_as k (s ∷ seats) = also k s.kind s.node (seated_as k seats)

-- the server shows this node, which votes or not
pub record ShowsSeated {S F : Type 0} (K : Kind S F) (s : S) (x : Seated) : Type 0 where
  pub kind : x.kind ≡ K.kind_of s
  pub node : ShowsNode K s x.node

-- the servers show these, in order
abbrev pub ShowSeated : {S F : Type 0} → Kind S F → List S → List Seated → Type 0
ShowSeated K [] [] = Unit {0}
ShowSeated K [] (x ∷ xs) = ⊥
ShowSeated K (s ∷ servers) [] = ⊥
ShowSeated K (s ∷ servers) (x ∷ xs) = ShowsSeated K s x × ShowSeated K servers xs

-- the servers show these nodes and these observers, each in order
pub record ShowServers {S F : Type 0} (K : Kind S F) (servers : List S) (nodes observers : List Node)
    : Type 0 where
  pub seats : List Seated
  pub shown : ShowSeated K servers seats
  pub nodes_are : nodes ≡ seated_as Votes seats
  pub observers_are : observers ≡ seated_as Observes seats

-- the world is this one
pub record Shows {S F : Type 0} (K : Kind S F) (w : ServerWorld S) (x : World) : Type 0 where
  pub servers : ShowServers K w.servers.items x.nodes x.observers
  pub messages : x.messages ≡ w.messages.items
  pub lines : x.lines ≡ w.lines

-- ---- what the code keeps

-- the ids that events may name in it
abbrev pub named_of : {S : Type 0} → ServerWorld S → Named
named_of w = record { servers = w.ids.items; voters = w.voters.items }

-- what a world keeps of its servers: one for each id, in their order
pub record KeepsServers {S F : Type 0} (K : Kind S F) (w : ServerWorld S) : Type 0 where
  pub pids : map K.pid_of w.servers.items ≡ w.ids.items
  pub kept : All K.is_kept w.servers.items

-- a run of its members, these spares and these observers has come to what it shows by these happenings
pub record HasRun {S F : Type 0} (K : Kind S F) (w : ServerWorld S) (spares observers : List ℕ)
    (happenings : List Happening) : Type 0 where
  pub range : RunInRange w.members spares happenings
  pub observers_are : ObserversInRange w.members spares observers
  pub ids : named_of w ≡ named_ids w.members spares observers
  pub known : All (HappeningInRange (IsMember w.ids.items)) happenings
  pub proposed : w.proposed ≡ proposals_in happenings
  pub servers : KeepsServers K w
  pub shows : Shows K w (run_of (first_world w.members spares) happenings)

-- some run has
pub record IsRun {S F : Type 0} (K : Kind S F) (w : ServerWorld S) : Type 0 where
  pub spares : List ℕ
  pub observers : List ℕ
  pub happenings : List Happening
  pub run : HasRun K w spares observers happenings

-- a world became another one, of the same members and ids, and its servers are kept
pub record GoesOn {S F : Type 0} (K : Kind S F) (old new : ServerWorld S) : Type 0 where
  pub servers : KeepsServers K new
  pub members : new.members ≡ old.members
  pub ids : named_of new ≡ named_of old

-- ---- the start

-- the server of this id at its start, where these observe
abbrev pub first_seated : List ℕ → List ℕ → ℕ → Seated
first_seated members observers pid =
    record { kind = kind_in observers pid; node = first_as (kind_in observers pid) members pid }

-- the servers of these ids at their start, where these observe
pub record AreFirst {S F : Type 0} (K : Kind S F) (members ids observers : List ℕ) (servers : List S)
    : Type 0 where
  pub shown : ShowSeated K servers (map (first_seated members observers) ids)
  pub pids : map K.pid_of servers ≡ ids
  pub kept : All K.is_kept servers
  pub first : All K.is_first servers

-- ---- an event

-- only the server at this place becomes another one of its kind: it shows this node, and then that one
pub record ServerBecomes {S F : Type 0} (K : Kind S F) (old new : List S) (place : ℕ) (x : Seated) (y : Node)
    : Type 0 where
  pub was : (d : S) → ShowsSeated K (get_or old place d) x
  pub is : (d : S) → ShowsSeated K (get_or new place d) (record x { node = y })
  pub others : (d : S) → new ≡ set old place (get_or new place d)

-- the nodes once this server is so: those of an observer's world stay
abbrev pub nodes_with : runs.Kind → List Node → Node → List Node
nodes_with Votes nodes n = with_node nodes n
nodes_with Observes nodes n = nodes

-- what a world becomes that shows this one, by an event that does something: it happened with a fate that was
-- let, and only the server at this place is another then
pub record Happened {S F : Type 0} (K : Kind S F) (x : World) (e : Event) (f : F) (place : ℕ)
    (w new : ServerWorld S) : Type 0 where
  pub happening : Happening
  pub event : happening.event ≡ e
  pub shows : Shows K new (world_after x happening)
  pub deed : Deed
  pub does : deed_of x.messages e.what ≡ Some deed
  pub at : place ≡ place_of w.ids.items deed.pid
  pub old : Seated
  pub node : Node
  pub pid : node.pid ≡ deed.pid
  pub there : seated_at x node.pid ≡ Some old
  pub nodes : (world_after x happening).nodes ≡ nodes_with old.kind x.nodes node
  pub server : ServerBecomes K w.servers.items new.servers.items place old node
  pub lets : (d : S) → K.lets f (get_or w.servers.items place d) deed.doing
      (get_or new.servers.items place d) happening.fate happening.finds_after
  pub stored : (node.status ≡ Up) ⊎ (node.state.durable ≡ old.node.state.durable)

-- what a world becomes by an event: where it does something at the server of a place, and where it does
-- nothing by itself
abbrev pub HappenedAt :
    {S F : Type 0} → Kind S F → World → Event → F → Option ℕ → ServerWorld S → ServerWorld S → Type 0
HappenedAt K x e f None w new = (deed_of x.messages e.what ≡ None) × (new ≡ w)
HappenedAt K x e f (Some place) w new = Happened K x e f place w new
