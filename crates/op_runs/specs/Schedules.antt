-- The runs of a schedule: which happenings its events become, where a stop or a failure in a call of a disk
-- may await a node, and some of its disks may be dead.
use Rattle.std.specs.Prelude.{◌≡◌, ◌≢◌, ◌==◌, ◌&&◌, ◌||◌, ◌⊎◌, ℕ, suc, nat_eq, Bool, true, false, List, [], ◌∷◌, ◌++◌, map, Option, Some, None, if◌then◌else◌}
use Rattle.std.specs.Set.{is_member}
use Rattle.op_runs.specs.declared.events.Event.{Event}
use Rattle.op_runs.specs.declared.events.What.{What}
use Rattle.op_runs.specs.declared.events.What.TheVariants as what
use Rattle.op_runs.specs.World.{Kind, Votes, Observes, World, Node, NodeStatus, Up, Down, Failed, Fate, Done, Stopped, Faulted, Happening, Doing, Steps, Stops, Opens, Tells, Deed, first_world, node_at, plan_as, deed_of, run_of, done_event, all_done}
use Rattle.op_runs.specs.Possible.{Named, named_ids, is_possible_in}

-- ---- servers

-- a server, and whether it votes
pub record Seated : Type 0 where
  pub kind : Kind
  pub node : Node

-- a node, or else an observer
abbrev pub seated : Option Node → Option Node → Option Seated
seated (Some n) o = Some (record { kind = Votes; node = n })
seated None (Some n) = Some (record { kind = Observes; node = n })
seated None None = None

-- the server of this id, if there is one
abbrev pub seated_at : World → ℕ → Option Seated
seated_at w pid = seated (node_at w.nodes pid) (node_at w.observers pid)

-- ---- what is planned for disks

-- what awaits a node's next step or opening: nothing, a stop in a call of a disk, or a call that fails
pub data Awaited : Type 0 where
  Nothing : Awaited
  Stop : Awaited
  Failure : Awaited

-- what a schedule has planned for a node's disks: what awaits its next step or opening, and which are killed
pub record DiskPlan : Type 0 where
  pub awaited : Awaited
  pub killed : List ℕ

-- what it has planned for each node's
abbrev pub DiskPlans : Type 0
DiskPlans = ℕ → DiskPlan

-- nothing awaits a node, and none of its disks is killed
abbrev pub no_plan : DiskPlan
no_plan = record { awaited = Nothing; killed = [] }

-- the same of each node
abbrev pub no_plans : DiskPlans
no_plans pid = no_plan

-- from now on this is planned for a node, in the place of what was before
abbrev pub plans_with : DiskPlans → ℕ → DiskPlan → DiskPlans
plans_with plans pid x = λ q. if q == pid then x else plans q

-- this awaits it
abbrev pub awaiting : DiskPlan → Awaited → DiskPlan
awaiting plan x = record plan { awaited = x }

-- this disk of it is killed
abbrev pub killing : DiskPlan → ℕ → DiskPlan
killing plan disk = record plan { killed = disk ∷ plan.killed }

-- whether a disk is killed
abbrev pub is_killed : DiskPlan → ℕ → Bool
is_killed plan disk = is_member nat_eq plan.killed disk

-- Whether an area is lost: its disk is killed and, where the disks are mirrored, the second copy too.
-- Disks 1 and 2 hold the areas, 3 and 4 the second copies.
abbrev pub is_lost : Bool → DiskPlan → Bool
is_lost false plan = is_killed plan 1 || is_killed plan 2
is_lost true plan = (is_killed plan 1 && is_killed plan 3) || (is_killed plan 2 && is_killed plan 4)

-- ---- what an event becomes

-- whether what is done at a node is what a stop or a failure awaits: a step of one that is up, and the
-- opening of one that isn't
abbrev pub is_awaited : NodeStatus → Doing → Bool
is_awaited Up (Steps x) = true
is_awaited Up Stops = false
is_awaited Up Opens = false
is_awaited Up (Tells t) = false
is_awaited (Down after) (Steps x) = false
is_awaited (Down after) Stops = false
is_awaited (Down after) Opens = true
is_awaited (Down after) (Tells t) = false
is_awaited (Failed count after) (Steps x) = false
is_awaited (Failed count after) Stops = false
is_awaited (Failed count after) Opens = true
is_awaited (Failed count after) (Tells t) = false

-- it calls the server's disks, but for a step that has nothing to store
abbrev pub CallsDisks : Seated → Doing → Type 0
CallsDisks s (Steps x) = (plan_as s.kind s.node.pid s.node.state x).batch ≢ []
CallsDisks s Stops = Unit {0}
CallsDisks s Opens = Unit {0}
CallsDisks s (Tells t) = Unit {0}

-- the event, with this fate; an opening finds the state after the step in which the node stopped or failed,
-- or that before
abbrev pub happening_of : Event → Fate → Bool → Happening
happening_of e fate finds_after = record { event = e; fate = fate; finds_after = finds_after }

-- the node stops after what was done, said in the same line
abbrev pub stop_after : Event → ℕ → Happening
stop_after e pid = done_event (record { line = e.line; what = what.Crash pid })

-- it is done or, where a call may fail, one did
abbrev pub MayFail : Bool → Type 0 → Fate → Type 0
MayFail may calls fate = (fate ≡ Done) ⊎ ((may ≡ true) × calls × (count : ℕ) × (fate ≡ Faulted count))

-- How what is done at a node may end, and whether the node stops after it: by what awaits it, by whether an
-- area is lost, and by whether it calls the node's disks. It stops in a call, or after it where that isn't
-- made.
abbrev pub MayEnd : Awaited → Bool → Type 0 → Fate → Bool → Type 0
MayEnd Nothing lost calls fate is_due = MayFail lost calls fate × (is_due ≡ false)
MayEnd Stop lost calls fate is_due =
    (calls × (fate ≡ Stopped) × (is_due ≡ false)) ⊎ (MayFail lost calls fate × (is_due ≡ true))
MayEnd Failure lost calls fate is_due = MayFail true calls fate × (is_due ≡ false)

-- the happenings of what is done so
abbrev pub happenings_of : Event → ℕ → Fate → Bool → Bool → List Happening
happenings_of e pid fate is_due finds_after =
    happening_of e fate finds_after ∷ (if is_due then stop_after e pid ∷ [] else [])

-- whether what is planned for a node's disks bears on what is done at it
abbrev pub plan_for : NodeStatus → Doing → DiskPlan → DiskPlan
plan_for status d plan = if is_awaited status d then plan else no_plan

-- what becomes of what an event does at a server, for whose disks this is planned
abbrev pub BecomesAt : Bool → Option Seated → DiskPlan → Doing → Event → List Happening → Type 0
BecomesAt mirrored None plan d e hs = hs ≡ done_event e ∷ []
BecomesAt mirrored (Some s) plan d e hs =
    (fate : Fate) × (is_due : Bool) × (finds_after : Bool)
    × let now = plan_for s.node.status d plan in
    MayEnd now.awaited (is_lost mirrored now) (CallsDisks s d) fate is_due
    × (hs ≡ happenings_of e s.node.pid fate is_due finds_after)

-- the same, of what an event does, if it does something
abbrev pub BecomesBy : Bool → Option Deed → World → DiskPlans → Event → List Happening → Type 0
BecomesBy mirrored None w plans e hs = hs ≡ []
BecomesBy mirrored (Some x) w plans e hs =
    BecomesAt mirrored (seated_at w x.pid) (plans x.pid) x.doing e hs

-- which happenings an event may become in this world, where the disks are mirrored or not
abbrev pub Becomes : Bool → World → DiskPlans → Event → List Happening → Type 0
Becomes mirrored w plans e hs = BecomesBy mirrored (deed_of w.messages e.what) w plans e hs

-- ---- what is planned afterwards

-- whether what is done at a server drops what awaits it: it is what was awaited, or the server stops
abbrev pub drops : Doing → Option Seated → Bool
drops Stops s = true
drops d None = false
drops d (Some s) = is_awaited s.node.status d

-- what is planned after what an event does
abbrev pub plans_by : Option Deed → World → DiskPlans → DiskPlans
plans_by None w plans = plans
plans_by (Some x) w plans =
    if drops x.doing (seated_at w x.pid) then plans_with plans x.pid (awaiting (plans x.pid) Nothing)
    else plans

-- what is planned after an event that comes in this world
abbrev pub plans_after : World → DiskPlans → What → DiskPlans
plans_after w plans (what.CrashAt pid call image) = plans_with plans pid (awaiting (plans pid) Stop)
plans_after w plans (what.Fail pid call) = plans_with plans pid (awaiting (plans pid) Failure)
plans_after w plans (what.Kill pid disk) = plans_with plans pid (killing (plans pid) disk)
plans_after w plans x = plans_by (deed_of w.messages x) w plans

-- ---- runs

-- where the disks are mirrored or not, and these ids may be named
module _ (mirrored : Bool) (ids : Named) where
  -- from this world on each event can come where it stands, and they become these happenings
  abbrev pub RunsFrom : World → DiskPlans → List Event → List Happening → Type 0
  RunsFrom w plans [] hs = hs ≡ []
  RunsFrom w plans (e ∷ es) hs =
      (now : List Happening) × (later : List Happening) × (hs ≡ now ++ later)
      × (is_possible_in ids w e ≡ true) × Becomes mirrored w plans e now
      × RunsFrom (run_of w now) (plans_after w plans e.what) es later

  -- from this world on, where those before it become some happenings, the event of this number, from 0, is
  -- the first that can't come
  abbrev pub FailsFrom : World → DiskPlans → List Event → ℕ → Type 0
  FailsFrom w plans [] i = ⊥
  FailsFrom w plans (e ∷ es) i =
      ((i ≡ 0) × (is_possible_in ids w e ≡ false))
      ⊎ ((j : ℕ) × (i ≡ suc j) × (is_possible_in ids w e ≡ true)
      × (now : List Happening) × Becomes mirrored w plans e now
      × FailsFrom (run_of w now) (plans_after w plans e.what) es j)

-- the start of an id that no server has: an observer begins
abbrev pub beginning : ℕ → Event
beginning pid = record { line = 0; what = what.Start pid }

-- these observers begin
abbrev pub beginnings : List ℕ → List Event
beginnings observers = map beginning observers

abbrev pub observers_begun : List ℕ → List Happening
observers_begun observers = all_done (beginnings observers)

-- the world in which these observers have begun, before a schedule's first event
abbrev pub started_world : List ℕ → List ℕ → List ℕ → World
started_world members spares observers = run_of (first_world members spares) (observers_begun observers)

-- a schedule's events at these members, spares and observers, with mirrored disks or not, become these
-- happenings behind those in which the observers begin
abbrev pub IsRunOf : List ℕ → List ℕ → List ℕ → Bool → List Event → List Happening → Type 0
IsRunOf members spares observers mirrored events hs =
    (later : List Happening) × (hs ≡ observers_begun observers ++ later)
    × RunsFrom mirrored (named_ids members spares observers) (started_world members spares observers) no_plans
    events later

-- the event of this number, from 0, is the first of a schedule's that can't come
abbrev pub IsFirstRefused : List ℕ → List ℕ → List ℕ → Bool → List Event → ℕ → Type 0
IsFirstRefused members spares observers mirrored events i =
    FailsFrom mirrored (named_ids members spares observers) (started_world members spares observers) no_plans
    events i

-- no stop and no failure in a call of a disk is told, and no disk is killed
abbrev pub TellsNoFault : What → Type 0
TellsNoFault (what.CrashAt pid call image) = ⊥
TellsNoFault (what.Fail pid call) = ⊥
TellsNoFault (what.Kill pid disk) = ⊥
TellsNoFault _ = Unit {0}
