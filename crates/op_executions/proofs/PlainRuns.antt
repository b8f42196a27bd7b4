-- A schedule that tells of no stop and no failure in a call of a disk, and kills none: each of its events is done.
use Rattle.std.proofs.Common.{◌≡◌, ◌<◌, ◌⊎◌, inl, inr, ℕ, zero, suc, Bool, true, false, nat_eq, List, [], ◌∷◌, ◌++◌, length, Option, Some, None, All, slice_get, IfSome, if◌then◌else◌, refl, sym, ap, subst, ◌∙◌, arith}
use Rattle.std.specs.Prelude.{nat_lt}
use Rattle.std.proofs.lemmas.Bool.{cond_both, false≢true, ltb-true}
use Rattle.std.proofs.lemmas.List.Elements.{All-nil, All-cons, All-head, All-tail, All-map}
use Rattle.op_types.specs.declared.durable.Durable.{Durable}
use Rattle.op_protocol.specs.State.{State, state_after}
use Rattle.op_protocol.specs.Starting.{state_after_restart}
use Rattle.op_runs.specs.declared.events.Event.{Event}
use Rattle.op_runs.specs.declared.events.What.{What}
use Rattle.op_runs.specs.declared.events.What.TheVariants as what
use Rattle.op_runs.specs.World.{Kind, Votes, Observes, plan_as, first_observer, insert_node, world_with_as, world_opening_as, world_by_status_as, world_beginning, world_at_observer, world_observed, World, Node, NodeStatus, Up, Down, Failed, Sent, Fate, Done, Happening, Doing, Steps, Stops, Opens, Tells, Deed, node_ids, first_node, first_world, node_at, with_node, deed_of, delivery, world_at_node, world_with, world_after, run_of, done_event, all_done}
use Rattle.op_runs.specs.Run.{Execution, execution_with, execution_of, first_execution, machine_showing_all, machine_proposing_by}
use Rattle.op_runs.specs.Possible.{Named, named_ids, is_possible, is_possible_in, ArePossibleFrom}
use Rattle.op_runs.specs.Schedules.{Nothing, DiskPlan, DiskPlans, Seated, seated_at, no_plan, no_plans, plans_with, awaiting, is_lost, is_awaited, CallsDisks, happening_of, MayEnd, happenings_of, BecomesAt, BecomesBy, Becomes, drops, plans_by, plans_after, RunsFrom, FailsFrom, beginnings, observers_begun, started_world, TellsNoFault}
use Rattle.op_laws.proofs.Reached.{world_of_run, execution_append}
use Rattle.op_executions.specs.PlainRuns.{ArePlain, PlainRunsAreDone, PlainEventsCanBeDone, PlainRunsAreNotRefused, PlainRefusalsAreOne}
use Rattle.op_executions.proofs.Deeds.{node_found}

-- ---- nodes that stop between two steps alone

-- one that is down has nothing that a step was to store, and none has failed
abbrev pub StoppedBetween : NodeStatus → Durable → Type 0
StoppedBetween Up d = Unit {0}
StoppedBetween (Down after) d = after ≡ d
StoppedBetween (Failed count after) d = ⊥

abbrev pub IsPlain : Node → Type 0
IsPlain n = StoppedBetween n.status n.state.durable

-- so are all nodes and observers of a world
abbrev pub StopsBetween : World → Type 0
StopsBetween w = All IsPlain w.nodes × All IsPlain w.observers

pub first_plain : (members spares : List ℕ) → StopsBetween (first_world members spares)
first_plain members spares = (All-map IsPlain (first_node members) (node_ids members spares) (λ k d lt. tt), All-nil IsPlain)

all_with : (P : Node → Type 0) (nodes : List Node) (m : Node) → All P nodes → P m → All P (with_node nodes m)
all_with P [] m each new = All-nil P
all_with P (n ∷ nodes) m each new =
    cond_both (nat_eq n.pid m.pid) (m ∷ nodes) (n ∷ with_node nodes m) (All P) (λ here. All-cons P m nodes new (All-tail P n nodes each))
    (λ away. All-cons P n (with_node nodes m) (All-head P n nodes each) (all_with P nodes m (All-tail P n nodes each) new))

-- ---- whichever state an opening is said to find

one_state : (b : Bool) (after d : Durable) → after ≡ d → (if b then after else d) ≡ d
one_state true after d same = same
one_state false after d same = refl

same_status : (k : Kind) (s : NodeStatus) (d : Doing) (e : Event) (b : Bool) (w : World) (n : Node) → StoppedBetween s n.state.durable → world_by_status_as k s d (happening_of e Done b) w n ≡ world_by_status_as k s d (done_event e) w n
same_status k Up d e b w n plain = refl
same_status k (Down after) (Steps x) e b w n plain = refl
same_status k (Down after) Stops e b w n plain = refl
same_status k (Down after) Opens e b w n plain = ap (λ (found : Durable). world_opening_as k Done w n found) (one_state b after n.state.durable plain)
same_status k (Down after) (Tells t) e b w n plain = refl
same_status k (Failed count after) d e b w n plain = absurd plain

same_observer : (o : Option Node) (x : Deed) (e : Event) (b : Bool) (w : World) → IfSome o IsPlain → world_at_observer o x (happening_of e Done b) w ≡ world_at_observer o x (done_event e) w
same_observer None x e b w plain = refl
same_observer (Some n) x e b w plain = same_status Observes n.status x.doing e b w n plain

same_observed : (o : Option Deed) (e : Event) (b : Bool) (w : World) → All IsPlain w.observers → world_observed o (happening_of e Done b) w ≡ world_observed o (done_event e) w
same_observed None e b w plain = refl
same_observed (Some x) e b w plain = same_observer (node_at w.observers x.pid) x e b w (node_found IsPlain w.observers x.pid plain)

same_node : (o : Option Node) (d : Doing) (e : Event) (b : Bool) (w : World) → IfSome o IsPlain → All IsPlain w.observers → world_at_node o d (happening_of e Done b) w ≡ world_at_node o d (done_event e) w
same_node None d e b w plain others = ap (λ (u : World). let z : World = record u { nodes = w.nodes; members = w.members } in z) (same_observed (deed_of w.messages e.what) e b w others)
same_node (Some n) d e b w plain others = same_status Votes n.status d e b w n plain

pub same_deed : (o : Option Deed) (e : Event) (b : Bool) (w : World) → StopsBetween w → world_with o (happening_of e Done b) w ≡ world_with o (done_event e) w
same_deed None e b w k = refl
same_deed (Some x) e b w k = same_node (node_at w.nodes x.pid) x.doing e b w (node_found IsPlain w.nodes x.pid k.0) k.1

-- ---- they stay so

put_plain : (k : Kind) (w : World) (n : Node) → StopsBetween w → IsPlain n → StopsBetween (world_with_as k w n)
put_plain Votes w n each one = (all_with IsPlain w.nodes n each.0 one, each.1)
put_plain Observes w n each one = (each.0, all_with IsPlain w.observers n each.1 one)

stays_by : (k : Kind) (s : NodeStatus) (d : Doing) (e : Event) (w : World) (n : Node) → n.status ≡ s → StoppedBetween s n.state.durable → StopsBetween w → StopsBetween (world_by_status_as k s d (done_event e) w n)
stays_by k Up (Steps x) e w n is plain each =
    let s : State = state_after n.state (plan_as k n.pid n.state x) in
    put_plain k w (record n { state = s }) each (subst (λ (z : NodeStatus). StoppedBetween z s.durable) (sym is) tt)
stays_by k Up Stops e w n is plain each = put_plain k w (record n { status = Down n.state.durable }) each refl
stays_by k Up Opens e w n is plain each = each
stays_by k Up (Tells t) e w n is plain each = each
stays_by k (Down after) (Steps x) e w n is plain each = each
stays_by k (Down after) Stops e w n is plain each = each
stays_by k (Down after) Opens e w n is plain each = put_plain k w (record n { state = state_after_restart n.pid n.state.durable; status = Up }) each tt
stays_by k (Down after) (Tells t) e w n is plain each = each
stays_by k (Failed count after) d e w n is plain each = absurd plain

all_more : (P : Node → Type 0) (nodes : List Node) (m : Node) → All P nodes → P m → All P (insert_node nodes m)
all_more P [] m each new = All-cons P m [] new (All-nil P)
all_more P (n ∷ nodes) m each new =
    cond_both (nat_lt m.pid n.pid) (m ∷ n ∷ nodes) (n ∷ insert_node nodes m) (All P) (λ here. All-cons P m (n ∷ nodes) new each)
    (λ away. All-cons P n (insert_node nodes m) (All-head P n nodes each) (all_more P nodes m (All-tail P n nodes each) new))

begins_plain : (d : Doing) (pid : ℕ) (w : World) → StopsBetween w → StopsBetween (world_beginning d Done pid w)
begins_plain Opens pid w each = (each.0, all_more IsPlain w.observers (first_observer w.members pid) each.1 tt)
begins_plain (Steps x) pid w each = each
begins_plain Stops pid w each = each
begins_plain (Tells t) pid w each = each

stays_at_observer : (o : Option Node) (x : Deed) (e : Event) (w : World) → IfSome o IsPlain → StopsBetween w → StopsBetween (world_at_observer o x (done_event e) w)
stays_at_observer None x e w plain each = begins_plain x.doing x.pid w each
stays_at_observer (Some n) x e w plain each = stays_by Observes n.status x.doing e w n refl plain each

stays_observed : (o : Option Deed) (e : Event) (w : World) → StopsBetween w → StopsBetween (world_observed o (done_event e) w)
stays_observed None e w each = each
stays_observed (Some x) e w each = stays_at_observer (node_at w.observers x.pid) x e w (node_found IsPlain w.observers x.pid each.1) each

stays_at : (o : Option Node) (d : Doing) (e : Event) (w : World) → IfSome o IsPlain → StopsBetween w → StopsBetween (world_at_node o d (done_event e) w)
stays_at None d e w plain each = (each.0, (stays_observed (deed_of w.messages e.what) e w each).1)
stays_at (Some n) d e w plain each = stays_by Votes n.status d e w n refl plain each

pub stays_plain : (o : Option Deed) (e : Event) (w : World) → StopsBetween w → StopsBetween (world_with o (done_event e) w)
stays_plain None e w each = each
stays_plain (Some x) e w each = stays_at (node_at w.nodes x.pid) x.doing e w (node_found IsPlain w.nodes x.pid each.0) each

-- ---- where nothing is planned for any node's disks

abbrev pub NothingIsPlanned : DiskPlans → Type 0
NothingIsPlanned plans = (pid : ℕ) → plans pid ≡ no_plan

nothing_with : (plans : DiskPlans) (pid : ℕ) → NothingIsPlanned plans → NothingIsPlanned (plans_with plans pid (awaiting (plans pid) Nothing))
nothing_with plans pid none q =
    cond_both (nat_eq q pid) (awaiting (plans pid) Nothing) (plans q) (λ (x : DiskPlan). x ≡ no_plan) (λ here. ap (λ (x : DiskPlan). awaiting x Nothing) (none pid)) (λ away. none q)

nothing_by : (o : Option Deed) (w : World) (plans : DiskPlans) → NothingIsPlanned plans → NothingIsPlanned (plans_by o w plans)
nothing_by None w plans none = none
nothing_by (Some x) w plans none =
    cond_both (drops x.doing (seated_at w x.pid)) (plans_with plans x.pid (awaiting (plans x.pid) Nothing)) plans NothingIsPlanned (λ here. nothing_with plans x.pid none) (λ away. none)

pub nothing_after : (w : World) (plans : DiskPlans) (x : What) → TellsNoFault x → NothingIsPlanned plans → NothingIsPlanned (plans_after w plans x)
nothing_after w plans (what.CrashAt p call image) plain none = absurd plain
nothing_after w plans (what.Fail p call) plain none = absurd plain
nothing_after w plans (what.Kill p disk) plain none = absurd plain
nothing_after w plans x plain none = nothing_by (deed_of w.messages x) w plans none

-- ---- so an event becomes one happening, which is done

-- an event that can come does something
record IsDeed (o : Option Deed) : Type 0 where
  pub deed : Deed
  pub is : o ≡ Some deed

delivers : (messages : List Sent) (i : ℕ) → i < length messages → IsDeed (delivery (slice_get messages i))
delivers [] i there = absurd (omega arith)
delivers (m ∷ messages) zero there = record { deed = _; is = refl }
delivers (m ∷ messages) (suc i) there = delivers messages i (let less : i < length messages = omega arith in less)

does : (nodes : Named) (messages : List Sent) (x : What) → TellsNoFault x → is_possible nodes (length messages) x ≡ true → IsDeed (deed_of messages x)
does nodes messages (what.Deliver i) plain can = delivers messages i (ltb-true i (length messages) can)
does nodes messages (what.CrashAt p call image) plain can = absurd plain
does nodes messages (what.Fail p call) plain can = absurd plain
does nodes messages (what.Kill p disk) plain can = absurd plain
does nodes messages x plain can = record { deed = _; is = refl }

-- it is done, with whichever state an opening is said to find
pub record IsDone (e : Event) (hs : List Happening) : Type 0 where
  pub finds_after : Bool
  pub is : hs ≡ happening_of e Done finds_after ∷ []

-- no area is lost
none_lost : (mirrored : Bool) → is_lost mirrored no_plan ≡ false
none_lost false = refl
none_lost true = refl

nothing_for : (b : Bool) (x : DiskPlan) → x ≡ no_plan → (if b then x else no_plan) ≡ no_plan
nothing_for true x none = none
nothing_for false x none = refl

-- so what is done ends in one way
ends_done : (lost : Bool) (calls : Type 0) (fate : Fate) (is_due : Bool) → lost ≡ false → MayEnd Nothing lost calls fate is_due → (fate ≡ Done) × (is_due ≡ false)
ends_done lost calls fate is_due none (inl done, due) = (done, due)
ends_done lost calls fate is_due none (inr failed, due) = absurd (false≢true (sym none ∙ failed.0))

-- how what is done may end by a plan for the node's disks
abbrev EndsBy : Bool → Seated → Doing → Fate → Bool → DiskPlan → Type 0
EndsBy mirrored n d fate is_due plan = MayEnd plan.awaited (is_lost mirrored plan) (CallsDisks n d) fate is_due

done_at : (mirrored : Bool) (o : Option Seated) (x : DiskPlan) (d : Doing) (e : Event) (hs : List Happening) → x ≡ no_plan → BecomesAt mirrored o x d e hs → IsDone e hs
done_at mirrored None x d e hs none becomes = record { finds_after = false; is = becomes }
done_at mirrored (Some n) x d e hs none becomes =
    let fate : Fate = becomes.0 in
    let is_due : Bool = becomes.1 in
    let ends : EndsBy mirrored n d fate is_due no_plan = subst (EndsBy mirrored n d fate is_due) (nothing_for (is_awaited n.node.status d) x none) becomes.3.0 in
    let one = ends_done (is_lost mirrored no_plan) (CallsDisks n d) fate is_due (none_lost mirrored) ends in
    record {
      finds_after = becomes.2;
      is = becomes.3.1 ∙ ap (λ (f : Fate). happenings_of e n.node.pid f is_due becomes.2) one.0 ∙ ap (λ (due : Bool). happenings_of e n.node.pid Done due becomes.2) one.1;
    }

is_done_at : (mirrored : Bool) (o : Option Seated) (x : DiskPlan) (d : Doing) (e : Event) → x ≡ no_plan → BecomesAt mirrored o x d e (done_event e ∷ [])
is_done_at mirrored None x d e none = refl
is_done_at mirrored (Some n) x d e none =
    (Done, false, false, (subst (EndsBy mirrored n d Done false) (sym (nothing_for (is_awaited n.node.status d) x none)) (inl refl, refl), refl))

module _ (mirrored : Bool) (nodes : Named) where
  pub done_one : (w : World) (plans : DiskPlans) (e : Event) (hs : List Happening) → NothingIsPlanned plans → TellsNoFault e.what → is_possible_in nodes w e ≡ true → Becomes mirrored w plans e hs → IsDone e hs
  done_one w plans e hs none plain can becomes =
      let one : IsDeed (deed_of w.messages e.what) = does nodes w.messages e.what plain can in
      done_at mirrored (seated_at w (one.deed).pid) (plans (one.deed).pid) (one.deed).doing e hs (none (one.deed).pid)
      (subst (λ (o : Option Deed). BecomesBy mirrored o w plans e hs) one.is becomes)

  pub is_done : (w : World) (plans : DiskPlans) (e : Event) → NothingIsPlanned plans → TellsNoFault e.what → is_possible_in nodes w e ≡ true → Becomes mirrored w plans e (done_event e ∷ [])
  is_done w plans e none plain can =
      let one : IsDeed (deed_of w.messages e.what) = does nodes w.messages e.what plain can in
      subst (λ (o : Option Deed). BecomesBy mirrored o w plans e (done_event e ∷ [])) (sym one.is)
      (is_done_at mirrored (seated_at w (one.deed).pid) (plans (one.deed).pid) (one.deed).doing e (none (one.deed).pid))

-- ---- runs

-- a run after a happening of this event, with this world
abbrev with_world : Execution → Event → World → Execution
with_world t e w = record { world = w; machine = machine_showing_all (machine_proposing_by t.machine t.world.nodes (deed_of t.world.messages e.what)) w.nodes }

pub same_execution : (t : Execution) (e : Event) (b : Bool) → StopsBetween t.world → execution_with t (happening_of e Done b) ≡ execution_with t (done_event e)
same_execution t e b each = ap (λ (w : World). with_world t e w) (same_deed (deed_of t.world.messages e.what) e b t.world each)

-- no event tells of a stop or a failure in a call of a disk or kills one, nothing is planned, and each node stops between two steps
pub record PlainFrom (w : World) (plans : DiskPlans) (events : List Event) : Type 0 where
  pub stops : StopsBetween w
  pub nothing : NothingIsPlanned plans
  pub events_are : ArePlain events

-- events that are done leave them so
done_plain : (events : List Event) (w : World) → StopsBetween w → StopsBetween (run_of w (all_done events))
done_plain [] w each = each
done_plain (e ∷ events) w each = done_plain events (world_after w (done_event e)) (stays_plain (deed_of w.messages e.what) e w each)

pub plain_first : (members spares observers : List ℕ) (events : List Event) → ArePlain events → PlainFrom (started_world members spares observers) no_plans events
plain_first members spares observers events plain =
    record { stops = done_plain (beginnings observers) (first_world members spares) (first_plain members spares); nothing = λ pid. refl; events_are = plain }

module _ (mirrored : Bool) (nodes : Named) (w : World) (plans : DiskPlans) (e : Event) (events : List Event) (p : PlainFrom w plans (e ∷ events)) where
  quiet : TellsNoFault e.what
  quiet = All-head (λ (x : Event). TellsNoFault x.what) e events p.events_are

  pub plain_next : PlainFrom (world_after w (done_event e)) (plans_after w plans e.what) events
  plain_next = record {
    stops = stays_plain (deed_of w.messages e.what) e w p.stops;
    nothing = nothing_after w plans e.what quiet p.nothing;
    events_are = All-tail (λ (x : Event). TellsNoFault x.what) e events p.events_are;
  }

  -- what the event may become is that it is done
  pub becomes_done : (now : List Happening) → is_possible_in nodes w e ≡ true → Becomes mirrored w plans e now → IsDone e now
  becomes_done now can becomes = done_one mirrored nodes w plans e now p.nothing quiet can becomes

  pub world_done : (now : List Happening) → is_possible_in nodes w e ≡ true → Becomes mirrored w plans e now → run_of w now ≡ world_after w (done_event e)
  world_done now can becomes =
      let one : IsDone e now = becomes_done now can becomes in
      ap (λ (xs : List Happening). run_of w xs) one.is ∙ same_deed (deed_of w.messages e.what) e one.finds_after w p.stops

plain_from : (mirrored : Bool) (nodes : Named) (t : Execution) (plans : DiskPlans) (events : List Event) (hs : List Happening) → PlainFrom t.world plans events → RunsFrom mirrored nodes t.world plans events hs
    → execution_of t hs ≡ execution_of t (all_done events)
plain_from mirrored nodes t plans [] hs p run = ap (λ (xs : List Happening). execution_of t xs) run
plain_from mirrored nodes t plans (e ∷ events) hs p run =
    let now = run.0 in
    let later = run.1 in
    let one : IsDone e now = becomes_done mirrored nodes t.world plans e events p now run.3 run.4 in
    let h : Happening = happening_of e Done one.finds_after in
    let u : Execution = execution_with t (done_event e) in
    let is : hs ≡ h ∷ later = run.2 ∙ ap (λ (xs : List Happening). xs ++ later) one.is in
    let world : run_of t.world now ≡ u.world = world_done mirrored nodes t.world plans e events p now run.3 run.4 in
    let rest : RunsFrom mirrored nodes u.world (plans_after t.world plans e.what) events later = subst (λ (w : World). RunsFrom mirrored nodes w (plans_after t.world plans e.what) events later) world run.5 in
    ap (λ (xs : List Happening). execution_of t xs) is ∙ ap (λ (v : Execution). execution_of v later) (same_execution t e one.finds_after p.stops)
    ∙ plain_from mirrored nodes u (plans_after t.world plans e.what) events later (plain_next mirrored nodes t.world plans e events p) rest

-- what a run has come to once its observers have begun
abbrev started : List ℕ → List ℕ → List ℕ → Execution
started members spares observers = execution_of (first_execution members spares) (observers_begun observers)

started_is : (members spares observers : List ℕ) → (started members spares observers).world ≡ started_world members spares observers
started_is members spares observers = world_of_run (first_execution members spares) (observers_begun observers)

pub plain_runs_are_done : PlainRunsAreDone
plain_runs_are_done members spares observers mirrored events hs plain run =
    let ids : Named = named_ids members spares observers in
    let t : Execution = started members spares observers in
    let is : started_world members spares observers ≡ t.world = sym (started_is members spares observers) in
    ap (λ (xs : List Happening). execution_of (first_execution members spares) xs) run.1
    ∙ execution_append (first_execution members spares) (observers_begun observers) run.0
    ∙ plain_from mirrored ids t no_plans events run.0 (subst (λ (w : World). PlainFrom w no_plans events) is (plain_first members spares observers events plain))
    (subst (λ (w : World). RunsFrom mirrored ids w no_plans events run.0) is run.2)
    ∙ sym (execution_append (first_execution members spares) (observers_begun observers) (all_done events))

-- ---- each event done

possible_from : (mirrored : Bool) (nodes : Named) (w : World) (plans : DiskPlans) (events : List Event) (hs : List Happening) → PlainFrom w plans events → RunsFrom mirrored nodes w plans events hs → ArePossibleFrom nodes w events
possible_from mirrored nodes w plans [] hs p run = tt
possible_from mirrored nodes w plans (e ∷ events) hs p run =
    let next : DiskPlans = plans_after w plans e.what in (
      run.3,
      possible_from mirrored nodes (world_after w (done_event e)) next events run.1 (plain_next mirrored nodes w plans e events p)
          (subst (λ (x : World). RunsFrom mirrored nodes x next events run.1) (world_done mirrored nodes w plans e events p run.0 run.3 run.4) run.5),
    )

done_from : (mirrored : Bool) (nodes : Named) (w : World) (plans : DiskPlans) (events : List Event) → PlainFrom w plans events → ArePossibleFrom nodes w events → RunsFrom mirrored nodes w plans events (all_done events)
done_from mirrored nodes w plans [] p can = refl
done_from mirrored nodes w plans (e ∷ events) p can = (
  done_event e ∷ [],
  all_done events,
  refl,
  can.0,
  is_done mirrored nodes w plans e p.nothing (quiet mirrored nodes w plans e events p) can.0,
  done_from mirrored nodes (world_after w (done_event e)) (plans_after w plans e.what) events (plain_next mirrored nodes w plans e events p) can.1,
)

pub plain_events_can_be_done : PlainEventsCanBeDone
plain_events_can_be_done members spares observers mirrored events hs plain run =
    let first = plain_first members spares observers events plain in
    let ids : Named = named_ids members spares observers in
    let w : World = started_world members spares observers in
    (all_done events, refl, done_from mirrored ids w no_plans events first (possible_from mirrored ids w no_plans events run.0 first run.2))

-- ---- refusals

-- from this world on, where each event is done, the event of this number, from 0, is the first that can't come
abbrev IsFirstBadFrom : Named → World → List Event → ℕ → Type 0
IsFirstBadFrom nodes w [] i = ⊥
IsFirstBadFrom nodes w (e ∷ es) i =
    ((i ≡ 0) × (is_possible_in nodes w e ≡ false)) ⊎ ((j : ℕ) × (i ≡ suc j) × (is_possible_in nodes w e ≡ true) × IsFirstBadFrom nodes (world_after w (done_event e)) es j)

bad_from : (mirrored : Bool) (nodes : Named) (w : World) (plans : DiskPlans) (events : List Event) (i : ℕ) → PlainFrom w plans events → FailsFrom mirrored nodes w plans events i → IsFirstBadFrom nodes w events i
bad_from mirrored nodes w plans [] i p bad = bad
bad_from mirrored nodes w plans (e ∷ events) i p (inl bad) = inl bad
bad_from mirrored nodes w plans (e ∷ events) i p (inr bad) =
    let next : DiskPlans = plans_after w plans e.what in inr (
      bad.0,
      bad.1,
      bad.2,
      bad_from mirrored nodes (world_after w (done_event e)) next events bad.0 (plain_next mirrored nodes w plans e events p)
          (subst (λ (x : World). FailsFrom mirrored nodes x next events bad.0) (world_done mirrored nodes w plans e events p bad.3 bad.2 bad.4) bad.5),
    )

none_bad : (nodes : Named) (w : World) (events : List Event) (i : ℕ) → ArePossibleFrom nodes w events → IsFirstBadFrom nodes w events i → ⊥
none_bad nodes w [] i can bad = bad
none_bad nodes w (e ∷ events) i can (inl bad) = absurd (let both : true ≡ false = sym can.0 ∙ bad.1 in cc)
none_bad nodes w (e ∷ events) i can (inr bad) = none_bad nodes (world_after w (done_event e)) events bad.0 can.1 bad.3

one_bad : (nodes : Named) (w : World) (events : List Event) (i j : ℕ) → IsFirstBadFrom nodes w events i → IsFirstBadFrom nodes w events j → i ≡ j
one_bad nodes w [] i j bad worse = absurd bad
one_bad nodes w (e ∷ events) i j (inl bad) (inl worse) = bad.0 ∙ sym worse.0
one_bad nodes w (e ∷ events) i j (inl bad) (inr worse) = absurd (let both : true ≡ false = sym worse.2 ∙ bad.1 in cc)
one_bad nodes w (e ∷ events) i j (inr bad) (inl worse) = absurd (let both : true ≡ false = sym bad.2 ∙ worse.1 in cc)
one_bad nodes w (e ∷ events) i j (inr bad) (inr worse) = bad.1 ∙ ap suc (one_bad nodes (world_after w (done_event e)) events bad.0 worse.0 bad.3 worse.3) ∙ sym worse.1

pub plain_runs_are_not_refused : PlainRunsAreNotRefused
plain_runs_are_not_refused members spares observers mirrored events hs i plain run bad =
    let first = plain_first members spares observers events plain in
    let ids = named_ids members spares observers in
    let w = started_world members spares observers in
    none_bad ids w events i (possible_from mirrored ids w no_plans events run.0 first run.2) (bad_from mirrored ids w no_plans events i first bad)

pub plain_refusals_are_one : PlainRefusalsAreOne
plain_refusals_are_one members spares observers mirrored events i j plain bad worse =
    let first = plain_first members spares observers events plain in
    let ids = named_ids members spares observers in
    let w = started_world members spares observers in
    one_bad ids w events i j (bad_from mirrored ids w no_plans events i first bad) (bad_from mirrored ids w no_plans events j first worse)
