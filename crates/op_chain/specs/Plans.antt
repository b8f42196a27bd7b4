-- A plan that a chain has made ready, and what comes of adopting it.
use Rattle.std.specs.Prelude.{◌≡◌, ◌+◌, ◌-◌, ◌<◌, ◌++◌, ◌∷◌, ℕ, true, false, nat_eq, List, [], length, map, Option, Some, None, is_some}
use Rattle.std.specs.Set.{is_member}
use Rattle.op_types.specs.Limits.{last_conf}
use Rattle.op_types.specs.Stops.{stop_at_end}
use Rattle.op_types.specs.Changes.{closed_by, Applies, durable_after}
use Rattle.op_types.specs.Effects.{nothing_plan}
use Rattle.op_types.specs.Ranges.{IsMember}
use Rattle.op_types.specs.Roles.{Role, Idle, role_of, turned}
use Rattle.op_types.specs.Rooms.{HasRoomFor}
use Rattle.op_types.specs.declared.answers.Cause.TheVariants as cause
use Rattle.op_types.specs.declared.answers.Outcome.{Outcome}
use Rattle.op_types.specs.declared.answers.Outcome.TheVariants as outcome
use Rattle.op_types.specs.declared.answers.Reply.{Reply}
use Rattle.op_types.specs.declared.changes.Change.{Change}
use Rattle.op_types.specs.declared.changes.Change.TheVariants as change
use Rattle.op_types.specs.declared.durable.Durable.{Durable}
use Rattle.op_types.specs.declared.durable.Joining.{Joining}
use Rattle.op_types.specs.declared.durable.Part.{Part}
use Rattle.op_types.specs.declared.events.Input.{Input}
use Rattle.op_types.specs.declared.events.Input.TheVariants as input
use Rattle.op_types.specs.declared.messages.Body.TheVariants as body
use Rattle.op_types.specs.declared.plan.Plan.{Plan}
use Rattle.op_record.specs.Ranges.{BatchInRange}
use Rattle.op_spec.specs.Service.{Service, base_bytes}
use Rattle.op_protocol.specs.State as step
use Rattle.op_protocol.specs.State.{PartStep, Planned, Waiting, state_after}
use Rattle.op_protocol.specs.Parts.{part_after, decided_since, others, to_each}
use Rattle.op_protocol.specs.Leader.{given_up_by}
use Rattle.op_protocol.specs.Configurations.{latest_of, news_of}
use Rattle.op_protocol.specs.Reading.{decided_of, why_given_up}
use Rattle.op_protocol.specs.Serving.{dropping}
use Rattle.op_protocol.specs.Starting.{first_volatile}
use Rattle.op_protocol.specs.Rows.{based_batch, newly_decided, table_plan}
use Rattle.op_plans.specs.Positions.{FitsPositions}
use Rattle.op_change.specs.Over.{nothing_written, service_over}
use Rattle.op_kv.specs.Maps.{MapState}
use Rattle.op_instance.specs.Memory.{volatile_of, adopted_in, part_step_of, IsKeptBy, HasRoomIn}
use Rattle.op_instance.specs.Sound.{IsNode, IsSoundStep}
use Rattle.op_instance.specs.declared.volatile.Volatile.{Volatile}
use Rattle.op_deciding.specs.Deciding.{IsServed}
use Rattle.op_chain.specs.Answering as answering
use Rattle.op_chain.specs.Answering.{giving}
use Rattle.op_chain.specs.Waiting.{with_waiters}
use Rattle.op_chain.specs.Chains.{state_of, HaveBases, IsSoundChain}
use Rattle.op_chain.specs.Leads.{why_anew}
use Rattle.op_chain.specs.declared.chain.Chain.{Chain}
use Rattle.op_chain.specs.declared.chain_plan.ChainPlan.{ChainPlan}
use Rattle.op_chain.specs.declared.renewal.Renewal.{Renewal}
use Rattle.op_chain.specs.declared.given.Given.{Given}

-- ---- what adopting a plan makes

-- the service that is read anew, or this one
abbrev pub service_anew : Option MapState → Service → Service
service_anew None s = s
service_anew (Some m) s = m.service

-- what begins anew, where the node goes on in another configuration or in none
abbrev pub renewed : Option Renewal → Planned → Planned
renewed None x = x
renewed (Some r) x =
    let g = dropping x.waiting r.given_up in
    record x {
      volatile = volatile_of r.volatile;
      service = service_anew r.service x.service;
      waiting = g.waiting;
      replies = x.replies ++ g.replies;
    }

-- What the plan does when it is adopted, with those that wait then and what is kept in memory: those whose
-- proposals a row gives up wait no longer, then whoever waits for what is decided is answered, and then
-- what begins anew does.
abbrev pub made_by : Waiting → step.Volatile → Service → ChainPlan → Planned
made_by waiting v s plan =
    let d = dropping waiting plan.plan.replies in
    let g = giving d.waiting plan.served.replies in
    renewed plan.renewal
    (record {
      batch = plan.plan.batch;
      volatile = adopted_in plan.plan.batch plan.plan.turn v;
      service = service_over s plan.served.change;
      waiting = g.waiting;
      reads = None;
      sends = plan.plan.sends;
      replies = g.replies ++ d.replies;
      read_replies = [];
      outcome = plan.plan.outcome;
    })

-- what the plan does when this chain adopts it
abbrev pub planned_by : Chain → ChainPlan → Planned
planned_by c plan = made_by c.waiting.next (volatile_of c.volatile) c.service.service plan

-- whose buffered proposals are given up by what begins anew
abbrev pub told_anew : Option Renewal → List Reply
told_anew None = []
told_anew (Some r) = r.given_up

-- the service that is read anew, if one is
abbrev pub service_in : Option Renewal → Option MapState
service_in None = None
service_in (Some r) = r.service

-- what is kept in memory then, and the service
abbrev pub volatile_anew : Option Renewal → Volatile → Volatile
volatile_anew None v = v
volatile_anew (Some r) v = r.volatile

abbrev pub service_by : Option Renewal → Service → Service
service_by None s = s
service_by (Some r) s = service_anew r.service s

-- a part that these changes make of another one, if there is one
abbrev pub IsPartAfter : Option Part → List Change → Option Part → Type 0
IsPartAfter None batch o = o ≡ None
IsPartAfter (Some p) batch o = o ≡ Some (part_after p batch)

-- A plan stays in its configuration: it leaves the part that its changes make, which is sound with the role
-- that its turn gives.
pub record Stays (me : ℕ) (d : Durable) (plan : Plan) (v : Volatile) : Type 0 where
  pub step : IsSoundStep me d (part_step_of plan (volatile_of v))
  pub part : IsPartAfter d.part plan.batch (durable_after d plan.batch).part

-- What begins anew is of the part that a batch leaves, if it leaves one: nothing is decided in it, and the
-- node neither prepares nor leads.
pub record BeginsIn (me : ℕ) (d : Durable) (batch : List Change) (r : Renewal) : Type 0 where
  pub node : IsNode me (durable_after d batch) r.volatile
  pub idle : role_of r.volatile.role ≡ Idle
  pub undecided : decided_of (durable_after d batch).part ≡ 0
  pub why :
      why_given_up (latest_of d) (durable_after d batch).part (durable_after d batch).closed
      ≡ why_anew d batch r.service

-- what a plan leaves
abbrev pub LeavesWith : ℕ → Durable → Plan → Option Renewal → Volatile → Type 0
LeavesWith me d plan None v = Stays me d plan v
LeavesWith me d plan (Some r) v = BeginsIn me d plan.batch r

-- the same, of a chain, with the bases that it leaves
pub record LeavesNode (c : Chain) (plan : ChainPlan) : Type 0 where
  pub node : LeavesWith c.me (state_of c).durable plan.plan plan.renewal c.volatile
  pub bases : HaveBases (durable_after (state_of c).durable plan.plan.batch)

-- there is room for the replies of a plan: to those who are served, given up by a row, and told by what
-- begins anew
abbrev pub HasRoomToTell : ChainPlan → Type 0
HasRoomToTell plan =
    answering.HasRoomFor
    (length plan.served.replies + length plan.plan.replies + length (told_anew plan.renewal))
    (length plan.plan.replies) plan.room

-- What the step table plans for an input, made ready in the chain: its batch is in range and applies, what
-- it leaves is sound, and there is room for all that adopting it takes.
pub record Plans (c : Chain) (x : Input) (plan : ChainPlan) : Type 0 where
  pub sound : IsSoundChain c
  pub table : planned_by c plan ≡ table_plan c.me (state_of c) x
  pub range : BatchInRange plan.plan.batch
  pub applies : Applies c.durable plan.plan.batch
  pub log : HasRoomFor plan.plan.batch c.durable
  pub turn : HasRoomIn plan.plan.turn c.volatile
  pub settled : c.service.waiting ≡ 0
  pub after : LeavesNode c plan
  pub room : HasRoomToTell plan

-- the same before the log has room, where this is what the step table plans
pub record Prepares (c : Chain) (p : Planned) (plan : ChainPlan) : Type 0 where
  pub sound : IsSoundChain c
  pub table : planned_by c plan ≡ p
  pub applies : Applies (state_of c).durable plan.plan.batch
  pub turn : HasRoomIn plan.plan.turn c.volatile
  pub settled : c.service.waiting ≡ 0
  pub after : LeavesNode c plan
  pub room : HasRoomToTell plan

-- what a step gave out is what its plan gives out
pub record IsGiven (g : Given) (p : Planned) : Type 0 where
  pub sends : g.sends ≡ p.sends
  pub replies : g.replies ≡ p.replies
  pub outcome : g.outcome ≡ p.outcome

-- the chain is in the state after this plan, and gave out what the plan gives out
pub record Adopts (old : Chain) (p : Planned) (new : Chain) (g : Given) : Type 0 where
  pub me : new.me ≡ old.me
  pub state : state_of new ≡ state_after (state_of old) p
  pub sound : IsSoundChain new
  pub given : IsGiven g p

-- ---- how a plan is made

-- the plan in which nothing happens, with no room
abbrev pub nothing_ready : ChainPlan
nothing_ready =
    record {
      plan = nothing_plan;
      served = record { change = nothing_written; replies = []; stop = None };
      renewal = None;
      room = answering.no_room;
    }

-- the clients of the commands that an input proposes, each with its number
abbrev pub waiters_of : Input → List (ℕ × ℕ)
waiters_of (input.Commands cs) = map (λ c. (c.client, c.seq)) cs
waiters_of x = []

-- those that wait with these too, unless they are refused
abbrev pub waiting_by : Option Outcome → Waiting → List (ℕ × ℕ) → Waiting
waiting_by (Some (outcome.Refused why)) waiting more = waiting
waiting_by o waiting more = with_waiters waiting more

-- a step whose batch has the base of what it trims
abbrev pub based_step : Option Part → PartStep → PartStep
based_step p x = record x { batch = based_batch p x.batch }

-- what is kept in memory begins anew, for these members
pub record BeginsAnew (me : ℕ) (members : List ℕ) (v : Volatile) : Type 0 where
  pub first : volatile_of v ≡ first_volatile me
  pub kept : IsMember members me → (p : Part) → p.members ≡ members → IsKeptBy me p v

-- the plan's batch leaves positions that fit; where it decides the part's stop-sign, a number is left for
-- the next configuration
pub record MayClose (p : Part) (batch : List Change) : Type 0 where
  pub positions : FitsPositions (part_after p batch)
  pub number : is_some (stop_at_end (decided_since p (part_after p batch))) ≡ true → p.conf < last_conf

-- the same, if there is a part
abbrev pub IfMayClose : Option Part → List Change → Type 0
IfMayClose None batch = Unit {0}
IfMayClose (Some p) batch = MayClose p batch

-- the plan that closes this part too, with the service's state then: the new members hear of the next
-- configuration
abbrev pub closed_plan : ℕ → Part → Service → Plan → Plan
closed_plan me q s plan =
    record plan {
      batch = plan.batch ++ change.Close (is_member nat_eq (closed_by q).next me) (base_bytes s) ∷ [];
      sends = plan.sends ++ news_of (closed_by q);
    }

-- the plan closes the part that it leaves, with the service's state then, and the role is given up
pub record Closes (me : ℕ) (q : Part) (s : Service) (r : Role) (old new : Plan) (x : Renewal) : Type 0 where
  pub plan : new ≡ closed_plan me q s old
  pub anew : BeginsAnew me (closed_by q).next x.volatile
  pub service : x.service ≡ None
  pub given_up : x.given_up ≡ given_up_by (turned old.turn r) (cause.Stop (q.decided - 1))

-- exactly a plan that decides its part's stop-sign closes the part
abbrev pub IfCloses : ℕ → Option Part → Service → Role → Plan → Plan → Option Renewal → Type 0
IfCloses me None s r old new x = (new ≡ old) × (x ≡ None)
IfCloses me (Some p) s r old new None =
    (new ≡ old) × (is_some (stop_at_end (decided_since p (part_after p old.batch))) ≡ false)
IfCloses me (Some p) s r old new (Some x) =
    Closes me (part_after p old.batch) s r old new x
    × (is_some (stop_at_end (decided_since p (part_after p old.batch))) ≡ true)

-- the plan of changes by which a node that joins holds all, with this service then: whoever leads is to
-- prepare it
abbrev pub joined_plan : ℕ → Joining → Service → Plan → Plan
joined_plan me j s plan =
    record plan {
      batch = plan.batch ++ change.JoinDone (base_bytes s) ∷ [];
      sends = plan.sends ++ to_each j.conf (others me j.members) body.PrepareReq;
    }

-- the plan goes on in the configuration that is joined, with this service, and the role is given up
pub record GoesOn (me : ℕ) (j : Joining) (s : MapState) (r : Role) (p q : Plan) (x : Renewal) : Type 0 where
  pub plan : q ≡ joined_plan me j s.service p
  pub anew : BeginsAnew me j.members x.volatile
  pub service : x.service ≡ Some s
  pub given_up : x.given_up ≡ given_up_by (turned p.turn r) (cause.Stop (j.len - 1))

-- exactly a plan after which a service stands goes on
abbrev pub IfGoesOn : ℕ → Option Joining → Option MapState → Role → Plan → Plan → Option Renewal → Type 0
IfGoesOn me (Some j) (Some s) r old new (Some x) = GoesOn me j s r old new x
IfGoesOn me (Some j) (Some s) r old new None = ⊥
IfGoesOn me j s r old new x = (new ≡ old) × (x ≡ None)

-- what the plan does at the service, and what begins anew with it: of this chain, where the other one has
-- room for those that are to wait
pub record Serves (a : Chain) (old : Plan) (waiters : List (ℕ × ℕ))
    (c : Chain) (new : ChainPlan) : Type 0 where
  pub settled : c.service.waiting ≡ 0
  pub served : IsServed a.service.service (newly_decided a.durable.part old.batch) new.served
  pub closes :
      IfCloses a.me a.durable.part (service_over a.service.service new.served.change)
      (role_of a.volatile.role) old new.plan new.renewal
  pub waits : c.waiting.next ≡ waiting_by new.plan.outcome a.waiting.waiting waiters
  pub room : HasRoomToTell new
