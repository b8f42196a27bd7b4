-- The step table: what a node's step is, from its state and what happens.
use Rattle.std.specs.Prelude.{◌==◌, ◌&&◌, ◌||◌, ℕ, ◌+◌, ◌-◌, nat_lt, nat_eq, Bool, true, false, not, List, [], ◌∷◌, ◌++◌, map, Option, Some, None, is_some, if◌then◌else◌}
use Rattle.std.specs.Set.{is_member}
use Rattle.op_types.specs.Ballots.{no_ballot, is_same_ballot}
use Rattle.op_types.specs.Changes.{len_of, closed_len}
use Rattle.op_types.specs.declared.log.StopSign.{StopSign}
use Rattle.op_types.specs.declared.log.Command.{Command}
use Rattle.op_types.specs.declared.log.Entry.{Entry}
use Rattle.op_types.specs.declared.log.Entry.TheVariants as entry
use Rattle.op_types.specs.declared.changes.Change.{Change}
use Rattle.op_types.specs.declared.changes.Change.TheVariants as change
use Rattle.op_types.specs.declared.durable.Part.{Part}
use Rattle.op_types.specs.declared.durable.Closed.{Closed}
use Rattle.op_types.specs.declared.durable.Joining.{Joining}
use Rattle.op_types.specs.declared.durable.Durable.{Durable}
use Rattle.op_types.specs.declared.messages.Body.{Body}
use Rattle.op_types.specs.declared.messages.Body.TheVariants as body
use Rattle.op_types.specs.declared.messages.Msg.{Msg}
use Rattle.op_types.specs.declared.events.Input.{Input}
use Rattle.op_types.specs.declared.events.Input.TheVariants as input
use Rattle.op_types.specs.declared.answers.Outcome.{Outcome}
use Rattle.op_types.specs.declared.answers.Outcome.TheVariants as outcome
use Rattle.op_types.specs.declared.answers.Refusal.{Refusal}
use Rattle.op_types.specs.declared.answers.Refusal.TheVariants as refusal
use Rattle.op_types.specs.Roles.{Role, Idle}
use Rattle.op_types.specs.Effects.{Effects}
use Rattle.op_spec.specs.Service.{base_bytes}
use Rattle.op_protocol.specs.State.{State, Volatile, Waiting, PartStep, with_effects, Planned}
use Rattle.op_protocol.specs.Serving.{Served, serving, waiting_with, Dropping, dropping}
use Rattle.op_protocol.specs.Parts.{pending, is_admitted, is_admitted_body, part_after, decided_since, others, message, nothing, saying}
use Rattle.op_protocol.specs.Leader.{on_promise, on_promise_part, on_accepted, on_prepare_req, on_forward, session_down, propose}
use Rattle.op_protocol.specs.Follower.{on_prepare, on_accept_sync, on_accept_sync_part, on_accept, on_decide}
use Rattle.op_protocol.specs.Tick.{remembering, on_tick, on_heartbeat_request, on_heartbeat_reply, on_refuse}
use Rattle.op_protocol.specs.Bases.{service_at}
use Rattle.op_protocol.specs.Trimming.{trim_now, on_progress, on_trim_ask, on_trim}
use Rattle.op_protocol.specs.Configurations.{latest_of, latest_members, next_conf_message, closing}
use Rattle.op_protocol.specs.Reading.{on_confirm, reading}
use Rattle.op_protocol.specs.Watched.{is_watching, watch_answers}
use Rattle.op_protocol.specs.Joining.{on_next_conf, asks, gives_base, gives_segment, brought_to, on_base_piece, holds_more}

-- ---- messages at a part

-- what a message does, by what it says
abbrev pub on_body : ℕ → Part → Volatile → ℕ → Body → PartStep
on_body me p v q (body.HeartbeatRequest round) = on_heartbeat_request p v q round
on_body me p v q (body.HeartbeatReply round b flag) = on_heartbeat_reply me p v q round b flag
on_body me p v q (body.Prepare n na nl nd) = with_effects v (on_prepare p v.role q n na nl nd)
on_body me p v q (body.Promise n fa fl fd s entries) =
    with_effects v (on_promise me p v.role n
    (record { from = q; accepted = fa; len = fl; decided = fd; start = s; entries = entries }))
on_body me p v q (body.AcceptSync n x entries) = with_effects v (on_accept_sync p v.role q n x entries)
on_body me p v q (body.PromisePart n part) = with_effects v (on_promise_part me p v.role q n part)
on_body me p v q (body.AcceptSyncPart n part) = on_accept_sync_part p v q n part
on_body me p v q (body.Accept n at entries) = with_effects v (on_accept p v.role q n at entries)
on_body me p v q (body.Accepted n x) = with_effects v (on_accepted me p v.role q n x)
on_body me p v q (body.Decide n x) = with_effects v (on_decide p v.role n x)
on_body me p v q body.PrepareReq = with_effects v (on_prepare_req p v.role q)
on_body me p v q (body.Refuse n b) = on_refuse v b
on_body me p v q (body.Forward e) = with_effects v (on_forward me p v.role (e ∷ []))
on_body me p v q (body.Forwards entries) = with_effects v (on_forward me p v.role entries)
on_body me p v q (body.TrimAsk n) = with_effects v (on_trim_ask p v.role q n)
on_body me p v q (body.Progress n x) = with_effects v (on_progress me p v.role q n x)
on_body me p v q (body.Trim x) = with_effects v (on_trim p v.role x)
on_body me p v q (body.Confirm n number) = with_effects v (on_confirm p v.role q n number)
on_body me p v q _ = remembering v []

-- a message of another configuration does nothing, nor does one whose entries aren't admitted
abbrev pub on_message : ℕ → Part → Volatile → ℕ → Msg → PartStep
on_message me p v q m =
    if m.conf == p.conf && is_admitted_body p m.body then on_body me p v q m.body else remembering v []

-- the same, where there is a part
abbrev pub message_at : ℕ → Option Part → Volatile → ℕ → Msg → PartStep
message_at me None v q m = remembering v []
message_at me (Some p) v q m = on_message me p v q m

-- ---- messages of all configurations

-- what a node handles that joins a configuration: news, and what is asked and given of a closed list
abbrev pub is_of_joining : Body → Bool
is_of_joining (body.NextConf members olds len trimmed) = true
is_of_joining body.AskBase = true
is_of_joining (body.BasePart at bytes) = true
is_of_joining (body.BasePiece p) = true
is_of_joining (body.AskSegment from to) = true
is_of_joining (body.Segment at entries) = true
is_of_joining _ = false

-- what may be of a configuration above the latest one: news, and what is given of a closed list
abbrev pub may_be_above : Body → Bool
may_be_above (body.NextConf members olds len trimmed) = true
may_be_above (body.BasePart at bytes) = true
may_be_above (body.BasePiece p) = true
may_be_above (body.Segment at entries) = true
may_be_above _ = false

-- whether it asks to be prepared
abbrev pub is_prepare_req : Body → Bool
is_prepare_req body.PrepareReq = true
is_prepare_req _ = false

-- a member of the latest configuration that sends a message of an older one is told of the next one
abbrev pub on_older : Durable → Option Closed → ℕ → List (ℕ × Msg)
on_older d None q = []
on_older d (Some l) q = if is_member nat_eq (latest_members d) q then next_conf_message l q ∷ [] else []

-- A rule of our own. A message from above the latest configuration is dropped, but its sender is asked to
-- prepare this node in the latest one. It is above that, and so tells of the next configuration again.
-- Without this, news that were lost once would be lost for good: nobody repeats them to a node that doesn't
-- ask. A node that joins knows them already; what asks to be prepared isn't asked back, and who asks for a
-- closed list has none.
abbrev pub on_newer : Durable → ℕ → Body → List (ℕ × Msg)
on_newer d q b =
    if is_some d.joining || (is_of_joining b || is_prepare_req b) then []
    else message (latest_of d) q body.PrepareReq ∷ []

-- a message of the latest configuration, or one that may be above it
abbrev pub on_latest : ℕ → Durable → Volatile → ℕ → ℕ → Body → PartStep
on_latest me d v q c (body.NextConf members olds len trimmed) =
    on_next_conf me d v q c members olds len trimmed
on_latest me d v q c body.AskBase = remembering v (gives_base d.closed q c)
on_latest me d v q c (body.AskSegment from to) = remembering v (gives_segment d.closed q c from to)
on_latest me d v q c (body.BasePiece p) = on_base_piece d.joining v c p
on_latest me d v q c b = message_at me d.part v q (record { conf = c; body = b })

-- A message comes that isn't an observer's. A node that joins handles only what is of joining; of the
-- others, those of an older configuration are answered with the next one, and those from above the latest
-- are dropped.
abbrev pub member_step : ℕ → Durable → Volatile → ℕ → Msg → PartStep
member_step me d v q m =
    if is_some d.joining && not (is_of_joining m.body) then remembering v []
    else if nat_lt m.conf (latest_of d) then remembering v (on_older d d.closed q)
    else if nat_lt (latest_of d) m.conf && not (may_be_above m.body) then remembering v (on_newer d q m.body)
    else on_latest me d v q m.conf m.body

-- A message comes. What an observer asks is answered, whichever configuration it is of, unless the node
-- joins.
abbrev pub message_step : ℕ → Durable → Volatile → ℕ → Msg → PartStep
message_step me d v q m =
    if is_watching m.body then remembering v (watch_answers d q m.conf m.body) else member_step me d v q m

-- the changes by which a node that joins holds what an input brings, if it brings something that it takes
abbrev pub brought_by : Durable → Volatile → Input → Option (List Change)
brought_by d v (input.Deliver q m) =
    if nat_lt m.conf (latest_of d) then None else brought_to d.joining v.pieces m.conf m.body
brought_by d v x = None

-- ---- proposals

-- whether the node neither leads nor prepares
abbrev pub is_idle : Role → Bool
is_idle Idle = true
is_idle r = false

-- the node has promised no ballot, or its own and doesn't stand for it
abbrev pub knows_no_leader : ℕ → Role → Part → Bool
knows_no_leader me r p = is_same_ballot p.promised no_ballot || (p.promised.pid == me && is_idle r)

-- the entries of commands
abbrev pub entries_of : List Command → List Entry
entries_of cs = map (λ c. entry.Command c) cs

-- why entries are refused together by a log that no stop-sign ends: positions end before the last of them,
-- or no number is left for the configuration after a stop-sign
abbrev pub open_refusal : ℕ → Role → Part → List Entry → Option Refusal
open_refusal me r p entries =
    if knows_no_leader me r p then Some refusal.NoLeader
    else if is_admitted p (len_of p) entries then None
    else Some refusal.PositionsEnd

-- the same at a node, which has to have a part and not to join another configuration
abbrev pub part_refusal : ℕ → Role → Option Part → Option Joining → List Entry → Option Refusal
part_refusal me r (Some p) None entries = open_refusal me r p entries
part_refusal me r p j entries = Some refusal.NoLeader

-- where a stop-sign ends the log, or the closed list of a node without a part
abbrev pub pending_at : Option Part → Option Closed → Option ℕ
pending_at (Some p) l = pending p
pending_at None (Some l) = Some (closed_len l - 1)
pending_at None None = None

-- a stop-sign is the first cause
abbrev pub refusal_after : ℕ → Role → Durable → List Entry → Option ℕ → Option Refusal
refusal_after me r d entries (Some pos) = Some (refusal.PendingStop pos)
refusal_after me r d entries None = part_refusal me r d.part d.joining entries

-- why entries that are proposed together are refused, the first cause first
abbrev pub refusal_of : ℕ → Role → Durable → List Entry → Option Refusal
refusal_of me r d entries = refusal_after me r d entries (pending_at d.part d.closed)

-- the stop-sign that ends a part's configuration, with these members in the next one
abbrev pub stop_for : Option Part → List ℕ → StopSign
stop_for None members = record { next = 1; members = members }
stop_for (Some p) members = record { next = p.conf + 1; members = members }

-- nothing changes, and a proposal is answered so
abbrev pub answering : Volatile → Option Outcome → PartStep
answering v o = record { batch = []; volatile = v; sends = []; replies = []; outcome = o }

-- entries that nothing refuses are proposed together
abbrev pub proposal_at : ℕ → Option Part → Volatile → List Entry → Option Refusal → PartStep
proposal_at me p v entries (Some r) = answering v (Some (outcome.Refused r))
proposal_at me None v entries None = answering v (Some (outcome.Refused refusal.NoLeader))
proposal_at me (Some p) v entries None = with_effects v (propose me p v.role entries)

-- entries are proposed
abbrev pub proposal_step : ℕ → Durable → Volatile → List Entry → PartStep
proposal_step me d v entries = proposal_at me d.part v entries (refusal_of me v.role d entries)

-- ---- the other inputs

-- a node that joins asks; another one ends its heartbeat round
abbrev pub tick_at : ℕ → Option Part → Option Joining → Volatile → PartStep
tick_at me p (Some j) v = remembering v (asks j)
tick_at me None None v = remembering v []
tick_at me (Some p) None v = on_tick me p v

-- a client asks for trimming
abbrev pub trim_at : ℕ → Option Part → Volatile → PartStep
trim_at me None v = answering v (Some outcome.NotLeading)
trim_at me (Some p) v = with_effects v (trim_now me p v.role)

-- a session begins with one of the others: if it leads, it is to prepare this node
abbrev pub session_up : ℕ → Part → Role → ℕ → Effects
session_up me p r q =
    if is_member nat_eq (others me p.members) q then saying r (message p.conf q body.PrepareReq ∷ [])
    else nothing r

-- The same at a node. One that joins asks nobody. By a rule of our own, one that has left its configuration
-- tells a member of the next one of it again: where no new member was reached before, nobody else tells it.
abbrev pub up_at : ℕ → Durable → Option Part → Option Joining → Volatile → ℕ → PartStep
up_at me d (Some p) None v q = with_effects v (session_up me p v.role q)
up_at me d None None v q = remembering v (on_older d d.closed q)
up_at me d p (Some j) v q = remembering v []

-- what a step does, but for the base of what it trims, what it decides, what it brings of a closed list, and
-- what comes of reads
abbrev pub step_at : ℕ → Durable → Volatile → Input → PartStep
step_at me d v input.Tick = tick_at me d.part d.joining v
step_at me d v (input.Deliver q m) = message_step me d v q m
step_at me d v (input.Commands cs) = proposal_step me d v (entries_of cs)
step_at me d v (input.Stop members) = proposal_step me d v (entry.Stop (stop_for d.part members) ∷ [])
step_at me d v input.TrimNow = trim_at me d.part v
step_at me d v (input.Read r) = remembering v []
step_at me d v (input.Up q) = up_at me d d.part d.joining v q
step_at me d v (input.Down q) = with_effects v (session_down v.role q)

-- ---- the whole step

-- the clients of these commands wait
abbrev pub waiting_each : Waiting → List Command → Waiting
waiting_each waiting [] = waiting
waiting_each waiting (c ∷ cs) = waiting_each (waiting_with waiting c) cs

-- they do where nothing refuses them
abbrev pub waiting_for : Waiting → List Command → Option Refusal → Waiting
waiting_for waiting cs (Some r) = waiting
waiting_for waiting cs None = waiting_each waiting cs

-- who waits when this has come
abbrev pub waiting_at : ℕ → State → Input → Waiting
waiting_at me s (input.Commands cs) =
    waiting_for s.waiting cs (refusal_of me s.volatile.role s.durable (entries_of cs))
waiting_at me s x = s.waiting

-- a change of this part, with the service's state after what it trims
abbrev pub based : Part → Change → Change
based p (change.Trim x base) = change.Trim x (base_bytes (service_at p x))
based p c = c

-- a batch with the base of what it trims
abbrev pub based_batch : Option Part → List Change → List Change
based_batch None batch = batch
based_batch (Some p) batch = map (based p) batch

-- the entries that a batch newly decides
abbrev pub newly_decided : Option Part → List Change → List Entry
newly_decided None batch = []
newly_decided (Some p) batch = decided_since p (part_after p batch)

-- what is decided goes to the service; its clients are answered first,
-- and then those are told whose proposals are given up
abbrev pub planned_serving : State → PartStep → Dropping → Served → Planned
planned_serving s x d t =
    record {
      batch = based_batch s.durable.part x.batch;
      volatile = x.volatile;
      service = t.service;
      waiting = t.waiting;
      reads = None;
      sends = x.sends;
      replies = t.replies ++ d.replies;
      read_replies = [];
      outcome = x.outcome;
    }

-- the same, when these are told
abbrev pub planned_dropping : State → PartStep → Dropping → Planned
planned_dropping s x d =
    planned_serving s x d (serving s.service d.waiting (newly_decided s.durable.part x.batch))

-- the plan of what a step does, where these clients wait
abbrev pub planned : State → Waiting → PartStep → Planned
planned s waiting x = planned_dropping s x (dropping waiting x.replies)

-- the plan of a step that brings nothing of a closed list: it closes the part if it decides its stop-sign
abbrev pub plan_of : ℕ → State → Waiting → PartStep → Planned
plan_of me s waiting x = closing me s.durable.part (planned s waiting x)

-- the plan of a step, by what it brings of a closed list
abbrev pub step_bringing : ℕ → State → Input → Option (List Change) → Planned
step_bringing me s x None = plan_of me s (waiting_at me s x) (step_at me s.durable s.volatile x)
step_bringing me s x (Some batch) = holds_more me s batch

-- the plan of a step without its reads: it keeps none, and answers none
abbrev pub table_plan : ℕ → State → Input → Planned
table_plan me s x = step_bringing me s x (brought_by s.durable s.volatile x)

-- a node's step: what comes of its reads is put in
abbrev pub step_plan : ℕ → State → Input → Planned
step_plan me s x = reading me s x (table_plan me s x)
