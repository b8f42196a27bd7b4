-- What adopting a plan makes is what the step table plans.
use Rattle.std.proofs.Common.{◌≡◌, ℕ, ◌-◌, ◌∷◌, ◌++◌, false, List, [], map, Option, Some, None, refl, sym, ap, ◌∙◌}
use Rattle.std.specs.Prelude.{is_some}
use Rattle.std.proofs.lemmas.Bool.{cond-true, cond-false}
use Rattle.op_types.specs.Changes.{joining_with, durable_after}
use Rattle.op_types.specs.Effects.{nothing_plan}
use Rattle.op_types.specs.Joinings.{Held, Base, cover_of}
use Rattle.op_types.specs.Roles.{Role, Idle, Preparing, Leading, turned}
use Rattle.op_types.specs.Stops.{stop_at_end}
use Rattle.op_types.specs.declared.answers.Cause.TheVariants as cause
use Rattle.op_types.specs.declared.answers.Outcome.{Outcome}
use Rattle.op_types.specs.declared.answers.Outcome.TheVariants as outcome
use Rattle.op_types.specs.declared.answers.Refusal.{Refusal}
use Rattle.op_types.specs.declared.answers.Reply.{Reply}
use Rattle.op_types.specs.declared.changes.Change.{Change}
use Rattle.op_types.specs.declared.changes.Change.TheVariants as change
use Rattle.op_types.specs.declared.durable.Closed.{Closed}
use Rattle.op_types.specs.declared.durable.Durable.{Durable}
use Rattle.op_types.specs.declared.durable.Joining.{Joining}
use Rattle.op_types.specs.declared.durable.Part.{Part}
use Rattle.op_types.specs.declared.events.Input.{Input}
use Rattle.op_types.specs.declared.events.Input.TheVariants as input
use Rattle.op_types.specs.declared.log.Command.{Command}
use Rattle.op_types.specs.declared.log.Entry.{Entry}
use Rattle.op_types.specs.declared.plan.Plan.{Plan}
use Rattle.op_types.specs.declared.turn.Turn.{Turn}
use Rattle.op_types.specs.declared.turn.Turn.TheVariants as turn
use Rattle.op_spec.specs.Service.{Service, all_after}
use Rattle.op_protocol.specs.State as step
use Rattle.op_protocol.specs.State.{State, PartStep, Planned, Waiting, raises_promise, staged_after}
use Rattle.op_protocol.specs.Parts.{part_after, decided_since}
use Rattle.op_protocol.specs.Configurations.{closing_part, closing}
use Rattle.op_protocol.specs.Joining.{joined_service, only_stores, stores_beside, goes_on_if, holding, holds_more}
use Rattle.op_protocol.specs.Leader.{propose, given_up_by}
use Rattle.op_protocol.specs.Rows.{entries_of, refusal_of, proposal_at, step_at, waiting_each, waiting_for, waiting_at, based_batch, newly_decided, planned_serving, planned, plan_of}
use Rattle.op_protocol.specs.Serving as serving
use Rattle.op_protocol.specs.Serving.{dropping, waiting_with}
use Rattle.op_protocol.specs.Starting.{first_volatile}
use Rattle.op_protocol.proofs.Based.{based_decides}
use Rattle.op_change.specs.Over.{Written, service_over}
use Rattle.op_kv.specs.Maps.{MapState}
use Rattle.op_instance.specs.Memory.{turned_in, adopted_in, part_step_of}
use Rattle.op_deciding.specs.Deciding.{replies_to}
use Rattle.op_chain.specs.Answering.{giving}
use Rattle.op_chain.specs.Bringing.{joining_after, joined, IfJoined, turn_beside, turn_holding}
use Rattle.op_chain.specs.Plans.{service_anew, made_by, waiters_of, waiting_by, based_step, closed_plan, Closes, IfCloses, joined_plan, GoesOn, IfGoesOn}
use Rattle.op_chain.specs.Waiting.{with_waiters}
use Rattle.op_chain.specs.declared.chain_plan.ChainPlan.{ChainPlan}
use Rattle.op_chain.specs.declared.renewal.Renewal.{Renewal}
use Rattle.op_chain.specs.declared.room.Room.{Room}
use Rattle.op_deciding.specs.declared.served.Served.{Served}
use Rattle.op_chain.proofs.Answered.{served_all}

-- a plan of these
abbrev pub chain_plan : Plan → Served → Option Renewal → Room → ChainPlan
chain_plan plan served renewal room = record { plan = plan; served = served; renewal = renewal; room = room }

-- this is written, and no entry is served
abbrev pub unserved : Written → Served
unserved change = record { change = change; replies = []; stop = None }

-- ---- a row

-- what a step does, where these are the replies to what it decides, and this is the service then
abbrev row_made : Waiting → List Reply → Service → PartStep → Planned
row_made waiting replies s y =
    let d = dropping waiting y.replies in
    let g = giving d.waiting replies in
    record {
      batch = y.batch;
      volatile = y.volatile;
      service = s;
      waiting = g.waiting;
      reads = None;
      sends = y.sends;
      replies = g.replies ++ d.replies;
      read_replies = [];
      outcome = y.outcome;
    }

row_planned : (s : State) (ws : Waiting) (y : PartStep)
    → planned s ws y ≡ row_made ws (replies_to s.service (newly_decided s.durable.part y.batch)) (all_after s.service (newly_decided s.durable.part y.batch)) (based_step s.durable.part y)
row_planned s ws y =
    let d = dropping ws y.replies in
    ap (λ (t : serving.Served). planned_serving s y d t) (served_all (newly_decided s.durable.part y.batch) s.service (record { waiting = d.waiting; replies = [] }))

-- the bases don't change what is decided
based_newly : (o : Option Part) (batch : List Change) → newly_decided o (based_batch o batch) ≡ newly_decided o batch
based_newly None batch = refl
based_newly (Some p) batch = based_decides p batch

-- a plan of a row is what the table plans, but for what is closed
pub row_table : (ws : Waiting) (v : step.Volatile) (s : State) (y : PartStep) (plan : Plan) (served : Served) (room : Room)
    → part_step_of plan v ≡ based_step s.durable.part y
    → service_over s.service served.change ≡ all_after s.service (newly_decided s.durable.part plan.batch)
    → served.replies ≡ replies_to s.service (newly_decided s.durable.part plan.batch)
    → made_by ws v s.service (chain_plan plan served None room) ≡ planned s ws y
row_table ws v s y plan served room row serves gives =
    let batch : plan.batch ≡ based_batch s.durable.part y.batch = ap (λ (z : PartStep). z.batch) row in
    let es : newly_decided s.durable.part plan.batch ≡ newly_decided s.durable.part y.batch =
    ap (λ (b : List Change). newly_decided s.durable.part b) batch ∙ based_newly s.durable.part y.batch in
    let z : PartStep = part_step_of plan v in
    ap (λ (rs : List Reply). row_made ws rs (service_over s.service served.change) z) (gives ∙ ap (λ (xs : List Entry). replies_to s.service xs) es)
    ∙ ap (λ (t : Service). row_made ws (replies_to s.service (newly_decided s.durable.part y.batch)) t z) (serves ∙ ap (λ (xs : List Entry). all_after s.service xs) es)
    ∙ ap (λ (x : PartStep). row_made ws (replies_to s.service (newly_decided s.durable.part y.batch)) (all_after s.service (newly_decided s.durable.part y.batch)) x) row
    ∙ sym (row_planned s ws y)

-- ---- a closing

-- what begins anew
abbrev anew_of : step.Volatile → Service → List Reply → Planned → Planned
anew_of v s given_up x =
    let g = dropping x.waiting given_up in
    record x { volatile = v; service = s; waiting = g.waiting; replies = x.replies ++ g.replies }

role_turned : (t : Turn) (v : step.Volatile) → turned t v.role ≡ (turned_in t v).role
role_turned (turn.Hear h) v = refl
role_turned (turn.RaiseFloor b) v = refl
role_turned (turn.NextRound e n) v = refl
role_turned (turn.Stage at run from) v = refl
role_turned (turn.StagePiece p fresh) v = refl
role_turned turn.DropPieces v = refl
role_turned t v = refl

module _ (me : ℕ) (ws : Waiting) (v : step.Volatile) (s : Service) (served : Served) (room : Room) (plan new : Plan) where
  -- what the plan does without a renewal
  abbrev bare_made : Planned
  bare_made = made_by ws v s (chain_plan plan served None room)

  close_made : (q : Part) (r : Renewal) → Closes me q (service_over s served.change) v.role plan new r → made_by ws v s (chain_plan new served (Some r) room) ≡ closing_part me q bare_made
  close_made q r closes =
      let t : Service = service_over s served.change in
      let more : Plan = closed_plan me q t plan in
      let x : Planned = made_by ws v s (chain_plan more served None room) in
      let why = cause.Stop (q.decided - 1) in
      ap (λ (n : Plan). made_by ws v s (chain_plan n served (Some r) room)) closes.plan
      ∙ ap (λ (w : step.Volatile). anew_of w (service_anew r.service t) r.given_up x) closes.anew.first
      ∙ ap (λ (m : Option MapState). anew_of (first_volatile me) (service_anew m t) r.given_up x) closes.service
      ∙ ap (λ (rs : List Reply). anew_of (first_volatile me) t rs x) (closes.given_up ∙ ap (λ (role : Role). given_up_by role why) (role_turned plan.turn v))

  -- a plan that may close its part does what the table says
  pub closes_made : (o : Option Part) (r : Option Renewal) → IfCloses me o (service_over s served.change) v.role plan new r → made_by ws v s (chain_plan new served r room) ≡ closing me o bare_made
  closes_made None r closes =
      ap (λ (n : Plan). made_by ws v s (chain_plan n served r room)) closes.0
      ∙ ap (λ (x : Option Renewal). made_by ws v s (chain_plan plan served x room)) closes.1
  closes_made (Some p) None closes =
      ap (λ (n : Plan). made_by ws v s (chain_plan n served None room)) closes.0
      ∙ sym (cond-false (is_some (stop_at_end (decided_since p (part_after p plan.batch)))) (closing_part me (part_after p plan.batch) bare_made) bare_made closes.1)
  closes_made (Some p) (Some r) closes =
      close_made (part_after p plan.batch) r closes.0
      ∙ sym (cond-true (is_some (stop_at_end (decided_since p (part_after p plan.batch)))) (closing_part me (part_after p plan.batch) bare_made) bare_made closes.1)

-- the plan of an input that brings nothing of a closed list
pub step_table : (me : ℕ) (ws : Waiting) (v : step.Volatile) (s : State) (y : PartStep) (plan new : Plan) (served : Served) (r : Option Renewal) (room : Room)
    → part_step_of plan v ≡ based_step s.durable.part y
    → service_over s.service served.change ≡ all_after s.service (newly_decided s.durable.part plan.batch)
    → served.replies ≡ replies_to s.service (newly_decided s.durable.part plan.batch)
    → IfCloses me s.durable.part (service_over s.service served.change) v.role plan new r
    → made_by ws v s.service (chain_plan new served r room) ≡ plan_of me s ws y
step_table me ws v s y plan new served r room row serves gives closes =
    closes_made me ws v s.service served room plan new s.durable.part r closes
    ∙ ap (λ (x : Planned). closing me s.durable.part x) (row_table ws v s y plan served room row serves gives)

-- ---- what a node that joins takes

conf_joined : (j : Joining) (c : Change) → (joining_with j c).conf ≡ j.conf
conf_joined j (change.JoinDonor q t) = refl
conf_joined j (change.JoinBase at b) = refl
conf_joined j (change.JoinPart at es) = refl
conf_joined j _ = refl

members_joined : (j : Joining) (c : Change) → (joining_with j c).members ≡ j.members
members_joined j (change.JoinDonor q t) = refl
members_joined j (change.JoinBase at b) = refl
members_joined j (change.JoinPart at es) = refl
members_joined j _ = refl

len_joined : (j : Joining) (c : Change) → (joining_with j c).len ≡ j.len
len_joined j (change.JoinDonor q t) = refl
len_joined j (change.JoinBase at b) = refl
len_joined j (change.JoinPart at es) = refl
len_joined j _ = refl

-- what is held later is of the same configuration
pub same_conf : (j : Joining) (batch : List Change) → (joining_after j batch).conf ≡ j.conf
same_conf j [] = refl
same_conf j (c ∷ batch) = same_conf (joining_with j c) batch ∙ conf_joined j c

pub same_members : (j : Joining) (batch : List Change) → (joining_after j batch).members ≡ j.members
same_members j [] = refl
same_members j (c ∷ batch) = same_members (joining_with j c) batch ∙ members_joined j c

pub same_len : (j : Joining) (batch : List Change) → (joining_after j batch).len ≡ j.len
same_len j [] = refl
same_len j (c ∷ batch) = same_len (joining_with j c) batch ∙ len_joined j c

-- a plan of these changes, and of this turn
abbrev pub storing_plan : List Change → Turn → Plan
storing_plan batch t = record nothing_plan { batch = batch; turn = t }

-- a turn beside a base leaves the role
beside_role : (o : Option Base) (r : Role) → turned (turn_beside o) r ≡ r
beside_role None r = refl
beside_role (Some b) r = refl

-- what is staged of a log stays where no promise is raised
calm : (batch : List Change) (staged : Held) → raises_promise batch ≡ false → staged_after batch staged ≡ staged
calm batch staged is = cond-false (raises_promise batch) [] staged is

-- the role, and what is staged of a log, stay
pub record IsKept (v w : step.Volatile) : Type 0 where
  pub role : w.role ≡ v.role
  pub staged : w.staged ≡ v.staged

kept_beside : (o : Option Base) (batch : List Change) (v : step.Volatile) → raises_promise batch ≡ false → IsKept v (adopted_in batch (turn_beside o) v)
kept_beside None batch v calms = record { role = refl; staged = calm batch v.staged calms }
kept_beside (Some b) batch v calms = record { role = refl; staged = calm batch v.staged calms }

pub holding_kept : (o : Option Joining) (batch : List Change) (v : step.Volatile) → raises_promise batch ≡ false → IsKept v (adopted_in batch (turn_holding o batch) v)
holding_kept None batch v calms = record { role = refl; staged = calm batch v.staged calms }
holding_kept (Some j) batch v calms = kept_beside (joining_after j batch).base batch v calms

module _ (me : ℕ) (s : State) (batch : List Change) (change : Written) (same : service_over s.service change ≡ s.service) (room : Room) (new : Plan) (calms : raises_promise batch ≡ false) where
  -- what the plan of this turn does, where nothing begins anew
  abbrev stored_with : Turn → Planned
  stored_with t = made_by s.waiting s.volatile s.service (chain_plan (storing_plan batch t) (unserved change) None room)

  served_same : (t : Turn) → (let x : Planned = record (only_stores s batch) { volatile = adopted_in batch t s.volatile } in stored_with t ≡ x)
  served_same t = ap (λ (u : Service). let x : Planned = record (only_stores s batch) { volatile = adopted_in batch t s.volatile; service = u } in x) same

  -- no piece stays staged beside a base
  stored : (b : Option Base) → stored_with (turn_beside b) ≡ stores_beside s batch b
  stored None =
      served_same turn.Stay
      ∙ ap (λ (h : Held). let v : step.Volatile = record s.volatile { staged = h } in let x : Planned = record (only_stores s batch) { volatile = v } in x) (calm batch s.volatile.staged calms)
  stored (Some b) =
      served_same turn.DropPieces
      ∙ ap (λ (h : Held). let v : step.Volatile = record s.volatile { staged = h; pieces = None } in let x : Planned = record (only_stores s batch) { volatile = v } in x) (calm batch s.volatile.staged calms)

  gone_on : (j k : Joining) (m : MapState) (r : Renewal) (t : Turn) → turned t s.volatile.role ≡ s.volatile.role → GoesOn me j m s.volatile.role (storing_plan batch t) new r → k.conf ≡ j.conf → k.members ≡ j.members → k.len ≡ j.len
      → (b : Option Base) (es : Option (List Entry)) → Some m.service ≡ joined b es → made_by s.waiting s.volatile s.service (chain_plan new (unserved change) (Some r) room) ≡ goes_on_if me s k batch b es
  gone_on j k m r t role goes conf members len (Some b) (Some es) is =
      let u : Service = joined_service b es in
      let served : m.service ≡ u = cc in
      let more : Service → ℕ → List ℕ → Plan = λ z c ms. joined_plan me (record k { conf = c; members = ms }) z (storing_plan batch t) in
      let x : Plan → Planned = λ n. made_by s.waiting s.volatile s.service (chain_plan n (unserved change) None room) in
      let why : ℕ → List Reply = λ n. given_up_by s.volatile.role (cause.Stop (n - 1)) in
      let told : r.given_up ≡ why k.len = goes.given_up ∙ ap (λ (q : Role). given_up_by q (cause.Stop (j.len - 1))) role ∙ ap why (sym len) in
      ap (λ (n : Plan). made_by s.waiting s.volatile s.service (chain_plan n (unserved change) (Some r) room)) goes.plan
      ∙ ap (λ (w : step.Volatile). anew_of w (service_anew r.service (service_over s.service change)) r.given_up (x (more m.service j.conf j.members))) goes.anew.first
      ∙ ap (λ (o : Option MapState). anew_of (first_volatile me) (service_anew o (service_over s.service change)) r.given_up (x (more m.service j.conf j.members))) goes.service
      ∙ ap (λ (rs : List Reply). anew_of (first_volatile me) m.service rs (x (more m.service j.conf j.members))) told
      ∙ ap (λ (z : Service). anew_of (first_volatile me) z (why k.len) (x (more z j.conf j.members))) served
      ∙ ap (λ (c : ℕ). anew_of (first_volatile me) u (why k.len) (x (more u c j.members))) (sym conf)
      ∙ ap (λ (ms : List ℕ). anew_of (first_volatile me) u (why k.len) (x (more u k.conf ms))) (sym members)
  gone_on j k m r t role goes conf members len (Some b) None is = absurd cc
  gone_on j k m r t role goes conf members len None es is = absurd cc

  not_yet : (k : Joining) (b : Option Base) (es : Option (List Entry)) → None ≡ joined b es → stores_beside s batch b ≡ goes_on_if me s k batch b es
  not_yet k (Some b) (Some es) is = absurd cc
  not_yet k (Some b) None is = refl
  not_yet k None es is = refl

  by_service : (j : Joining) (m : Option MapState) (r : Option Renewal) → IfJoined j batch m → IfGoesOn me (Some j) m s.volatile.role (storing_plan batch (turn_holding (Some j) batch)) new r
      → made_by s.waiting s.volatile s.service (chain_plan new (unserved change) r room) ≡ holding me s batch (Some (joining_after j batch))
  by_service j None r is goes =
      let k : Joining = joining_after j batch in
      ap (λ (n : Plan). made_by s.waiting s.volatile s.service (chain_plan n (unserved change) r room)) goes.0
      ∙ ap (λ (o : Option Renewal). made_by s.waiting s.volatile s.service (chain_plan (storing_plan batch (turn_beside k.base)) (unserved change) o room)) goes.1
      ∙ stored k.base ∙ not_yet k k.base (cover_of k) is
  by_service j (Some m) None is goes = absurd goes
  by_service j (Some m) (Some r) is goes =
      let k : Joining = joining_after j batch in
      gone_on j k m r (turn_beside k.base) (beside_role k.base s.volatile.role) goes (same_conf j batch) (same_members j batch) (same_len j batch) k.base (cover_of k) is

  -- the plan of an input that brings something of a closed list
  pub join_table : (j : Joining) (m : Option MapState) (r : Option Renewal) → IfJoined j batch m → (durable_after s.durable batch).joining ≡ Some (joining_after j batch)
      → IfGoesOn me (Some j) m s.volatile.role (storing_plan batch (turn_holding (Some j) batch)) new r → made_by s.waiting s.volatile s.service (chain_plan new (unserved change) r room) ≡ holds_more me s batch
  join_table j m r is after goes = by_service j m r is goes ∙ ap (λ (o : Option Joining). holding me s batch o) (sym after)

-- ---- who waits

each_waits : (cs : List Command) (ws : Waiting) → with_waiters ws (map (λ c. (c.client, c.seq)) cs) ≡ waiting_each ws cs
each_waits [] ws = refl
each_waits (c ∷ cs) ws = each_waits cs (waiting_with ws c)

-- what is proposed isn't refused
proposed_waits : (me : ℕ) (p : Part) (r : Role) (es : List Entry) (ws : Waiting) (more : List (ℕ × ℕ)) → waiting_by (propose me p r es).outcome ws more ≡ with_waiters ws more
proposed_waits me p Idle es ws more = refl
proposed_waits me p (Preparing r) es ws more = refl
proposed_waits me p (Leading l) es ws more = refl

none_refused : (me : ℕ) (r : Role) (k : Option Closed) (j : Option Joining) (es : List Entry) → (let d : Durable = record { part = None; closed = k; joining = j } in refusal_of me r d es ≡ None → ⊥)
none_refused me r (Some l) j es none = cc
none_refused me r None j es none = cc

proposal_waits : (me : ℕ) (o : Option Part) (v : step.Volatile) (cs : List Command) (why : Option Refusal) (ws : Waiting) → (o ≡ None → why ≡ None → ⊥)
    → waiting_by (proposal_at me o v (entries_of cs) why).outcome ws (map (λ c. (c.client, c.seq)) cs) ≡ waiting_for ws cs why
proposal_waits me None v cs None ws some = absurd (some refl refl)
proposal_waits me None v cs (Some why) ws some = refl
proposal_waits me (Some p) v cs (Some why) ws some = refl
proposal_waits me (Some p) v cs None ws some = proposed_waits me p v.role (entries_of cs) ws (map (λ c. (c.client, c.seq)) cs) ∙ each_waits cs ws

no_waiters : (o : Option Outcome) (ws : Waiting) → waiting_by o ws [] ≡ ws
no_waiters None ws = refl
no_waiters (Some (outcome.Refused why)) ws = refl
no_waiters (Some o) ws = refl

commands_wait : (me : ℕ) (o : Option Part) (k : Option Closed) (j : Option Joining) (v : step.Volatile) (cs : List Command) (ws : Waiting)
    → (let d : Durable = record { part = o; closed = k; joining = j } in waiting_by (step_at me d v (input.Commands cs)).outcome ws (waiters_of (input.Commands cs)) ≡ waiting_for ws cs (refusal_of me v.role d (entries_of cs)))
commands_wait me None k j v cs ws =
    let d : Durable = record { part = None; closed = k; joining = j } in
    proposal_waits me None v cs (refusal_of me v.role d (entries_of cs)) ws (λ same none. none_refused me v.role k j (entries_of cs) none)
commands_wait me (Some p) k j v cs ws =
    let d : Durable = record { part = Some p; closed = k; joining = j } in
    proposal_waits me (Some p) v cs (refusal_of me v.role d (entries_of cs)) ws (λ none same. cc)

-- the clients of commands that aren't refused wait
pub waits_table : (me : ℕ) (s : State) (x : Input) → waiting_by (step_at me s.durable s.volatile x).outcome s.waiting (waiters_of x) ≡ waiting_at me s x
waits_table me s (input.Commands cs) = commands_wait me s.durable.part s.durable.closed s.durable.joining s.volatile cs s.waiting
waits_table me s input.Tick = no_waiters (step_at me s.durable s.volatile input.Tick).outcome s.waiting
waits_table me s (input.Deliver q m) = no_waiters (step_at me s.durable s.volatile (input.Deliver q m)).outcome s.waiting
waits_table me s (input.Stop members) = no_waiters (step_at me s.durable s.volatile (input.Stop members)).outcome s.waiting
waits_table me s input.TrimNow = no_waiters (step_at me s.durable s.volatile input.TrimNow).outcome s.waiting
waits_table me s (input.Up q) = no_waiters (step_at me s.durable s.volatile (input.Up q)).outcome s.waiting
waits_table me s (input.Read r) = no_waiters (step_at me s.durable s.volatile (input.Read r)).outcome s.waiting
waits_table me s (input.Down q) = no_waiters (step_at me s.durable s.volatile (input.Down q)).outcome s.waiting
