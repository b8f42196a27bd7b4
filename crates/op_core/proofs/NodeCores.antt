-- A node in range does each step that the loop gives it, and stays in range; so is one that is opened.
use Rattle.std.proofs.Common.{◌≡◌, ◌≤◌, ℕ, Bool, true, false, List, [], Option, Some, None, Result, Ok, Err, All, IfSome, IfOk, IfErr, refl, sym, subst, arith}
use Rattle.std.proofs.lemmas.List.Elements.{All-nil, All-weaker}
use Rattle.op_types.specs.Changes.{IsCommand, empty_durable}
use Rattle.op_types.specs.Ranges.{IsPid}
use Rattle.op_types.specs.declared.answers.Answer.{Answer}
use Rattle.op_types.specs.declared.answers.Answer.TheVariants as answer
use Rattle.op_types.specs.declared.answers.Cause.TheVariants as cause
use Rattle.op_types.specs.declared.answers.Reply.{Reply}
use Rattle.op_types.specs.declared.durable.Durable.{Durable}
use Rattle.op_types.specs.declared.durable.Part.{Part}
use Rattle.op_types.specs.declared.log.Entry.{Entry}
use Rattle.op_types.specs.declared.events.Input.{Input}
use Rattle.op_types.specs.declared.events.Input.TheVariants as input
use Rattle.op_types.specs.declared.messages.Body.{Body}
use Rattle.op_types.specs.declared.messages.Body.TheVariants as body
use Rattle.op_types.specs.declared.messages.Msg.{Msg}
use Rattle.op_types.specs.declared.messages.Watch.TheVariants as watch
use Rattle.op_record.specs.Ranges.{BatchInRange, ChangeInRange, DurableInRange}
use Rattle.op_msg.specs.Ranges.{BodyInRange, ForwardedInRange, ForwardsInRange, least_conf_of}
use Rattle.op_command.specs.Ranges.{AnswerInRange, OutcomeInRange}
use Rattle.op_protocol.specs.State.{State, Planned}
use Rattle.op_protocol.specs.Starting.{first_volatile, sends_after_restart, state_after_restart}
use Rattle.op_bounds.specs.Messages.{EntryOf}
use Rattle.op_bounds.specs.Messages as known
use Rattle.op_bounds.specs.States.{VolatileEndsNowhere, StateInRange, ObserverStateInRange}
use Rattle.op_bounds.specs.Laws.{PlanLeaving, OpeningInRange}
use Rattle.op_bounds.proofs.Observing.{observer_steps_stay}
use Rattle.op_bounds.proofs.Steps.{steps_stay}
use Rattle.op_bounds.proofs.Starts.{openings_stay, observer_openings_stay}
use Rattle.op_bounds.proofs.Beginning.{first_stops}
use Rattle.op_bounds.proofs.Known.{servers, ballot_any, members_any, entry_any, entries_any, durable_any}
use Rattle.op_bounds.proofs.Frames.{message_is}
use Rattle.op_types.specs.declared.given.Given.{Given}
use Rattle.op_node.specs.Nodes as node
use Rattle.op_node.specs.Nodes.{NodeState, node_of, stores, Stepped, AdmitsInput, IsSoundNode}
use Rattle.op_node.specs.Openings.{OpensAs, durable_for, kept_from, watched_for, opening_state}
use Rattle.op_node.proofs.NodeOpenings.{taken_in_range, watching_in_range}
use Rattle.op_outside.specs.Disks.{DiskState}
use Rattle.op_runs.specs.World.{Kind, Votes, Observes, plan_as, state_after_reopening, sends_as}
use Rattle.op_store.specs.declared.fail.StoreFail.{StoreFail}
use Rattle.op_store.specs.declared.fail.StoreFail.TheVariants as store_fails
use Rattle.op_store.specs.Stored.{Disks}
use Rattle.op_node.specs.Reopenings.{count_kept, Reopens, Restarts, RefusesAgain}
use Rattle.op_node.specs.declared.node.Node.{Node}
use Rattle.op_node.specs.declared.fail.StepFail.{StepFail}
use Rattle.op_node.specs.declared.fail.StepFail.TheVariants as fails
use Rattle.op_serving.specs.Cores as cores
use Rattle.op_serving.specs.Ranges.{InputInRange, SendInRange, ReplyInRange, GivenInRange}
use Rattle.op_core.specs.NodeCores.{handed, handed_again, standing_by, standing_at, StateFits, IsServable}
use Rattle.op_core.specs.declared.place.Place.{Place}

-- ---- from one form of range to the other

forwards_of : (es : List Entry) → ForwardsInRange es → known.ForwardsInRange IsPid es
forwards_of es r =
    record {
      several = r.several;
      few = r.few;
      small = r.small;
      each = All-weaker ForwardedInRange (EntryOf IsPid) (λ e f. entry_any e f.0) es r.each;
      commands = All-weaker ForwardedInRange IsCommand (λ e f. f.1) es r.each;
    }

least_of : (b : Body) (c : ℕ) → least_conf_of b ≤ c → known.least_conf_of b ≤ c
least_of (body.NextConf members olds len trimmed) c h = h
least_of _ c h = h

body_of : (b : Body) → BodyInRange b → known.BodyInRange IsPid b
body_of (body.HeartbeatRequest round) r = r
body_of (body.HeartbeatReply round b flag) r = (r.0, ballot_any b r.1)
body_of (body.Prepare n na nl nd) r = (ballot_any n r.0, ballot_any na r.1, r.2, r.3)
body_of (body.Promise n fa fl fd s es) r = (ballot_any n r.0, ballot_any fa r.1, r.2, r.3, r.4, entries_any es r.5)
body_of (body.PromisePart n part) r = (
  ballot_any n r.0,
  record { accepted = ballot_any part.accepted r.1.accepted; len = r.1.len; decided = r.1.decided; start = r.1.start; at = r.1.at; run = entries_any part.run r.1.run },
)
body_of (body.AcceptSyncPart n part) r = (ballot_any n r.0, record { start = r.1.start; end = r.1.end; at = r.1.at; run = entries_any part.run r.1.run })
body_of (body.BasePiece piece) r = r
body_of (body.AcceptSync n x es) r = (ballot_any n r.0, r.1, entries_any es r.2)
body_of (body.Accept n at es) r = (ballot_any n r.0, r.1, entries_any es r.2)
body_of (body.Accepted n x) r = (ballot_any n r.0, r.1)
body_of (body.Decide n x) r = (ballot_any n r.0, r.1)
body_of body.PrepareReq r = tt
body_of (body.Refuse n b) r = (ballot_any n r.0, ballot_any b r.1)
body_of (body.Forward e) r = entry_any e r
body_of (body.Forwards es) r = forwards_of es r
body_of (body.TrimAsk n) r = ballot_any n r
body_of (body.Progress n x) r = (ballot_any n r.0, r.1)
body_of (body.Trim x) r = r
body_of (body.NextConf members olds len trimmed) r = (members_any members r.0, members_any olds r.1, r.2, r.3)
body_of body.AskBase r = tt
body_of (body.BasePart at bytes) r = r
body_of (body.AskSegment from to) r = r
body_of (body.Segment at es) r = (r.0, entries_any es r.1)
body_of (body.Confirm n number) r = (ballot_any n r.0, r.1)
body_of (body.Confirmed n number) r = (ballot_any n r.0, r.1)
body_of (body.Watch (watch.Ask from)) r = r
body_of (body.Watch (watch.Shown at es)) r = (r.0, entries_any es r.1)
body_of (body.Watch (watch.Base members piece)) r = (members_any members r.0, r.1)

pub input_of : (x : Input) → InputInRange x → known.InputInRange IsPid x
input_of input.Tick r = tt
input_of (input.Deliver q m) r = (r.0, record { conf = r.1.conf; least = least_of m.body m.conf r.1.least; body = body_of m.body r.1.body })
input_of (input.Commands cs) r = r
input_of (input.Stop members) r = members_any members r
input_of input.TrimNow r = tt
input_of (input.Read x) r = r
input_of (input.Up q) r = r
input_of (input.Down q) r = r

pub send_is : (s : ℕ × Msg) → known.SendInRange IsPid s → SendInRange s
send_is s r = (r.to, message_is IsPid s.1 r.message)

cause_is : (a : Answer) → known.AnswerInRange IsPid a → AnswerInRange a
cause_is answer.Done r = tt
cause_is (answer.Value v) r = r
cause_is answer.Absent r = tt
cause_is answer.Stale r = tt
cause_is (answer.Dropped (cause.Ballot b)) r = r.range
cause_is (answer.Dropped (cause.Stop pos)) r = r
cause_is (answer.Dropped cause.End) r = tt

reply_is : (a : Reply) → known.ReplyInRange IsPid a → ReplyInRange a
reply_is a r = record { asked = r.asked; answer = cause_is a.answer r.answer }

-- ---- a step

-- a node by its parts
abbrev pub node_by : Kind → ℕ → State → Option ℕ → NodeState
node_by k me s o = record { kind = k; me = me; state = s; failed = o }

-- a state of either kind
abbrev Fits : Kind → State → Type 0
Fits k s = StateFits k s

-- what it plans is in range, and so is its state after that
abbrev PlanFits : Kind → ℕ → State → Input → Type 0
PlanFits k me s x = PlanLeaving IsPid (λ t. Fits k t) s (plan_as k me s x)

plan_fits : (k : Kind) (me : ℕ) (s : State) (x : Input) → IsPid me → Fits k s → InputInRange x → PlanFits k me s x
plan_fits Votes me s x one range r = steps_stay IsPid servers me one s range x (input_of x r)
plan_fits Observes me s x one range r = observer_steps_stay IsPid servers me s range x (input_of x r)

-- what a node stores is in range
batch_at : (k : Kind) (me : ℕ) (s : State) (o : Option ℕ) (x : Input) → IsPid me → Fits k s → InputInRange x → BatchInRange (stores (node_by k me s o) x)
batch_at k me s None x one range r = (plan_fits k me s x one range r).batch
batch_at k me s (Some count) x one range r = record { few = omega arith; each = All-nil ChangeInRange }

pub batch_in : (n : NodeState) (x : Input) → IsPid n.me → Fits n.kind n.state → InputInRange x → BatchInRange (stores n x)
batch_in n x one range r = batch_at n.kind n.me n.state n.failed x one range r

-- what it gives out, but that the count of a fault fits its type
pub record Handed (g : Given) : Type 0 where
  pub sends : All SendInRange g.sends
  pub replies : All ReplyInRange g.replies
  pub read_replies : All ReplyInRange g.read_replies
  pub outcome : IfSome g.outcome (known.OutcomeInRange IsPid)

refused_at : (count : ℕ) (x : Input) → Handed (node.refused_with count x)
refused_at count input.Tick = record { sends = All-nil SendInRange; replies = All-nil ReplyInRange; read_replies = All-nil ReplyInRange; outcome = tt }
refused_at count (input.Deliver q m) = record { sends = All-nil SendInRange; replies = All-nil ReplyInRange; read_replies = All-nil ReplyInRange; outcome = tt }
refused_at count (input.Commands cs) = record { sends = All-nil SendInRange; replies = All-nil ReplyInRange; read_replies = All-nil ReplyInRange; outcome = tt }
refused_at count (input.Stop members) = record { sends = All-nil SendInRange; replies = All-nil ReplyInRange; read_replies = All-nil ReplyInRange; outcome = tt }
refused_at count input.TrimNow = record { sends = All-nil SendInRange; replies = All-nil ReplyInRange; read_replies = All-nil ReplyInRange; outcome = tt }
refused_at count (input.Read r) = record { sends = All-nil SendInRange; replies = All-nil ReplyInRange; read_replies = All-nil ReplyInRange; outcome = tt }
refused_at count (input.Up q) = record { sends = All-nil SendInRange; replies = All-nil ReplyInRange; read_replies = All-nil ReplyInRange; outcome = tt }
refused_at count (input.Down q) = record { sends = All-nil SendInRange; replies = All-nil ReplyInRange; read_replies = All-nil ReplyInRange; outcome = tt }

handed_at : (k : Kind) (me : ℕ) (s : State) (o : Option ℕ) (x : Input) → IsPid me → Fits k s → InputInRange x → Handed (node.gives (node_by k me s o) x)
handed_at k me s None x one range r =
    let p : PlanFits k me s x = plan_fits k me s x one range r in
    let plan : Planned = plan_as k me s x in
    record {
      sends = All-weaker (known.SendInRange IsPid) SendInRange send_is plan.sends p.sends;
      replies = All-weaker (known.ReplyInRange IsPid) ReplyInRange reply_is plan.replies p.replies;
      read_replies = All-weaker (known.ReplyInRange IsPid) ReplyInRange reply_is plan.read_replies p.read_replies;
      outcome = p.outcome;
    }
handed_at k me s (Some count) x one range r = refused_at count x

pub given_in : (n : NodeState) (x : Input) → IsPid n.me → Fits n.kind n.state → InputInRange x → Handed (node.gives n x)
given_in n x one range r = handed_at n.kind n.me n.state n.failed x one range r

-- its state after it
after_at : (k : Kind) (me : ℕ) (s : State) (o : Option ℕ) (x : Input) → IsPid me → Fits k s → InputInRange x
    → Fits k (node.after_input (node_by k me s o) x).state
after_at k me s None x one range r = (plan_fits k me s x one range r).after
after_at k me s (Some count) x one range r = range

pub after_in : (n : NodeState) (x : Input) → IsPid n.me → Fits n.kind n.state → InputInRange x → Fits n.kind (node.after_input n x).state
after_in n x one range r = after_at n.kind n.me n.state n.failed x one range r

kind_at : (k : Kind) (me : ℕ) (s : State) (o : Option ℕ) (x : Input) → (node.after_input (node_by k me s o) x).kind ≡ k
kind_at k me s None x = refl
kind_at k me s (Some count) x = refl

pub same_kind : (n : NodeState) (x : Input) → (node.after_input n x).kind ≡ n.kind
same_kind n x = kind_at n.kind n.me n.state n.failed x

me_at : (k : Kind) (me : ℕ) (s : State) (o : Option ℕ) (x : Input) → (node.after_input (node_by k me s o) x).me ≡ me
me_at k me s None x = refl
me_at k me s (Some count) x = refl

pub same_me : (n : NodeState) (x : Input) → (node.after_input n x).me ≡ n.me
same_me n x = me_at n.kind n.me n.state n.failed x

failed_at : (k : Kind) (me : ℕ) (s : State) (o : Option ℕ) (x : Input) → (node.after_input (node_by k me s o) x).failed ≡ o
failed_at k me s None x = refl
failed_at k me s (Some count) x = refl

pub same_failed : (n : NodeState) (x : Input) → (node.after_input n x).failed ≡ n.failed
same_failed n x = failed_at n.kind n.me n.state n.failed x

-- the node can do the step
pub admits : {D : Type 0} (n : Node D) (x : Input) → IsServable n → InputInRange x → AdmitsInput n x
admits n x s r = record { sound = s.sound; range = batch_in (node_of n) x s.me s.range r }

-- a node that is this one can be served
pub servable_as : {D : Type 0} (m : Node D) (k : NodeState) → node_of m ≡ k → IsPid k.me → Fits k.kind k.state → IsSoundNode m → IsServable m
servable_as m k is me range sound = record {
  me = subst (λ (j : NodeState). IsPid j.me) (sym is) me;
  sound = sound;
  range = subst (λ (j : NodeState). Fits j.kind j.state) (sym is) range;
}

-- it can be served after it
pub stays : {D : Type 0} (n m : Node D) (x : Input) (result : Result Given StepFail) → IsServable n → InputInRange x → Stepped (node_of n) x result (node_of m) → IsSoundNode m → IsServable m
stays n m x (Ok given) s r d sound =
    servable_as m (node.after_input (node_of n) x) d.1 (subst IsPid (sym (same_me (node_of n) x)) s.me)
    (subst (λ (k : Kind). Fits k (node.after_input (node_of n) x).state) (sym (same_kind (node_of n) x)) (after_in (node_of n) x s.me s.range r)) sound
stays n m x (Err (fails.DiskFail count)) s r d sound =
    servable_as m (let k : NodeState = record (node_of n) { failed = Some count } in k) d s.me s.range sound
stays n m x (Err fails.NoMemory) s r d sound = servable_as m (node_of n) d s.me s.range sound

-- it is the step that serving knows
refuses_so : (count : ℕ) (x : Input) → node.refused_with count x ≡ cores.refused_with count x
refuses_so count input.Tick = refl
refuses_so count (input.Deliver q m) = refl
refuses_so count (input.Commands cs) = refl
refuses_so count (input.Stop members) = refl
refuses_so count input.TrimNow = refl
refuses_so count (input.Read r) = refl
refuses_so count (input.Up q) = refl
refuses_so count (input.Down q) = refl

pub gives_at : (k : Kind) (me : ℕ) (s : State) (o : Option ℕ) (p : Place) (f : ℕ) (x : Input) → node.gives (node_by k me s o) x ≡ cores.gives (standing_by o k me s p f) x
unfolding cores.gives
gives_at k me s None p f x = refl
gives_at k me s (Some count) p f x = refuses_so count x

pub after_so : (k : Kind) (me : ℕ) (s : State) (o : Option ℕ) (p : Place) (f : ℕ) (x : Input) → standing_at (node.after_input (node_by k me s o) x) p f ≡ cores.after_input (standing_by o k me s p f) x
unfolding cores.after_input
after_so k me s None p f x = refl
after_so k me s (Some count) p f x = refl

-- what it gives out is in range
pub gave : {D : Type 0} (n m : Node D) (x : Input) (result : Result Given StepFail) → IsServable n → InputInRange x → Stepped (node_of n) x result (node_of m)
    → IfOk result (λ g. IfSome g.outcome (known.OutcomeInRange IsPid) → IfSome g.outcome OutcomeInRange) → IfOk (handed result) GivenInRange
gave n m x (Ok given) s r d fits =
    let h : Handed given = subst Handed (sym d.0) (given_in (node_of n) x s.me s.range r) in
    record { sends = h.sends; replies = h.replies; read_replies = h.read_replies; outcome = fits h.outcome }
gave n m x (Err (fails.DiskFail count)) s r d fits = tt
gave n m x (Err fails.NoMemory) s r d fits = tt

-- ---- an opening

first_ends : (me : ℕ) (o : Option Part) → IfSome o (λ p. VolatileEndsNowhere p.conf (first_volatile me))
first_ends me None = tt
first_ends me (Some p) = first_stops p.conf me

-- a state in which nothing was kept in memory yet
nothing_in : (me : ℕ) → IsPid me → OpeningInRange IsPid me empty_durable
nothing_in me one = openings_stay IsPid servers me one empty_durable (durable_any empty_durable (record { part = tt; closed = tt; joining = tt }))

opening_at : (k : Kind) (me : ℕ) (is_new : Bool) (d : Durable) → IsPid me → DurableInRange d → Fits k (opening_state k me is_new d)
opening_at Votes me true d one r =
    let first = nothing_in me one in
    record {
      durable = durable_any (durable_for me d) (taken_in_range me d r);
      volatile = first.state.volatile;
      stops = first_ends me (durable_for me d).part;
      service = first.state.service;
      order = first.state.order;
      reads = tt;
    }
opening_at Votes me false d one r = (openings_stay IsPid servers me one (durable_for me d) (durable_any (durable_for me d) (taken_in_range me d r))).state
opening_at Observes me true d one r =
    let first = nothing_in me one in
    record { durable = durable_any (watched_for d) (watching_in_range d r); pieces = tt; service = first.state.service; order = first.state.order }
opening_at Observes me false d one r = observer_openings_stay IsPid servers me (watched_for d) (durable_any (watched_for d) (watching_in_range d r))

-- a node that is opened can be served
pub opened : {D : Type 0} (kind : Kind) (state : D → DiskState) (me : ℕ) (members : List ℕ) (old : Disks) (n : Node D) (sends : List (ℕ × Msg)) → OpensAs kind state me members old n sends → IsPid me → IsServable n
opened kind state me members old n sends o one =
    servable_as n (node_by kind me (opening_state kind me o.is_new o.durable) None) o.node one (opening_at kind me o.is_new o.durable one o.range) o.sound

-- ---- a node that failed

reopening_at : (k : Kind) (me : ℕ) (s : State) (d : Durable) → IsPid me → DurableInRange d → Fits k (state_after_reopening me s (kept_from k me d))
reopening_at Votes me s d one r =
    let range : StateInRange IsPid (state_after_restart me (durable_for me d)) = opening_at Votes me false d one r in
    record { durable = range.durable; volatile = range.volatile; stops = range.stops; service = range.service; order = range.order; reads = tt }
reopening_at Observes me s d one r =
    let range : ObserverStateInRange IsPid (state_after_restart me (watched_for d)) = opening_at Observes me false d one r in
    record { durable = range.durable; pieces = range.pieces; service = range.service; order = range.order }

-- it can be served when it is opened again
pub reopened : {D : Type 0} (state : D → DiskState) (d : Durable) (is_new : Bool) (n m : Node D) (sends : List (ℕ × Msg)) → Reopens state d is_new n m sends → IsSoundNode m → IsServable n → IsServable m
reopened state d is_new n m sends o sound s =
    let k : NodeState = node_of n in
    servable_as m (node_by k.kind k.me (state_after_reopening k.me k.state (kept_from k.kind k.me d)) None) o.node s.me (reopening_at k.kind k.me k.state d s.me o.range) sound

-- so can one that is opened as after a restart
pub restarted : {D : Type 0} (state : D → DiskState) (d : Durable) (is_new : Bool) (n m : Node D) (sends : List (ℕ × Msg)) → Restarts state d is_new n m sends → IsSoundNode m → IsServable n → IsServable m
restarted state d is_new n m sends o sound s =
    let k : NodeState = node_of n in
    servable_as m (node_by k.kind k.me (state_after_restart k.me (kept_from k.kind k.me d)) None) o.node s.me (opening_at k.kind k.me false d s.me o.range) sound

-- what it sends then is in range
sends_in : (k : Kind) (me : ℕ) (d : Durable) → IsPid me → DurableInRange d → All SendInRange (sends_as k me (kept_from k me d))
sends_in Votes me d one r =
    let again : OpeningInRange IsPid me (durable_for me d) = openings_stay IsPid servers me one (durable_for me d) (durable_any (durable_for me d) (taken_in_range me d r)) in
    All-weaker (known.SendInRange IsPid) SendInRange send_is (sends_after_restart me (durable_for me d)) again.sends
sends_in Observes me d one r = All-nil SendInRange

pub given_again_in : {D : Type 0} (state : D → DiskState) (d : Durable) (is_new : Bool) (n m : Node D) (sends : List (ℕ × Msg)) → Restarts state d is_new n m sends → IsServable n
    → GivenInRange (record { sends = sends; replies = []; read_replies = []; outcome = None })
given_again_in state d is_new n m sends o s =
    record {
      sends = subst (λ (ss : List (ℕ × Msg)). All SendInRange ss) (sym o.sends_are) (sends_in (node_of n).kind (node_of n).me d s.me o.range);
      replies = All-nil ReplyInRange;
      read_replies = All-nil ReplyInRange;
      outcome = tt;
    }

-- and where that is refused
pub unopened : {D : Type 0} (state : D → DiskState) (n m : Node D) (cause : StoreFail) → RefusesAgain state n m cause → IsSoundNode m → IsServable n → IsServable m
unopened state n m cause r sound s =
    servable_as m (let k : NodeState = record (node_of n) { failed = count_kept (node_of n).failed cause } in k) r.node s.me s.range sound

-- whatever an opening answers, it can be served, and what it gives out is in range
pub stays_again : {D : Type 0} (state : D → DiskState) (n m : Node D) (result : Result (List (ℕ × Msg)) StoreFail) → IfOk result (λ sends. (d : Durable) × (is_new : Bool) × Restarts state d is_new n m sends)
    → IfErr result (RefusesAgain state n m) → IsSoundNode m → IsServable n → IsServable m
stays_again state n m (Ok sends) o r sound s = restarted state o.0 o.1 n m sends o.2 sound s
stays_again state n m (Err cause) o r sound s = unopened state n m cause r sound s

pub gave_again : {D : Type 0} (state : D → DiskState) (n m : Node D) (result : Result (List (ℕ × Msg)) StoreFail) → IfOk result (λ sends. (d : Durable) × (is_new : Bool) × Restarts state d is_new n m sends)
    → IsServable n → IfOk (handed_again result) GivenInRange
gave_again state n m (Ok sends) o s = given_again_in state o.0 o.1 n m sends o.2 s
gave_again state n m (Err (store_fails.DiskFault count)) o s = tt
gave_again state n m (Err (store_fails.Damaged area at)) o s = tt
gave_again state n m (Err (store_fails.NewerVersion area version)) o s = tt
gave_again state n m (Err store_fails.NoMemory) o s = tt
