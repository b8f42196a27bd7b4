-- A step either goes on to a later configuration, or keeps the part: then the leader's ballot and the promise never fall.
use Rattle.std.proofs.Common.{◌≡◌, ◌<◌, ◌⊎◌, inl, inr, ℕ, ◌+◌, Bool, true, false, cond, not, ◌&&◌, eqb, ltb, leb, is_some, nat_eq, List, [], ◌∷◌, ◌++◌, All, map, Option, Some, None, refl, sym, ap, ◌∙◌, subst, arith}
use Rattle.std.proofs.lemmas.Bool.{cond_both, cond-true, cond-false, cases_Bool}
use Rattle.std.specs.Prelude.{nat_lt}
use Rattle.std.specs.Set.{is_member}
use Rattle.op_types.specs.Ballots.{is_below, is_same_ballot}
use Rattle.op_types.specs.Limits.{greatest_number}
use Rattle.op_types.specs.Roles.{Idle}
use Rattle.op_types.specs.Changes.{len_of, closed_by, part_after_closed, durable_closing, durable_joined, durable_after}
use Rattle.op_types.specs.Joinings.{Held, Base, cover_of}
use Rattle.op_types.specs.Stages.{with_piece, whole_bytes}
use Rattle.op_types.specs.Stops.{stop_at_end}
use Rattle.op_types.specs.declared.answers.Refusal.{Refusal}
use Rattle.op_types.specs.declared.ballot.Ballot.{Ballot}
use Rattle.op_types.specs.declared.changes.Change.{Change}
use Rattle.op_types.specs.declared.changes.Change.TheVariants as change
use Rattle.op_types.specs.declared.durable.Part.{Part}
use Rattle.op_types.specs.declared.durable.Closed.{Closed}
use Rattle.op_types.specs.declared.durable.Joining.{Joining}
use Rattle.op_types.specs.declared.durable.Durable.{Durable}
use Rattle.op_types.specs.declared.events.Input.{Input}
use Rattle.op_types.specs.declared.events.Input.TheVariants as input
use Rattle.op_types.specs.declared.log.Entry.{Entry}
use Rattle.op_types.specs.declared.log.Entry.TheVariants as entry
use Rattle.op_types.specs.declared.messages.Body.{Body}
use Rattle.op_types.specs.declared.messages.Body.TheVariants as body
use Rattle.op_types.specs.declared.messages.Heard.{Heard}
use Rattle.op_types.specs.declared.messages.Msg.{Msg}
use Rattle.op_types.specs.declared.runs.SyncRun.{SyncRun}
use Rattle.op_types.specs.declared.runs.Piece.{Piece}
use Rattle.op_types.specs.declared.verdict.Verdict.{Verdict}
use Rattle.op_types.specs.declared.verdict.Verdict.TheVariants as verdict
use Rattle.op_spec.specs.Service.{base_bytes}
use Rattle.op_protocol.specs.State.{State, Volatile, Waiting, PartStep, Planned}
use Rattle.op_protocol.specs.Configurations.{latest_in, latest_of, closing_part, closing}
use Rattle.op_protocol.specs.Election.{Candidate, Ended, winner, least, too_low, decided_by, hears_majority, round_end}
use Rattle.op_protocol.specs.Follower.{synced_once, on_accept_sync_part}
use Rattle.op_protocol.specs.Joining.{storing, begins_joining, storing_news, new_entries, takes_base, takes_entries, takes_piece, base_brought, base_once, brought_to, on_base_piece, joins, stores_beside, goes_on_if, holding, holds_more}
use Rattle.op_protocol.specs.Parts.{is_run_to, is_admitted_body, part_after, decided_since}
use Rattle.op_protocol.specs.Tick.{candidate_of, by_verdict}
use Rattle.op_protocol.proofs.TickCases.{begun_at}
use Rattle.op_protocol.specs.Rows.{refusal_of, stop_for, entries_of, on_body, message_at, is_of_joining, may_be_above, on_latest, message_step, brought_by, proposal_at, tick_at, trim_at, up_at, step_at, waiting_at, based, planned, plan_of, step_bringing, table_plan, step_plan}
use Rattle.op_protocol.proofs.Plans.{after_both}
use Rattle.op_protocol.proofs.StepBatches.{IsInside, inside_after, inside_closed, inside_none, inside_all_based, step_inside, Rises, above_after, step_above}
use Rattle.op_protocol.proofs.Based.{based_after}
use Rattle.op_laws.specs.Elected.{elected_of, elected_by}
use Rattle.op_laws.proofs.Placed.{conf_after, members_after}
use Rattle.op_protocol.specs.Watched.{is_watching}

none_some : {A : Type 0} (a : A) → None ≡ Some a → ⊥
none_some a e = cc

pub some_pair : (p q : ℕ × Ballot) → Some p ≡ Some q → p ≡ q
some_pair p q k = cc

some_part : (p q : Part) → Some p ≡ Some q → p ≡ q
some_part p q k = cc

some_batch : (a z : List Change) → Some a ≡ Some z → a ≡ z
some_batch a z h = cc

-- ---- no row but the tick touches the leader's ballot
abbrev Stays : Volatile → PartStep → Type 0
Stays v x = x.volatile.leader ≡ v.leader

either : (v : Volatile) (b : Bool) (x y : PartStep) → Stays v x → Stays v y → Stays v (cond b x y)
either v b x y k l = cond_both b x y (Stays v) (λ _. k) (λ _. l)

verdict_stays : (me : ℕ) (p : Part) (v : Volatile) (x : Verdict) → Stays v (by_verdict me p v x)
verdict_stays me p v verdict.Nobody = refl
verdict_stays me p v (verdict.Raised b) = refl
verdict_stays me p v (verdict.Elected n) = either v (eqb n.pid me) _ _ (either v (is_below p.promised n) _ _ refl refl) refl

synced_stays : (p : Part) (v : Volatile) (q : ℕ) (n : Ballot) (start : ℕ) (held : Held) (o : Option (List Entry)) → Stays v (synced_once p v q n start held o)
synced_stays p v q n start held None = refl
synced_stays p v q n start held (Some es) = refl

sync_part_stays : (p : Part) (v : Volatile) (q : ℕ) (n : Ballot) (part : SyncRun) → Stays v (on_accept_sync_part p v q n part)
sync_part_stays p v q n part =
    either v (is_same_ballot p.promised n && is_below p.accepted n) _ _
    (either v ((leb p.decided part.start && leb part.start (len_of p)) && (leb part.start part.at && is_run_to part.end part.at part.run)) _ _ (synced_stays p v q n part.start _ _) refl)
    (either v (is_same_ballot p.promised n && (is_same_ballot p.accepted n && is_run_to part.end part.at part.run)) _ _ refl refl)

piece_stays : (o : Option Joining) (v : Volatile) (c : ℕ) (x : Piece) → Stays v (on_base_piece o v c x)
piece_stays None v c x = refl
piece_stays (Some j) v c x = either v (takes_piece j c x) _ _ refl refl

news_stays : (v : Volatile) (batch : List Change) → Stays v (storing_news v batch)
news_stays v batch = cond_both (begins_joining batch) _ _ (λ (w : Volatile). Stays v (storing w batch)) (λ _. refl) (λ _. refl)

body_stays : (me : ℕ) (p : Part) (v : Volatile) (q : ℕ) (b : Body) → Stays v (on_body me p v q b)
body_stays me p v q (body.HeartbeatRequest r) = refl
body_stays me p v q (body.HeartbeatReply r b f) = refl
body_stays me p v q (body.Prepare n na nl nd) = refl
body_stays me p v q (body.Promise n fa fl fd s es) = refl
body_stays me p v q (body.AcceptSync n x es) = refl
body_stays me p v q (body.PromisePart n part) = refl
body_stays me p v q (body.AcceptSyncPart n part) = sync_part_stays p v q n part
body_stays me p v q (body.BasePiece x) = refl
body_stays me p v q (body.Accept n a es) = refl
body_stays me p v q (body.Accepted n x) = refl
body_stays me p v q (body.Decide n x) = refl
body_stays me p v q body.PrepareReq = refl
body_stays me p v q (body.Refuse n b) = refl
body_stays me p v q (body.Forward e) = refl
body_stays me p v q (body.Forwards es) = refl
body_stays me p v q (body.TrimAsk n) = refl
body_stays me p v q (body.Progress n x) = refl
body_stays me p v q (body.Trim x) = refl
body_stays me p v q (body.NextConf members olds len trimmed) = refl
body_stays me p v q body.AskBase = refl
body_stays me p v q (body.BasePart at bytes) = refl
body_stays me p v q (body.AskSegment from to) = refl
body_stays me p v q (body.Segment at es) = refl
body_stays me p v q (body.Confirm n r) = refl
body_stays me p v q (body.Confirmed n r) = refl
body_stays me p v q (body.Watch w) = refl

message_stays : (me : ℕ) (o : Option Part) (v : Volatile) (q : ℕ) (m : Msg) → Stays v (message_at me o v q m)
message_stays me None v q m = refl
message_stays me (Some p) v q m = either v (eqb m.conf p.conf && is_admitted_body p m.body) _ _ (body_stays me p v q m.body) refl

latest_stays : (me : ℕ) (d : Durable) (v : Volatile) (q c : ℕ) (b : Body) → Stays v (on_latest me d v q c b)
latest_stays me d v q c (body.NextConf members olds len trimmed) = either v (is_member nat_eq members me && nat_lt (latest_of d) c) _ _ (news_stays v (joins d.joining q c members olds len trimmed)) refl
latest_stays me d v q c body.AskBase = refl
latest_stays me d v q c (body.AskSegment from to) = refl
latest_stays me d v q c (body.HeartbeatRequest r) = message_stays me d.part v q _
latest_stays me d v q c (body.HeartbeatReply r z g) = message_stays me d.part v q _
latest_stays me d v q c (body.Prepare z na nl nd) = message_stays me d.part v q _
latest_stays me d v q c (body.Promise z fa fl fd a es) = message_stays me d.part v q _
latest_stays me d v q c (body.AcceptSync z g es) = message_stays me d.part v q _
latest_stays me d v q c (body.PromisePart z part) = message_stays me d.part v q _
latest_stays me d v q c (body.AcceptSyncPart z part) = message_stays me d.part v q _
latest_stays me d v q c (body.BasePiece x) = piece_stays d.joining v c x
latest_stays me d v q c (body.Accept z a es) = message_stays me d.part v q _
latest_stays me d v q c (body.Accepted z g) = message_stays me d.part v q _
latest_stays me d v q c (body.Decide z g) = message_stays me d.part v q _
latest_stays me d v q c body.PrepareReq = message_stays me d.part v q _
latest_stays me d v q c (body.Refuse z g) = message_stays me d.part v q _
latest_stays me d v q c (body.Forward g) = message_stays me d.part v q _
latest_stays me d v q c (body.Forwards g) = message_stays me d.part v q _
latest_stays me d v q c (body.TrimAsk z) = message_stays me d.part v q _
latest_stays me d v q c (body.Progress z g) = message_stays me d.part v q _
latest_stays me d v q c (body.Trim g) = message_stays me d.part v q _
latest_stays me d v q c (body.BasePart at bytes) = message_stays me d.part v q _
latest_stays me d v q c (body.Segment at es) = message_stays me d.part v q _
latest_stays me d v q c (body.Confirm z r) = message_stays me d.part v q _
latest_stays me d v q c (body.Confirmed z r) = message_stays me d.part v q _
latest_stays me d v q c (body.Watch w) = message_stays me d.part v q _

delivery_stays : (me : ℕ) (d : Durable) (v : Volatile) (q : ℕ) (m : Msg) → Stays v (message_step me d v q m)
delivery_stays me d v q m =
    either v (is_watching m.body) _ _ refl
    (either v (is_some d.joining && not (is_of_joining m.body)) _ _ refl
    (either v (ltb m.conf (latest_of d)) _ _ refl
    (either v (ltb (latest_of d) m.conf && not (may_be_above m.body)) _ _ refl (latest_stays me d v q m.conf m.body))))

proposal_stays : (me : ℕ) (o : Option Part) (v : Volatile) (es : List Entry) (r : Option Refusal) → Stays v (proposal_at me o v es r)
proposal_stays me o v es (Some r) = refl
proposal_stays me None v es None = refl
proposal_stays me (Some p) v es None = refl

trim_stays : (me : ℕ) (o : Option Part) (v : Volatile) → Stays v (trim_at me o v)
trim_stays me None v = refl
trim_stays me (Some p) v = refl

up_stays : (me : ℕ) (d : Durable) (o : Option Part) (j : Option Joining) (v : Volatile) (q : ℕ) → Stays v (up_at me d o j v q)
up_stays me d None None v q = refl
up_stays me d None (Some j) v q = refl
up_stays me d (Some p) (Some j) v q = refl
up_stays me d (Some p) None v q = refl

-- ---- the end of a round

-- the end of a round leaves the leader's ballot, or elects one above it
EndOk : ℕ → Candidate → Ended → Type 0
EndOk conf c e = ((e.after.leader ≡ c.leader) × (elected_of conf e.verdict ≡ None)) ⊎ ((is_below c.leader e.after.leader ≡ true) × (elected_of conf e.verdict ≡ Some (conf, e.after.leader)))

end_ok : (conf : ℕ) (c : Candidate) (heard : List Heard) → EndOk conf c (round_end c heard)
unfolding EndOk
end_ok conf c heard =
    cond_both (hears_majority c heard) (decided_by c (winner c heard)) _ (EndOk conf c)
    (λ _. cond_both (is_below (winner c heard) (least c)) (too_low c) _ (EndOk conf c)
    (λ _. cond_both (ltb (least c).number greatest_number) _ _ (EndOk conf c) (λ _. inl (refl, refl)) (λ _. inl (refl, refl)))
    (λ _. cond_both (is_below c.leader (winner c heard)) _ _ (EndOk conf c) (λ h. inr (h, refl)) (λ _. inl (refl, refl))))
    (λ _. inl (refl, refl))

-- what a step leaves of the leader's ballot, and whom it elects
unfoldable pub StepOk : Ballot → Ballot → Option (ℕ × Ballot) → Type 0
StepOk old new elected = ((new ≡ old) × (elected ≡ None)) ⊎ ((is_below old new ≡ true) × (conf : ℕ) × (elected ≡ Some (conf, new)))

-- whom an input elects
unfoldable pub elected_step : ℕ → Volatile → Durable → Input → Option (ℕ × Ballot)
elected_step me v d input.Tick = elected_by me v d.part d.joining
elected_step me v d _ = None

tick_ok : (me : ℕ) (v : Volatile) (o : Option Part) (j : Option Joining) → StepOk v.leader (tick_at me o j v).volatile.leader (elected_by me v o j)
unfolding StepOk EndOk
tick_ok me v None None = inl (refl, refl)
tick_ok me v None (Some j) = inl (refl, refl)
tick_ok me v (Some p) (Some j) = inl (refl, refl)
tick_ok me v (Some p) None =
    let e : Ended = round_end (candidate_of me p v) v.heard in
    subst (λ (b : Ballot). StepOk v.leader b (elected_by me v (Some p) None)) (sym (verdict_stays me p (begun_at me p v) e.verdict))
    (Rattle.std.proofs.Common.⊎_elim (λ (k : (e.after.leader ≡ v.leader) × (elected_of p.conf e.verdict ≡ None)). let r : StepOk v.leader e.after.leader (elected_of p.conf e.verdict) = inl k in r)
    (λ (k : (is_below v.leader e.after.leader ≡ true) × (elected_of p.conf e.verdict ≡ Some (p.conf, e.after.leader))). let r : StepOk v.leader e.after.leader (elected_of p.conf e.verdict) = inr (k.0, p.conf, k.1) in r)
    (end_ok p.conf (candidate_of me p v) v.heard))

-- what is elected is above the leader's ballot
pub tick_above : (me : ℕ) (v : Volatile) (o : Option Part) (j : Option Joining) (c : ℕ) (b : Ballot) → elected_by me v o j ≡ Some (c, b) → is_below v.leader b ≡ true
unfolding StepOk
tick_above me v o j c b e = by (tick_ok me v o j)
  where
    by : ((((tick_at me o j v).volatile.leader ≡ v.leader) × (elected_by me v o j ≡ None)) ⊎ ((is_below v.leader (tick_at me o j v).volatile.leader ≡ true) × (conf : ℕ) × (elected_by me v o j ≡ Some (conf, (tick_at me o j v).volatile.leader)))) → is_below v.leader b ≡ true
    by (inl s) = absurd (none_some (c, b) (sym s.1 ∙ e))
    by (inr s) = subst (λ (x : Ballot). is_below v.leader x ≡ true) (ap (λ (z : ℕ × Ballot). z.1) (some_pair (s.1, (tick_at me o j v).volatile.leader) (c, b) (sym s.2 ∙ e))) s.0

row_ok : (me : ℕ) (v : Volatile) (d : Durable) (x : Input) → StepOk v.leader (step_at me d v x).volatile.leader (elected_step me v d x)
unfolding StepOk elected_step
row_ok me v d input.Tick = tick_ok me v d.part d.joining
row_ok me v d (input.Deliver q m) = inl (delivery_stays me d v q m, refl)
row_ok me v d (input.Commands cs) = inl (proposal_stays me d.part v (entries_of cs) (refusal_of me v.role d (entries_of cs)), refl)
row_ok me v d (input.Stop members) =
    inl (proposal_stays me d.part v (entry.Stop (stop_for d.part members) ∷ []) (refusal_of me v.role d (entry.Stop (stop_for d.part members) ∷ [])), refl)
row_ok me v d input.TrimNow = inl (trim_stays me d.part v, refl)
row_ok me v d (input.Read r) = inl (refl, refl)
row_ok me v d (input.Up q) = inl (up_stays me d d.part d.joining v q, refl)
row_ok me v d (input.Down q) = inl (refl, refl)

-- ---- a whole step

-- what a node joins is above all that it knows
abbrev pub JoiningIsAbove : Durable → Type 0
JoiningIsAbove d = (j : Joining) → d.joining ≡ Some j → latest_of d < j.conf

-- the part stays, and its promise doesn't fall; where there is none, none comes
abbrev pub IfKept : Option Part → Option Part → Type 0
IfKept None o = o ≡ None
IfKept (Some p) o = (q : Part) × (o ≡ Some q) × (q.conf ≡ p.conf) × Rises p.promised q.promised

-- a step inside a configuration
pub record StaysIn (me : ℕ) (s : State) (x : Input) (pl : Planned) : Type 0 where
  pub leader : StepOk s.volatile.leader pl.volatile.leader (elected_step me s.volatile s.durable x)
  pub part : IfKept s.durable.part (durable_after s.durable pl.batch).part
  pub closed : (durable_after s.durable pl.batch).closed ≡ s.durable.closed
  pub members : (p q : Part) → s.durable.part ≡ Some p → (durable_after s.durable pl.batch).part ≡ Some q → q.members ≡ p.members
  -- what the row promises is promised
  pub promised : brought_by s.durable s.volatile x ≡ None → (p : Part) → s.durable.part ≡ Some p
      → (q : Part) × ((durable_after s.durable pl.batch).part ≡ Some q) × (q.promised ≡ (part_after p (step_at me s.durable s.volatile x).batch).promised)

-- a step to a later configuration, in which the node is idle at first
abbrev pub GoesOn : State → Planned → Type 0
GoesOn s pl = (latest_of s.durable < latest_of (durable_after s.durable pl.batch)) × (pl.volatile.role ≡ Idle)

abbrev pub Moves : ℕ → State → Input → Planned → Type 0
Moves me s x pl = GoesOn s pl ⊎ StaysIn me s x pl

module _ (me : ℕ) (s : State) (x : Input) (above : JoiningIsAbove s.durable) where
  abbrev d : Durable
  d = s.durable

  abbrev row : PartStep
  row = step_at me d s.volatile x

  inside : All IsInside row.batch
  inside = (step_inside me d s.volatile x).changes

  -- a node without a part
  partless : d.part ≡ None → (w : Waiting) → StaysIn me s x (plan_of me s w row)
  partless e w =
      let batch_is : (plan_of me s w row).batch ≡ row.batch =
      ap (λ (o : Option Part). (closing me o (planned s w row)).batch) e ∙ ap (λ (o : Option Part). Rattle.op_protocol.specs.Rows.based_batch o row.batch) e in
      let volatile_is : (plan_of me s w row).volatile ≡ row.volatile = ap (λ (o : Option Part). (closing me o (planned s w row)).volatile) e in
      record {
        leader = subst (λ (v : Volatile). StepOk s.volatile.leader v.leader (elected_step me s.volatile d x)) (sym volatile_is) (row_ok me s.volatile d x);
        part = subst (λ (o : Option Part). IfKept o (durable_after d (plan_of me s w row).batch).part) (sym e) (ap (λ (b : List Change). (durable_after d b).part) batch_is ∙ inside_none d row.batch inside e);
        closed = ap (λ (b : List Change). (durable_after d b).closed) batch_is ∙ inside_closed d row.batch inside;
        members = λ p q h i. absurd (none_some p (sym e ∙ h));
        promised = λ n p h. absurd (none_some p (sym e ∙ h));
      }

  -- one with a part, which it may close
  module _ (p : Part) (e : d.part ≡ Some p) (w : Waiting) where
    abbrev plan : Planned
    plan = planned s w row

    abbrev batch : List Change
    batch = map (based p) row.batch

    batch_is : plan.batch ≡ batch
    batch_is = ap (λ (o : Option Part). Rattle.op_protocol.specs.Rows.based_batch o row.batch) e

    abbrev q : Part
    q = part_after p batch

    pub part_is : (durable_after d plan.batch).part ≡ Some q
    part_is = ap (λ (b : List Change). (durable_after d b).part) batch_is ∙ inside_after d p batch (inside_all_based p row.batch inside) e

    closed_is : (durable_after d plan.batch).closed ≡ d.closed
    closed_is = ap (λ (b : List Change). (durable_after d b).closed) batch_is ∙ inside_closed d batch (inside_all_based p row.batch inside)

    promised_is : Rises p.promised q.promised
    promised_is =
        subst (λ (b : Ballot). Rises p.promised b) (sym (ap (λ (y : Part). y.promised) (based_after p p p.base row.batch).1))
        (above_after p.promised p row.batch (step_above me d s.volatile x p e).changes (inl refl))

    unfoldable pub ends : Bool
    ends = is_some (stop_at_end (decided_since p (part_after p plan.batch)))

    pub plan_is : plan_of me s w row ≡ cond ends (closing_part me (part_after p plan.batch) plan) plan
    unfolding ends
    plan_is = ap (λ (o : Option Part). closing me o plan) e

    pub keeps : StaysIn me s x plan
    keeps = record {
      leader = row_ok me s.volatile d x;
      part = subst (λ (o : Option Part). IfKept o (durable_after d plan.batch).part) (sym e) (q, part_is, conf_after p batch, promised_is);
      closed = closed_is;
      members = λ r y h i. ap (λ (z : Part). z.members) (some_part y q (sym i ∙ part_is)) ∙ members_after p batch ∙ ap (λ (z : Part). z.members) (some_part p r (sym e ∙ h));
      promised = λ n r h. (q, part_is, ap (λ (y : Part). y.promised) (based_after p p p.base row.batch).1 ∙ ap (λ (y : Part). (part_after y row.batch).promised) (some_part p r (sym e ∙ h)));
    }

    latest_named : (named : Bool) (l : Closed) (base : List ℕ) → latest_in (part_after_closed l named base) (Some l) ≡ l.conf + 1
    latest_named true l base = refl
    latest_named false l base = refl

    pub leaves : latest_of d < latest_of (durable_after d (closing_part me (part_after p plan.batch) plan).batch)
    leaves =
        let named : Bool = is_member nat_eq (closed_by (part_after p plan.batch)).next me in
        let close : Change = change.Close named (base_bytes plan.service) in
        let d1 : Durable = durable_after d plan.batch in
        let after : latest_of (durable_after d (plan.batch ++ close ∷ [])) ≡ q.conf + 1 =
        ap latest_of (after_both d plan.batch (close ∷ [])) ∙ ap (λ (o : Option Part). latest_of (durable_closing o d1 named (base_bytes plan.service))) part_is ∙ latest_named named (closed_by q) (base_bytes plan.service) in
        omega (arith, after, conf_after p batch, ap (λ (o : Option Part). latest_in o d.closed) e)

    with_part : Moves me s x (plan_of me s w row)
    with_part =
        Rattle.std.proofs.Common.⊎_elim
        (λ (h : ends ≡ true). inl (subst (λ (y : Planned). GoesOn s y) (sym (plan_is ∙ cond-true ends (closing_part me (part_after p plan.batch) plan) plan h)) (leaves, refl)))
        (λ (h : ends ≡ false). inr (subst (StaysIn me s x) (sym (plan_is ∙ cond-false ends (closing_part me (part_after p plan.batch) plan) plan h)) keeps))
        (cases_Bool ends)

  row_moves : (w : Waiting) → Moves me s x (plan_of me s w row)
  row_moves w = by d.part refl
    where
      by : (o : Option Part) → d.part ≡ o → Moves me s x (plan_of me s w row)
      by None e = inr (partless e w)
      by (Some p) e = with_part p e w

  -- ---- what is brought of a closed list

  -- changes of what is held alone
  record HoldsMore (batch : List Change) : Type 0 where
    part : (durable_after d batch).part ≡ d.part
    closed : (durable_after d batch).closed ≡ d.closed
    joining : (j : Joining) → d.joining ≡ Some j → (k : Joining) × ((durable_after d batch).joining ≡ Some k) × (k.conf ≡ j.conf)

  kept_same : (o : Option Part) → IfKept o o
  kept_same None = refl
  kept_same (Some p) = (p, refl, refl, inl refl)

  -- nothing of the part changes
  module _ (is_tick : elected_step me s.volatile d x ≡ None) (brings : brought_by d s.volatile x ≡ None → ⊥) where
    rests : (batch : List Change) → HoldsMore batch → StaysIn me s x (Rattle.op_protocol.specs.Joining.only_stores s batch)
    unfolding StepOk
    rests batch k = record {
      leader = inl (refl, is_tick);
      part = subst (IfKept d.part) (sym k.part) (kept_same d.part);
      closed = k.closed;
      members = λ p q h i. ap (λ (z : Part). z.members) (some_part q p (sym i ∙ k.part ∙ h));
      promised = λ n p h. absurd (brings n);
    }

    -- no piece of a base stays beside a base
    rests_beside : (batch : List Change) → HoldsMore batch → (b : Option Base) → StaysIn me s x (stores_beside s batch b)
    unfolding StepOk
    rests_beside batch k None = rests batch k
    rests_beside batch k (Some b) =
        let r = rests batch k in
        record { leader = inl (refl, is_tick); part = r.part; closed = r.closed; members = r.members; promised = r.promised }

    goes : (batch : List Change) → HoldsMore batch → (j : Joining) → d.joining ≡ Some j → (k : Joining) → (durable_after d batch).joining ≡ Some k → k.conf ≡ j.conf
        → (b : Option Base) → k.base ≡ b → (es : Option (List Entry)) → cover_of k ≡ es → Moves me s x (goes_on_if me s k batch b es)
    goes batch h j e k has same None hb es hc = inr (rests batch h)
    goes batch h j e k has same (Some b) hb None hc = inr (rests_beside batch h (Some b))
    goes batch h j e k has same (Some b) hb (Some es) hc =
        let t = Rattle.op_protocol.specs.Joining.joined_service b es in
        let done : Change = change.JoinDone (base_bytes t) in
        let d1 : Durable = durable_after d batch in
        let after : latest_of (durable_after d (batch ++ done ∷ [])) ≡ k.conf =
        ap latest_of (after_both d batch (done ∷ []))
        ∙ ap (λ (o : Option Joining). latest_of (Rattle.op_types.specs.Changes.durable_joining o d1 (base_bytes t))) has
        ∙ ap (λ (o : Option Base). latest_of (durable_joined k (base_bytes t) o (cover_of k) d1)) hb
        ∙ ap (λ (o : Option (List Entry)). latest_of (durable_joined k (base_bytes t) (Some b) o d1)) hc in
        inl (omega (arith, after, same, above j e), refl)

    held_moves : (batch : List Change) → HoldsMore batch → (j : Joining) → d.joining ≡ Some j → Moves me s x (holds_more me s batch)
    held_moves batch h j e =
        let k = h.joining j e in
        subst (λ (o : Option Joining). Moves me s x (holding me s batch o)) (sym k.1) (goes batch h j e k.0 k.1 k.2 (k.0).base refl (cover_of k.0) refl)

  -- what is brought is held
  base_more : (j : Joining) (c at : ℕ) (bytes : List ℕ) (batch : List Change) → base_brought j c at bytes ≡ Some batch → HoldsMore batch
  base_more j c at bytes batch k = by (takes_base j c at bytes) k
    where
      by : (t : Bool) → cond t (Some (change.JoinBase at bytes ∷ [])) None ≡ Some batch → HoldsMore batch
      by true k = subst HoldsMore (some_batch _ batch k) (record {
        part = refl;
        closed = refl;
        joining = λ i f. (_, ap (λ (o : Option Joining). Rattle.op_types.specs.Changes.joining_option_with o (change.JoinBase at bytes)) f, refl);
      })
      by false k = absurd (none_some batch k)

  once_more : (j : Joining) (c at : ℕ) (o : Option (List ℕ)) (batch : List Change) → base_once j c at o ≡ Some batch → HoldsMore batch
  once_more j c at None batch k = absurd (none_some batch k)
  once_more j c at (Some bytes) batch k = base_more j c at bytes batch k

  brought_more : (j : Joining) → d.joining ≡ Some j → (c : ℕ) (b : Body) (batch : List Change) → brought_to (Some j) s.volatile.pieces c b ≡ Some batch → HoldsMore batch
  brought_more j e c (body.BasePart at bytes) batch k = base_more j c at bytes batch k
  brought_more j e c (body.BasePiece y) batch k = by (takes_piece j c y) k
    where
      by : (t : Bool) → cond t (base_once j c y.at (whole_bytes (with_piece s.volatile.pieces y).bytes)) None ≡ Some batch → HoldsMore batch
      by true k = once_more j c y.at (whole_bytes (with_piece s.volatile.pieces y).bytes) batch k
      by false k = absurd (none_some batch k)
  brought_more j e c (body.Segment at es) batch k = by (takes_entries j c at es) k
    where
      segment : HoldsMore (new_entries j at es)
      segment = cond_both (is_some (Rattle.op_types.specs.Joinings.held_run j.held.items at (Rattle.std.proofs.Common.length es))) [] (change.JoinPart at es ∷ []) HoldsMore
          (λ _. record { part = refl; closed = refl; joining = λ i f. (i, f, refl) })
          (λ _. record { part = refl; closed = refl; joining = λ i f. (_, ap (λ (o : Option Joining). Rattle.op_types.specs.Changes.joining_option_with o (change.JoinPart at es)) f, refl) })

      by : (t : Bool) → cond t (Some (new_entries j at es)) None ≡ Some batch → HoldsMore batch
      by true k = subst HoldsMore (some_batch (new_entries j at es) batch k) segment
      by false k = absurd (none_some batch k)
  brought_more j e c (body.HeartbeatRequest r) batch k = absurd (none_some batch k)
  brought_more j e c (body.HeartbeatReply r z g) batch k = absurd (none_some batch k)
  brought_more j e c (body.Prepare z na nl nd) batch k = absurd (none_some batch k)
  brought_more j e c (body.Promise z fa fl fd a es) batch k = absurd (none_some batch k)
  brought_more j e c (body.AcceptSync z g es) batch k = absurd (none_some batch k)
  brought_more j e c (body.PromisePart z part) batch k = absurd (none_some batch k)
  brought_more j e c (body.AcceptSyncPart z part) batch k = absurd (none_some batch k)
  brought_more j e c (body.Accept z a es) batch k = absurd (none_some batch k)
  brought_more j e c (body.Accepted z g) batch k = absurd (none_some batch k)
  brought_more j e c (body.Decide z g) batch k = absurd (none_some batch k)
  brought_more j e c body.PrepareReq batch k = absurd (none_some batch k)
  brought_more j e c (body.Refuse z g) batch k = absurd (none_some batch k)
  brought_more j e c (body.Forward g) batch k = absurd (none_some batch k)
  brought_more j e c (body.Forwards g) batch k = absurd (none_some batch k)
  brought_more j e c (body.TrimAsk z) batch k = absurd (none_some batch k)
  brought_more j e c (body.Progress z g) batch k = absurd (none_some batch k)
  brought_more j e c (body.Trim g) batch k = absurd (none_some batch k)
  brought_more j e c (body.Confirm z r) batch k = absurd (none_some batch k)
  brought_more j e c (body.Confirmed z r) batch k = absurd (none_some batch k)
  brought_more j e c (body.Watch w) batch k = absurd (none_some batch k)
  brought_more j e c (body.NextConf members olds len trimmed) batch k = absurd (none_some batch k)
  brought_more j e c body.AskBase batch k = absurd (none_some batch k)
  brought_more j e c (body.AskSegment from to) batch k = absurd (none_some batch k)

  brought_joining : (o : Option Joining) (c : ℕ) (b : Body) (batch : List Change) → brought_to o s.volatile.pieces c b ≡ Some batch → (j : Joining) × (o ≡ Some j)
  brought_joining None c b batch k = absurd (none_some batch (sym (nothing_to c b) ∙ k))
    where
      nothing_to : (c : ℕ) (b : Body) → brought_to None s.volatile.pieces c b ≡ None
      nothing_to c (body.BasePart at bytes) = refl
      nothing_to c (body.BasePiece y) = refl
      nothing_to c (body.Segment at es) = refl
      nothing_to c (body.Watch w) = refl
      nothing_to c (body.HeartbeatRequest r) = refl
      nothing_to c (body.HeartbeatReply r z g) = refl
      nothing_to c (body.Prepare z na nl nd) = refl
      nothing_to c (body.Promise z fa fl fd a es) = refl
      nothing_to c (body.AcceptSync z g es) = refl
      nothing_to c (body.PromisePart z part) = refl
      nothing_to c (body.AcceptSyncPart z part) = refl
      nothing_to c (body.Accept z a es) = refl
      nothing_to c (body.Accepted z g) = refl
      nothing_to c (body.Decide z g) = refl
      nothing_to c body.PrepareReq = refl
      nothing_to c (body.Refuse z g) = refl
      nothing_to c (body.Forward g) = refl
      nothing_to c (body.Forwards g) = refl
      nothing_to c (body.TrimAsk z) = refl
      nothing_to c (body.Progress z g) = refl
      nothing_to c (body.Trim g) = refl
      nothing_to c (body.Confirm z r) = refl
      nothing_to c (body.Confirmed z r) = refl
      nothing_to c (body.NextConf members olds len trimmed) = refl
      nothing_to c body.AskBase = refl
      nothing_to c (body.AskSegment from to) = refl
  brought_joining (Some j) c b batch k = (j, refl)

  -- only a delivery brings something
  brought_is : (y : Input) (batch : List Change) → brought_by d s.volatile y ≡ Some batch → (elected_step me s.volatile d y ≡ None) × ((c : ℕ) × (b : Body) × (brought_to d.joining s.volatile.pieces c b ≡ Some batch))
  unfolding elected_step
  brought_is (input.Deliver q m) batch k = (refl, (m.conf, m.body, by (ltb m.conf (latest_of d)) k))
    where
      by : (t : Bool) → cond t None (brought_to d.joining s.volatile.pieces m.conf m.body) ≡ Some batch → brought_to d.joining s.volatile.pieces m.conf m.body ≡ Some batch
      by true k = absurd (none_some batch k)
      by false k = k
  brought_is input.Tick batch k = absurd (none_some batch k)
  brought_is (input.Commands cs) batch k = absurd (none_some batch k)
  brought_is (input.Stop members) batch k = absurd (none_some batch k)
  brought_is input.TrimNow batch k = absurd (none_some batch k)
  brought_is (input.Read r) batch k = absurd (none_some batch k)
  brought_is (input.Up q) batch k = absurd (none_some batch k)
  brought_is (input.Down q) batch k = absurd (none_some batch k)

  bringing_moves : (o : Option (List Change)) → brought_by d s.volatile x ≡ o → Moves me s x (step_bringing me s x o)
  bringing_moves None k = row_moves (waiting_at me s x)
  bringing_moves (Some batch) k =
      let b = brought_is x batch k in
      let j = brought_joining d.joining (b.1).0 (b.1).1 batch (b.1).2 in
      held_moves b.0 (λ n. none_some batch (sym n ∙ k)) batch (brought_more j.0 j.1 (b.1).0 (b.1).1 batch (subst (λ (o : Option Joining). brought_to o s.volatile.pieces (b.1).0 (b.1).1 ≡ Some batch) j.1 (b.1).2)) j.0 j.1

  -- what comes of reads touches nothing of this
  reading_moves : Moves me s x (table_plan me s x) → Moves me s x (step_plan me s x)
  reading_moves (inl r) = inl r
  reading_moves (inr k) = inr (record { leader = k.leader; part = k.part; closed = k.closed; members = k.members; promised = k.promised })

  -- each step
  pub step_moves : Moves me s x (step_plan me s x)
  step_moves = reading_moves (bringing_moves (brought_by d s.volatile x) refl)

-- a step inside a configuration leaves the latest one
pub latest_same : (me : ℕ) (s : State) (x : Input) (pl : Planned) → StaysIn me s x pl → latest_of (durable_after s.durable pl.batch) ≡ latest_of s.durable
latest_same me s x pl k = by s.durable.part refl k.part ∙ ap (λ (o : Option Closed). latest_in s.durable.part o) k.closed
  where
    by : (o : Option Part) → s.durable.part ≡ o → IfKept o (durable_after s.durable pl.batch).part → latest_in (durable_after s.durable pl.batch).part (durable_after s.durable pl.batch).closed ≡ latest_in s.durable.part (durable_after s.durable pl.batch).closed
    by None e h = ap (λ (o : Option Part). latest_in o (durable_after s.durable pl.batch).closed) (h ∙ sym e)
    by (Some p) e h =
        ap (λ (o : Option Part). latest_in o (durable_after s.durable pl.batch).closed) h.1 ∙ h.2 ∙ ap (λ (o : Option Part). latest_in o (durable_after s.durable pl.batch).closed) (sym e)
