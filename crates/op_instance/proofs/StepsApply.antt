-- The batch of each step applies, and leaves a sound node.
use Rattle.std.proofs.Common.{◌≡◌, ℕ, ◌+◌, ◌-◌, ◌^◌, ◌<◌, ◌≤◌, Bool, true, false, cond, not, ◌&&◌, ◌==◌, List, [], ◌∷◌, length, All, Option, Some, None, is_some, refl, sym, subst, arith}
use Rattle.std.proofs.lemmas.Bool.{ltb-true, leb-true, eq-eqb, and_parts, both_ways, not-true, cond_both}
use Rattle.std.proofs.lemmas.List.Elements.{All-nil, All-cons, All-head}
use Rattle.std.specs.Set.{is_member}
use Rattle.std.specs.Prelude.{nat_lt, nat_le, nat_eq}
use Rattle.op_types.specs.Limits.{positions_end, last_conf, most_donors}
use Rattle.op_types.specs.Ballots.{is_below, is_same_ballot}
use Rattle.op_types.specs.Changes.{len_of, IsCommand, Applies, durable_after}
use Rattle.op_types.specs.Joinings.{donor_at}
use Rattle.op_types.specs.Ranges.{IsMember}
use Rattle.op_types.specs.Roles.{Role, Idle, Preparing, Leading}
use Rattle.op_types.specs.declared.answers.Outcome.TheVariants as outcome
use Rattle.op_types.specs.declared.answers.Refusal.{Refusal}
use Rattle.op_types.specs.declared.answers.Refusal.TheVariants as refusal
use Rattle.op_types.specs.declared.ballot.Ballot.{Ballot}
use Rattle.op_types.specs.declared.changes.Change.{Change}
use Rattle.op_types.specs.declared.changes.Change.TheVariants as change
use Rattle.op_types.specs.declared.durable.Closed.{Closed}
use Rattle.op_types.specs.declared.durable.Joining.{Joining}
use Rattle.op_types.specs.declared.durable.Durable.{Durable}
use Rattle.op_types.specs.declared.durable.Part.{Part}
use Rattle.op_types.specs.declared.events.Input.{Input}
use Rattle.op_types.specs.declared.events.Input.TheVariants as input
use Rattle.op_types.specs.declared.log.Entry.{Entry}
use Rattle.op_types.specs.declared.log.Entry.TheVariants as entry
use Rattle.op_types.specs.declared.messages.Body.{Body}
use Rattle.op_types.specs.declared.messages.Body.TheVariants as body
use Rattle.op_types.specs.declared.messages.Msg.{Msg}
use Rattle.op_types.specs.declared.verdict.Verdict.{Verdict}
use Rattle.op_types.specs.declared.verdict.Verdict.TheVariants as verdict
use Rattle.op_spec.specs.Machine.{stop_of}
use Rattle.op_types.specs.Effects.{Effects}
use Rattle.op_types.specs.Joinings.{Held, held_with, held_run}
use Rattle.op_types.specs.Stages.{Pieces, front_from, staged_from, with_piece, whole_bytes}
use Rattle.op_types.specs.declared.runs.Piece.{Piece}
use Rattle.op_types.specs.declared.runs.SyncRun.{SyncRun}
use Rattle.op_protocol.specs.State.{Volatile, PartStep, raises_promise, staged_after, with_effects}
use Rattle.op_protocol.specs.Parts.{IsOfPart, is_run_to, has_stop, is_admitted, is_admitted_body, pending, part_after, message, others, nothing, saying, first}
use Rattle.op_protocol.specs.Leader.{lead, propose, session_down, on_promise, on_promise_part, on_accepted, on_prepare_req, on_forward}
use Rattle.op_protocol.specs.Follower.{on_prepare, on_accept, sync_entries, on_accept_sync, unstaged, synced_once, on_first_part, accept_front, appended_staged, on_later_part, on_accept_sync_part, on_decide}
use Rattle.op_protocol.specs.Reading.{on_confirm}
use Rattle.op_protocol.specs.Trimming.{trim_now, on_progress, on_trim_ask, on_trim}
use Rattle.op_protocol.specs.Tick.{requests, remembering, only_asks, elected, by_verdict, asks_heard, also_sending, on_tick, on_heartbeat_request, on_heartbeat_reply, on_refuse}
use Rattle.op_protocol.proofs.TickCases.{ended_at, begun_at, tick_cases}
use Rattle.op_protocol.specs.Configurations.{latest_of}
use Rattle.op_protocol.specs.Joining.{storing, begins, is_new_donor, joins, begins_joining, storing_news, on_next_conf, asks, gives_base, gives_segment, takes_piece, pieces_once, on_base_piece}
use Rattle.op_protocol.specs.Watched.{is_watching, watch_answers}
use Rattle.op_protocol.specs.Rows.{on_body, on_message, message_at, is_of_joining, may_be_above, on_older, on_newer, on_latest, member_step, message_step, knows_no_leader, entries_of, open_refusal, part_refusal, refusal_after, refusal_of, stop_for, answering, proposal_at, proposal_step, tick_at, trim_at, session_up, up_at, step_at}
use Rattle.op_protocol.proofs.PartBatches.{part_batch, propose_of, session_down_of, session_up_of, trim_now_of, tick_of, message_of}
use Rattle.op_follower.specs.Staging.{StagedIsAdmitted}
use Rattle.op_follower.proofs.Gaps.{admitted_with, admitted_from, none_admitted, run_small, run_commands, front_small, front_commands}
use Rattle.op_instance.specs.Sound.{IsSound, IsSoundPart, IfSound, IsSoundNode, AreOfOneConf, IsSoundStep, StopsFit, StagesFit, BeginFits}
use Rattle.op_instance.proofs.Batches.{with_part, applied, fits_after, log_after, conf_after, members_after}
use Rattle.op_instance.proofs.RowsApply.{Leaves, RowLeaves, MayGo, says, prepare_leaves, accept_leaves, sync_leaves, accept_sync_leaves, front_leaves, promise_part_leaves, decide_leaves, lead_leaves, promise_leaves, accepted_leaves, prepare_req_leaves, propose_leaves, forward_leaves, session_down_leaves, trim_now_leaves, progress_leaves, trim_ask_leaves, trim_leaves, confirm_leaves}

-- the same of a step, and what is staged then may come to the log
pub record StepLeaves (p : Part) (x : PartStep) : Type 0 where
  pub row : Leaves p x.batch x.volatile.role
  pub staged : StagedIsAdmitted p.conf x.volatile.staged

staged_leaves : (conf : ℕ) (batch : List Change) (h : Held) → StagedIsAdmitted conf h → StagedIsAdmitted conf (staged_after batch h)
staged_leaves conf batch h may = by (raises_promise batch)
  where
    by : (b : Bool) → StagedIsAdmitted conf (cond b [] h)
    by true = none_admitted conf
    by false = may

by_row : (p : Part) (v : Volatile) (e : Effects) → StagedIsAdmitted p.conf v.staged → RowLeaves p e → StepLeaves p (with_effects v e)
by_row p v e may row = record { row = record { applies = row.applies; promises = row.promises; stops = row.stops; stages = row.stages }; staged = staged_leaves p.conf e.batch v.staged may }

by_step : (p : Part) (b : Bool) (x y : PartStep) → (b ≡ true → StepLeaves p x) → (b ≡ false → StepLeaves p y) → StepLeaves p (cond b x y)
by_step p true x y so other = so refl
by_step p false x y so other = other refl

-- a step that stores nothing, and keeps the role and what is staged
quiet : (p : Part) (v : Volatile) (x : PartStep) → IsSoundPart p v → x.batch ≡ [] → x.volatile.role ≡ v.role → x.volatile.staged ≡ v.staged → StepLeaves p x
quiet p v x sound none role staged =
    record {
      row = subst (λ (b : List Change). Leaves p b x.volatile.role) (sym none) (subst (λ (r : Role). Leaves p [] r) (sym role)
          (record { applies = tt; promises = sound.sound.promises; stops = sound.sound.stops; stages = sound.sound.stages }));
      staged = subst (λ (h : Held). StagedIsAdmitted p.conf h) (sym staged) sound.staged;
    }

remembers : (p : Part) (v : Volatile) (sends : List (ℕ × Msg)) → IsSoundPart p v → StepLeaves p (remembering v sends)
remembers p v sends sound = quiet p v (remembering v sends) sound refl refl refl

-- ---- entries that are admitted

is_command : (e : Entry) → is_some (stop_of e) ≡ false → IsCommand e
is_command (entry.Command c) none = tt
is_command (entry.Stop s) none = absurd (both_ways true none refl)

commands-by : (e : Entry) (es : List Entry) (b : Bool) → is_some (stop_of e) ≡ b → (has_stop es ≡ false → All IsCommand es) → cond b true (has_stop es) ≡ false → All IsCommand (e ∷ es)
commands-by e es true is rest none = absurd (both_ways true none refl)
commands-by e es false is rest none = All-cons IsCommand e es (is_command e is) (rest none)

commands : (es : List Entry) → has_stop es ≡ false → All IsCommand es
commands [] none = All-nil IsCommand
commands (e ∷ es) none = commands-by e es (is_some (stop_of e)) refl (λ rest. commands es rest) none

no_stop : (a b : Bool) → not (a && b) ≡ true → a ≡ true → b ≡ false
no_stop true true none is = sym none
no_stop true false none is = refl
no_stop false b none is = absurd (both_ways true (sym is) refl)

may_go : (p : Part) (at : ℕ) (es : List Entry) → is_admitted p at es ≡ true → MayGo p at es
may_go p at es admitted =
    let both = and_parts (nat_le (at + length es) positions_end) (not (p.conf == last_conf && has_stop es)) admitted in
    record { small = leb-true (at + length es) positions_end both.0; stops = λ last. commands es (no_stop (p.conf == last_conf) (has_stop es) both.1 (eq-eqb p.conf last_conf last)) }

-- ---- messages

-- ---- parts of accept syncs

unstaged_leaves : (p : Part) (v : Volatile) (held : Held) (e : Effects) → StagedIsAdmitted p.conf held → RowLeaves p e → StepLeaves p (unstaged p v held e)
unstaged_leaves p v held e may row =
    let h : Held = staged_from held (len_of (part_after p e.batch)) in
    by_row p (record v { staged = h }) e (admitted_from p.conf held (len_of (part_after p e.batch)) may) row

synced_leaves : (p : Part) (v : Volatile) (q start : ℕ) (n : Ballot) (held : Held) (count : ℕ) (o : Option (List Entry)) → IsSoundPart p v → start ≤ positions_end → StagedIsAdmitted p.conf held
    → held_run held start count ≡ o → StepLeaves p (synced_once p v q n start held o)
synced_leaves p v q start n held count None sound low may is = by_row p (record v { staged = held }) (nothing v.role) may (says p v.role [] sound.sound)
synced_leaves p v q start n held count (Some es) sound low may is =
    unstaged_leaves p v held (sync_entries p v.role q n start es) may
    (sync_leaves p v.role q n start es sound.sound (record {
      small = run_small held start count es may.small low is;
      stops = λ last. run_commands held start count es (may.stops last) is;
    }))

appended_leaves : (p : Part) (v : Volatile) (q : ℕ) (n : Ballot) (at : ℕ) (held : Held) → IsSoundPart p v → StagedIsAdmitted p.conf held → StepLeaves p (appended_staged p v q n at held)
appended_leaves p v q n at held sound may =
    let es : List Entry = front_from held (len_of p) in
    unstaged_leaves p v held (accept_front p v.role q n at es) may
    (front_leaves p v.role q n at es sound.sound (record {
      small = front_small held (length held) (len_of p) may.small sound.sound.positions.small;
      stops = λ last. front_commands held (length held) (len_of p) (may.stops last);
    }))

sync_part_leaves : (p : Part) (v : Volatile) (q : ℕ) (n : Ballot) (part : SyncRun) → IsSoundPart p v → MayGo p part.at part.run → StepLeaves p (on_accept_sync_part p v q n part)
sync_part_leaves p v q n part sound may =
    let held : Held = held_with v.staged part.at part.run in
    let here : StagedIsAdmitted p.conf held = admitted_with p.conf v.staged part.at part.run sound.staged may.small may.stops in
    let stays : StepLeaves p (with_effects v (nothing v.role)) = by_row p v (nothing v.role) sound.staged (says p v.role [] sound.sound) in
    by_step p (is_same_ballot p.promised n && is_below p.accepted n) (on_first_part p v q n part) (on_later_part p v q n part)
    (λ new. by_step p ((nat_le p.decided part.start && nat_le part.start (len_of p)) && (nat_le part.start part.at && is_run_to part.end part.at part.run))
    (synced_once p v q n part.start held (held_run held part.start (part.end - part.start))) (with_effects v (nothing v.role))
    (λ all. let halves = and_parts (nat_le p.decided part.start && nat_le part.start (len_of p)) (nat_le part.start part.at && is_run_to part.end part.at part.run) all in
    let both = and_parts (nat_le p.decided part.start) (nat_le part.start (len_of p)) halves.0 in
    let low : part.start ≤ len_of p = leb-true part.start (len_of p) both.1 in
    let ends : len_of p ≤ positions_end = sound.sound.positions.small in
    synced_leaves p v q part.start n held (part.end - part.start) (held_run held part.start (part.end - part.start)) sound (omega arith) here refl)
    (λ other. stays))
    (λ old. by_step p (is_same_ballot p.promised n && (is_same_ballot p.accepted n && is_run_to part.end part.at part.run)) (appended_staged p v q n part.at held) (with_effects v (nothing v.role))
    (λ taken. appended_leaves p v q n part.at held sound here) (λ other. stays))

-- ---- messages of all kinds

body_leaves : (me : ℕ) (p : Part) (v : Volatile) (q : ℕ) (b : Body) → IsSoundPart p v → is_admitted_body p b ≡ true → StepLeaves p (on_body me p v q b)
body_leaves me p v q (body.HeartbeatRequest round) sound admitted = quiet p v (on_heartbeat_request p v q round) sound refl refl refl
body_leaves me p v q (body.HeartbeatReply round b flag) sound admitted = quiet p v (on_heartbeat_reply me p v q round b flag) sound refl refl refl
body_leaves me p v q (body.Prepare n na nl nd) sound admitted = by_row p v (on_prepare p v.role q n na nl nd) sound.staged (prepare_leaves p v.role q n na nl nd sound.sound)
body_leaves me p v q (body.Promise n fa fl fd s es) sound admitted = by_row p v (on_promise me p v.role n (record { from = q; accepted = fa; len = fl; decided = fd; start = s; entries = es })) sound.staged (promise_leaves me p v.role n (record { from = q; accepted = fa; len = fl; decided = fd; start = s; entries = es }) sound.sound (may_go p s es admitted))
body_leaves me p v q (body.PromisePart n part) sound admitted = by_row p v (on_promise_part me p v.role q n part) sound.staged (promise_part_leaves me p v.role q n part sound.sound (may_go p part.at part.run admitted))
body_leaves me p v q (body.AcceptSyncPart n part) sound admitted = sync_part_leaves p v q n part sound (may_go p part.at part.run admitted)
body_leaves me p v q (body.AcceptSync n x es) sound admitted = by_row p v (on_accept_sync p v.role q n x es) sound.staged (accept_sync_leaves p v.role q n x es sound.sound (may_go p x es admitted))
body_leaves me p v q (body.Accept n at es) sound admitted = by_row p v (on_accept p v.role q n at es) sound.staged (accept_leaves p v.role q n at es sound.sound (may_go p at es admitted))
body_leaves me p v q (body.Accepted n x) sound admitted = by_row p v (on_accepted me p v.role q n x) sound.staged (accepted_leaves me p v.role q n x sound.sound)
body_leaves me p v q (body.Decide n x) sound admitted = by_row p v (on_decide p v.role n x) sound.staged (decide_leaves p v.role n x sound.sound)
body_leaves me p v q body.PrepareReq sound admitted = by_row p v (on_prepare_req p v.role q) sound.staged (prepare_req_leaves p v.role q sound.sound)
body_leaves me p v q (body.Refuse n b) sound admitted = quiet p v (on_refuse v b) sound refl refl refl
body_leaves me p v q (body.TrimAsk n) sound admitted = by_row p v (on_trim_ask p v.role q n) sound.staged (trim_ask_leaves p v.role q n sound.sound)
body_leaves me p v q (body.Progress n x) sound admitted = by_row p v (on_progress me p v.role q n x) sound.staged (progress_leaves me p v.role q n x sound.sound)
body_leaves me p v q (body.Trim x) sound admitted = by_row p v (on_trim p v.role x) sound.staged (trim_leaves p v.role x sound.sound)
body_leaves me p v q (body.Confirm n number) sound admitted = by_row p v (on_confirm p v.role q n number) sound.staged (confirm_leaves p v.role q n number sound.sound)
body_leaves me p v q (body.Confirmed n number) sound admitted = remembers p v [] sound
body_leaves me p v q (body.Watch w) sound admitted = remembers p v [] sound
body_leaves me p v q (body.NextConf members olds len trimmed) sound admitted = remembers p v [] sound
body_leaves me p v q body.AskBase sound admitted = remembers p v [] sound
body_leaves me p v q (body.BasePart at bytes) sound admitted = remembers p v [] sound
body_leaves me p v q (body.BasePiece piece) sound admitted = remembers p v [] sound
body_leaves me p v q (body.AskSegment a b) sound admitted = remembers p v [] sound
body_leaves me p v q (body.Segment at es) sound admitted = remembers p v [] sound
body_leaves me p v q (body.Forwards es) sound admitted = by_row p v (on_forward me p v.role es) sound.staged (forward_leaves me p v.role es sound.sound (λ last. commands es (not-true (has_stop es) admitted)))
body_leaves me p v q (body.Forward e) sound admitted = by_row p v (on_forward me p v.role (e ∷ [])) sound.staged (forward_leaves me p v.role (e ∷ []) sound.sound (may_go p 0 (e ∷ []) admitted).stops)

message_leaves : (me : ℕ) (p : Part) (v : Volatile) (q : ℕ) (m : Msg) → IsSoundPart p v → StepLeaves p (on_message me p v q m)
message_leaves me p v q m sound =
    by_step p (m.conf == p.conf && is_admitted_body p m.body) (on_body me p v q m.body) (remembering v [])
    (λ here. body_leaves me p v q m.body sound (and_parts (m.conf == p.conf) (is_admitted_body p m.body) here).1) (λ other. remembers p v [] sound)

-- ---- proposals

open_by : (a b : Bool) (x y : Refusal) → cond a (Some x) (cond b None (Some y)) ≡ None → b ≡ true
open_by true b x y none = cc
open_by false true x y none = refl
open_by false false x y none = cc

admitted_open : (me : ℕ) (r : Role) (p : Part) (es : List Entry) → open_refusal me r p es ≡ None → is_admitted p (len_of p) es ≡ true
admitted_open me r p es none = open_by (knows_no_leader me r p) (is_admitted p (len_of p) es) refusal.NoLeader refusal.PositionsEnd none

admitted_by : (me : ℕ) (r : Role) (p : Part) (j : Option Joining) (es : List Entry) → part_refusal me r (Some p) j es ≡ None → is_admitted p (len_of p) es ≡ true
admitted_by me r p None es none = admitted_open me r p es none
admitted_by me r p (Some j) es none = absurd (both_ways true (cc) refl)

admitted_after : (me : ℕ) (r : Role) (p : Part) (k : Option Closed) (j : Option Joining) (es : List Entry) (o : Option ℕ)
    → (let d : Durable = record { part = Some p; closed = k; joining = j } in refusal_after me r d es o ≡ None) → is_admitted p (len_of p) es ≡ true
admitted_after me r p k j es (Some pos) none = absurd (both_ways true (cc) refl)
admitted_after me r p k j es None none = admitted_by me r p j es none

proposal_leaves : (me : ℕ) (p : Part) (v : Volatile) (es : List Entry) (o : Option Refusal) → IsSoundPart p v → (o ≡ None → is_admitted p (len_of p) es ≡ true) → StepLeaves p (proposal_at me (Some p) v es o)
proposal_leaves me p v es (Some why) sound room = quiet p v (answering v (Some (outcome.Refused why))) sound refl refl refl
proposal_leaves me p v es None sound room =
    let may = may_go p (len_of p) es (room refl) in
    by_row p v (propose me p v.role es) sound.staged (propose_leaves me p v.role es sound.sound may.small may.stops)

proposal_is_of : (me : ℕ) (p : Part) (v : Volatile) (es : List Entry) (o : Option Refusal) → All IsOfPart (proposal_at me (Some p) v es o).batch
proposal_is_of me p v es (Some why) = All-nil IsOfPart
proposal_is_of me p v es None = (propose_of me p v.role es).changes

-- ---- ticks

elected_leaves : (me : ℕ) (p : Part) (v : Volatile) (n : Ballot) → IsSoundPart p v → StepLeaves p (elected me p v n)
elected_leaves me p v n sound =
    by_step p (is_below p.promised n) (with_effects v (first [] (requests me p v.round) [] (lead me p v.role n))) (only_asks me p v)
    (λ above. let row = lead_leaves me p v.role n sound.sound in
    by_row p v (first [] (requests me p v.round) [] (lead me p v.role n)) sound.staged (record { applies = row.applies; promises = row.promises; stops = row.stops; stages = row.stages }))
    (λ below. quiet p v (only_asks me p v) sound refl refl refl)

verdict_leaves : (me : ℕ) (p : Part) (v : Volatile) (w : Verdict) → IsSoundPart p v → StepLeaves p (by_verdict me p v w)
verdict_leaves me p v verdict.Nobody sound = quiet p v (only_asks me p v) sound refl refl refl
verdict_leaves me p v (verdict.Raised b) sound = quiet p v (only_asks me p v) sound refl refl refl
verdict_leaves me p v (verdict.Elected n) sound =
    by_step p (n.pid == me) (elected me p v n) (only_asks me p v) (λ own. elected_leaves me p v n sound) (λ other. quiet p v (only_asks me p v) sound refl refl refl)

-- ---- all

up_leaves : (me : ℕ) (p : Part) (v : Volatile) (q : ℕ) (b : Bool) → IsSound p v.role → RowLeaves p (cond b (saying v.role (message p.conf q body.PrepareReq ∷ [])) (nothing v.role))
up_leaves me p v q true sound = says p v.role (message p.conf q body.PrepareReq ∷ []) sound
up_leaves me p v q false sound = says p v.role [] sound

-- ---- a node at its part

-- a step that changes the part alone
module _ (me : ℕ) (d : Durable) (p : Part) (v : Volatile) (x : PartStep) where
  pub at_part : IsSoundNode me (with_part d p) v → All IsOfPart x.batch → StepLeaves p x → IsSoundStep me (with_part d p) x
  at_part sound of all =
      let q : Part = part_after p x.batch in
      let is : durable_after (with_part d p) x.batch ≡ with_part d q = part_batch d p x.batch of in
      let after : IsSound q x.volatile.role =
      record {
        conf = subst (λ (n : ℕ). n ≤ last_conf) (sym (conf_after p x.batch)) sound.part.sound.conf;
        positions = fits_after p x.batch sound.part.sound.positions all.row.applies;
        members = subst (λ (ms : List ℕ). 0 < length ms) (sym (members_after p x.batch)) sound.part.sound.members;
        log = log_after p x.batch sound.part.sound.log all.row.applies;
        promises = all.row.promises;
        stops = subst (λ (conf : ℕ). StopsFit conf x.volatile.role) (sym (conf_after p x.batch)) all.row.stops;
        stages = subst (λ (conf : ℕ). StagesFit conf x.volatile.role) (sym (conf_after p x.batch)) all.row.stages;
      } in
      let staged : StagedIsAdmitted q.conf x.volatile.staged = subst (λ (conf : ℕ). StagedIsAdmitted conf x.volatile.staged) (sym (conf_after p x.batch)) all.staged in
      let node : IsSoundNode me (with_part d q) x.volatile = record { part = record { sound = after; staged = staged }; closed = sound.closed; joining = sound.joining } in
      record {
        applies = applied d p x.batch of all.row.applies;
        sound = subst (λ (e : Durable). IsSoundNode me e x.volatile) (sym is) node;
        same = subst (λ (e : Durable). AreOfOneConf e.part (Some p)) (sym is) (conf_after p x.batch, members_after p x.batch);
      }

alike : (o : Option Part) → AreOfOneConf o o
alike None = tt
alike (Some p) = (refl, refl)

part_as : (o : Option Part) (v w : Volatile) → w.role ≡ v.role → w.staged ≡ v.staged → IfSound o v → IfSound o w
part_as None v w role staged sound = tt
part_as (Some p) v w role staged sound =
    record {
      sound = subst (λ (r : Role). IsSound p r) (sym role) sound.sound;
      staged = subst (λ (h : Held). StagedIsAdmitted p.conf h) (sym staged) sound.staged;
    }

-- a node is as sound where its role and what is staged are the same
sound_as : (me : ℕ) (d : Durable) (v w : Volatile) → w.role ≡ v.role → w.staged ≡ v.staged → IsSoundNode me d v → IsSoundNode me d w
sound_as me d v w role staged sound = record { part = part_as d.part v w role staged sound.part; closed = sound.closed; joining = sound.joining }

-- a step that stores nothing, and keeps the role and what is staged
still : (me : ℕ) (d : Durable) (v : Volatile) (x : PartStep) → IsSoundNode me d v → x.batch ≡ [] → x.volatile.role ≡ v.role → x.volatile.staged ≡ v.staged → IsSoundStep me d x
still me d v x sound none role staged =
    let here : IsSoundNode me d x.volatile = sound_as me d v x.volatile role staged sound in
    record {
      applies = subst (Applies d) (sym none) tt;
      sound = subst (λ (c : List Change). IsSoundNode me (durable_after d c) x.volatile) (sym none) here;
      same = subst (λ (c : List Change). AreOfOneConf (durable_after d c).part d.part) (sym none) (alike d.part);
    }

-- by a test
either : (me : ℕ) (d : Durable) (b : Bool) (x y : PartStep)
    → (b ≡ true → All BeginFits x.batch → IsSoundStep me d x) → (b ≡ false → All BeginFits y.batch → IsSoundStep me d y) → All BeginFits (cond b x y).batch → IsSoundStep me d (cond b x y)
either me d true x y so other begin = so refl begin
either me d false x y so other begin = other refl begin

-- ---- messages

message_at_sound : (me : ℕ) (o : Option Part) (k : Option Closed) (j : Option Joining) (v : Volatile) (q : ℕ) (m : Msg)
    → (let d : Durable = record { part = o; closed = k; joining = j } in IsSoundNode me d v → IsSoundStep me d (message_at me o v q m))
message_at_sound me None k j v q m sound = let d : Durable = record { part = None; closed = k; joining = j } in still me d v (remembering v []) sound refl refl refl
message_at_sound me (Some p) k j v q m sound =
    let d : Durable = record { part = Some p; closed = k; joining = j } in
    at_part me d p v (on_message me p v q m) sound (message_of me p v q m).changes (message_leaves me p v q m sound.part)

-- a node begins to join a configuration
module _ (me : ℕ) (d : Durable) (v : Volatile) (sound : IsSoundNode me d v) (q c : ℕ) (members olds : List ℕ) (len trimmed : ℕ) (named : IsMember members me) (above : 0 < c) where
  begun : (b : Bool) → nat_le trimmed len ≡ b → All BeginFits (cond b (change.JoinBegin c members olds len ∷ change.JoinDonor q trimmed ∷ []) []) → IsSoundStep me d (storing v (cond b (change.JoinBegin c members olds len ∷ change.JoinDonor q trimmed ∷ []) []))
  begun false is begin = still me d v (storing v []) sound refl refl refl
  begun true is begin =
      let fits : (c ≤ last_conf) × (len < 2 ^ 64) = All-head BeginFits (change.JoinBegin c members olds len) (change.JoinDonor q trimmed ∷ []) begin in
      record {
        applies = (tt, (record { within = leb-true trimmed len is; none = refl; few = omega arith }, tt));
        sound = record { part = sound.part; closed = sound.closed; joining = record { number = above; last = fits.0; len = fits.1; member = named; base = tt } };
        same = alike d.part;
      }

  pub begins_sound : All BeginFits (begins q c members olds len trimmed) → IsSoundStep me d (storing v (begins q c members olds len trimmed))
  begins_sound begin = begun (nat_le trimmed len) refl begin

no_donor : (x : Option ℕ) → is_some x ≡ false → x ≡ None
no_donor None is = refl
no_donor (Some n) is = absurd (both_ways true is refl)

-- a node that joins has one donor more
donor_sound : (me : ℕ) (o : Option Part) (k : Option Closed) (j : Joining) (v : Volatile) (q trimmed : ℕ)
    → (let d : Durable = record { part = o; closed = k; joining = Some j } in IsSoundNode me d v → is_new_donor j q trimmed ≡ true → IsSoundStep me d (storing v (change.JoinDonor q trimmed ∷ [])))
donor_sound me o k j v q trimmed sound new =
    let first = and_parts (nat_le trimmed j.len) (not (is_some (donor_at j.donors q)) && nat_lt (length j.donors) most_donors) new in
    let rest = and_parts (not (is_some (donor_at j.donors q))) (nat_lt (length j.donors) most_donors) first.1 in
    record {
      applies = (record { within = leb-true trimmed j.len first.0; none = no_donor (donor_at j.donors q) (not-true (is_some (donor_at j.donors q)) rest.0); few = ltb-true (length j.donors) most_donors rest.1 }, tt);
      sound = record { part = sound.part; closed = sound.closed; joining = record { number = sound.joining.number; last = sound.joining.last; len = sound.joining.len; member = sound.joining.member; base = sound.joining.base } };
      same = alike o;
    }

by_batch : (me : ℕ) (d : Durable) (v : Volatile) (b : Bool) (x y : List Change)
    → (All BeginFits x → IsSoundStep me d (storing v x)) → IsSoundStep me d (storing v y) → All BeginFits (cond b x y) → IsSoundStep me d (storing v (cond b x y))
by_batch me d v true x y so other begin = so begin
by_batch me d v false x y so other begin = other

by_true : (me : ℕ) (d : Durable) (v : Volatile) (b : Bool) (x y : List Change) → (b ≡ true → IsSoundStep me d (storing v x)) → IsSoundStep me d (storing v y) → IsSoundStep me d (storing v (cond b x y))
by_true me d v true x y so other = so refl
by_true me d v false x y so other = other

joins_sound : (me : ℕ) (o : Option Part) (k : Option Closed) (j : Option Joining) (v : Volatile) (q c : ℕ) (members olds : List ℕ) (len trimmed : ℕ)
    → (let d : Durable = record { part = o; closed = k; joining = j } in IsSoundNode me d v → IsMember members me → 0 < c → All BeginFits (joins j q c members olds len trimmed) → IsSoundStep me d (storing v (joins j q c members olds len trimmed)))
joins_sound me o k None v q c members olds len trimmed sound named above begin =
    let d : Durable = record { part = o; closed = k; joining = None } in begins_sound me d v sound q c members olds len trimmed named above begin
joins_sound me o k (Some j) v q c members olds len trimmed sound named above begin =
    let d : Durable = record { part = o; closed = k; joining = Some j } in
    by_batch me d v (nat_lt j.conf c) (begins q c members olds len trimmed) (cond (j.conf == c && is_new_donor j q trimmed) (change.JoinDonor q trimmed ∷ []) [])
    (begins_sound me d v sound q c members olds len trimmed named above)
    (by_true me d v (j.conf == c && is_new_donor j q trimmed) (change.JoinDonor q trimmed ∷ []) []
    (λ new. donor_sound me o k j v q trimmed sound (and_parts (j.conf == c) (is_new_donor j q trimmed) new).1)
    (still me d v (storing v []) sound refl refl refl))
    begin

-- the same where no piece of a base stays staged
unpieced_sound : (me : ℕ) (d : Durable) (v : Volatile) (batch : List Change) (b : Bool) → IsSoundStep me d (storing v batch) → IsSoundStep me d (storing (cond b (record v { pieces = None }) v) batch)
unpieced_sound me d v batch false step = step
unpieced_sound me d v batch true step =
    let w : Volatile = record v { pieces = None } in
    record { applies = step.applies; sound = sound_as me (durable_after d batch) v w refl refl step.sound; same = step.same }

-- a piece of a base stays staged, or none
piece_sound : (me : ℕ) (o : Option Part) (k : Option Closed) (j : Option Joining) (v : Volatile) (c : ℕ) (piece : Piece)
    → (let d : Durable = record { part = o; closed = k; joining = j } in IsSoundNode me d v → IsSoundStep me d (on_base_piece j v c piece))
piece_sound me o k None v c piece sound = let d : Durable = record { part = o; closed = k; joining = None } in still me d v (storing v []) sound refl refl refl
piece_sound me o k (Some j) v c piece sound =
    let d : Durable = record { part = o; closed = k; joining = Some j } in
    let s : Pieces = with_piece v.pieces piece in
    let w : Volatile = record v { pieces = pieces_once s (whole_bytes s.bytes) } in
    cond_both (takes_piece j c piece) (storing w []) (storing v []) (λ x. IsSoundStep me d x)
    (λ taken. still me d v (storing w []) sound refl refl refl) (λ other. still me d v (storing v []) sound refl refl refl)

news_sound : (me : ℕ) (o : Option Part) (k : Option Closed) (j : Option Joining) (v : Volatile) (q c : ℕ) (members olds : List ℕ) (len trimmed : ℕ)
    → (let d : Durable = record { part = o; closed = k; joining = j } in IsSoundNode me d v → All BeginFits (on_next_conf me d v q c members olds len trimmed).batch → IsSoundStep me d (on_next_conf me d v q c members olds len trimmed))
news_sound me o k j v q c members olds len trimmed sound begin =
    let d : Durable = record { part = o; closed = k; joining = j } in
    either me d (is_member nat_eq members me && nat_lt (latest_of d) c) (storing_news v (joins j q c members olds len trimmed)) (storing v [])
    (λ here begin. let both = and_parts (is_member nat_eq members me) (nat_lt (latest_of d) c) here in
    let above : latest_of d < c = ltb-true (latest_of d) c both.1 in
    unpieced_sound me d v (joins j q c members olds len trimmed) (begins_joining (joins j q c members olds len trimmed)) (joins_sound me o k j v q c members olds len trimmed sound both.0 (omega arith) begin))
    (λ off none. still me d v (storing v []) sound refl refl refl)
    begin

latest_sound : (me : ℕ) (o : Option Part) (k : Option Closed) (j : Option Joining) (v : Volatile) (q c : ℕ) (b : Body)
    → (let d : Durable = record { part = o; closed = k; joining = j } in IsSoundNode me d v → All BeginFits (on_latest me d v q c b).batch → IsSoundStep me d (on_latest me d v q c b))
latest_sound me o k j v q c (body.NextConf members olds len trimmed) sound begin = news_sound me o k j v q c members olds len trimmed sound begin
latest_sound me o k j v q c body.AskBase sound begin = let d : Durable = record { part = o; closed = k; joining = j } in still me d v (remembering v (gives_base k q c)) sound refl refl refl
latest_sound me o k j v q c (body.AskSegment a b) sound begin = let d : Durable = record { part = o; closed = k; joining = j } in still me d v (remembering v (gives_segment k q c a b)) sound refl refl refl
latest_sound me o k j v q c (body.BasePiece piece) sound begin = piece_sound me o k j v c piece sound
latest_sound me o k j v q c b sound begin = message_at_sound me o k j v q (record { conf = c; body = b }) sound

message_sound : (me : ℕ) (o : Option Part) (k : Option Closed) (j : Option Joining) (v : Volatile) (q : ℕ) (m : Msg)
    → (let d : Durable = record { part = o; closed = k; joining = j } in IsSoundNode me d v → All BeginFits (message_step me d v q m).batch → IsSoundStep me d (message_step me d v q m))
message_sound me o k j v q m sound begin =
    let d : Durable = record { part = o; closed = k; joining = j } in
    either me d (is_watching m.body) (remembering v (watch_answers d q m.conf m.body)) (member_step me d v q m) (λ _ none. still me d v (remembering v (watch_answers d q m.conf m.body)) sound refl refl refl)
    (λ _. either me d (is_some j && not (is_of_joining m.body)) (remembering v []) _ (λ _ none. still me d v (remembering v []) sound refl refl refl)
    (λ _. either me d (nat_lt m.conf (latest_of d)) (remembering v (on_older d k q)) _ (λ _ none. still me d v (remembering v (on_older d k q)) sound refl refl refl)
    (λ _. either me d (nat_lt (latest_of d) m.conf && not (may_be_above m.body)) (remembering v (on_newer d q m.body)) (on_latest me d v q m.conf m.body) (λ _ none. still me d v (remembering v (on_newer d q m.body)) sound refl refl refl)
    (λ _ rest. latest_sound me o k j v q m.conf m.body sound rest))))
    begin

-- ---- all inputs

-- without a part nothing is stored, whatever the role
bare : (me : ℕ) (k : Option Closed) (j : Option Joining) (x : PartStep) (v : Volatile) → (let d : Durable = record { part = None; closed = k; joining = j } in IsSoundNode me d v → x.batch ≡ [] → IsSoundStep me d x)
bare me k j x v sound none =
    let d : Durable = record { part = None; closed = k; joining = j } in
    record {
      applies = subst (Applies d) (sym none) tt;
      sound = subst (λ (c : List Change). IsSoundNode me (durable_after d c) x.volatile) (sym none) (record { part = tt; closed = sound.closed; joining = sound.joining });
      same = subst (λ (c : List Change). AreOfOneConf (durable_after d c).part None) (sym none) tt;
    }

partless : (me : ℕ) (d : Durable) (v : Volatile) (es : List Entry) (o : Option Refusal) → IsSoundNode me d v → IsSoundStep me d (proposal_at me None v es o)
partless me d v es (Some why) sound = still me d v (answering v (Some (outcome.Refused why))) sound refl refl refl
partless me d v es None sound = still me d v (answering v (Some (outcome.Refused refusal.NoLeader))) sound refl refl refl

proposal_sound : (me : ℕ) (o : Option Part) (k : Option Closed) (j : Option Joining) (v : Volatile) (es : List Entry)
    → (let d : Durable = record { part = o; closed = k; joining = j } in IsSoundNode me d v → IsSoundStep me d (proposal_step me d v es))
proposal_sound me None k j v es sound = let d : Durable = record { part = None; closed = k; joining = j } in partless me d v es (refusal_of me v.role d es) sound
proposal_sound me (Some p) k j v es sound =
    let d : Durable = record { part = Some p; closed = k; joining = j } in
    let why : Option Refusal = refusal_of me v.role d es in
    at_part me d p v (proposal_at me (Some p) v es why) sound (proposal_is_of me p v es why)
    (proposal_leaves me p v es why sound.part (λ none. admitted_after me v.role p k j es (pending p) none))

tick_sound : (me : ℕ) (o : Option Part) (k : Option Closed) (j : Option Joining) (v : Volatile)
    → (let d : Durable = record { part = o; closed = k; joining = j } in IsSoundNode me d v → IsSoundStep me d (tick_at me o j v))
tick_sound me o k (Some j) v sound = let d : Durable = record { part = o; closed = k; joining = Some j } in still me d v (remembering v (asks j)) sound refl refl refl
tick_sound me None k None v sound = let d : Durable = record { part = None; closed = k; joining = None } in still me d v (remembering v []) sound refl refl refl
tick_sound me (Some p) k None v sound =
    let d : Durable = record { part = Some p; closed = k; joining = None } in
    let u : Volatile = begun_at me p v in
    let still_sound : IsSoundPart p u = record { sound = sound.part.sound; staged = sound.part.staged } in
    at_part me d p v (on_tick me p v) sound (tick_of me p v).changes
    (tick_cases (StepLeaves p) me p v (λ _. verdict_leaves me p u (ended_at me p v).verdict still_sound)
    (λ _. quiet p u (also_sending (only_asks me p u) (asks_heard me p v.heard)) still_sound refl refl refl))

trim_sound : (me : ℕ) (o : Option Part) (k : Option Closed) (j : Option Joining) (v : Volatile)
    → (let d : Durable = record { part = o; closed = k; joining = j } in IsSoundNode me d v → IsSoundStep me d (trim_at me o v))
trim_sound me None k j v sound = let d : Durable = record { part = None; closed = k; joining = j } in still me d v (trim_at me None v) sound refl refl refl
trim_sound me (Some p) k j v sound =
    let d : Durable = record { part = Some p; closed = k; joining = j } in
    at_part me d p v (with_effects v (trim_now me p v.role)) sound (trim_now_of me p v.role).changes (by_row p v (trim_now me p v.role) sound.part.staged (trim_now_leaves me p v.role sound.part.sound))

up_sound : (me : ℕ) (o : Option Part) (k : Option Closed) (j : Option Joining) (v : Volatile) (q : ℕ)
    → (let d : Durable = record { part = o; closed = k; joining = j } in IsSoundNode me d v → IsSoundStep me d (up_at me d o j v q))
up_sound me None k None v q sound = let d : Durable = record { part = None; closed = k; joining = None } in still me d v (remembering v (on_older d k q)) sound refl refl refl
up_sound me None k (Some j) v q sound = let d : Durable = record { part = None; closed = k; joining = Some j } in still me d v (remembering v []) sound refl refl refl
up_sound me (Some p) k (Some j) v q sound = let d : Durable = record { part = Some p; closed = k; joining = Some j } in still me d v (remembering v []) sound refl refl refl
up_sound me (Some p) k None v q sound =
    let d : Durable = record { part = Some p; closed = k; joining = None } in
    at_part me d p v (with_effects v (session_up me p v.role q)) sound (session_up_of me p v.role q).changes
    (by_row p v (session_up me p v.role q) sound.part.staged (up_leaves me p v q (is_member nat_eq (others me p.members) q) sound.part.sound))

partless_down : (me : ℕ) (k : Option Closed) (j : Option Joining) (v : Volatile) (r : Role) (q : ℕ)
    → (let d : Durable = record { part = None; closed = k; joining = j } in IsSoundNode me d v → IsSoundStep me d (with_effects v (session_down r q)))
partless_down me k j v Idle q sound = bare me k j (with_effects v (session_down Idle q)) v sound refl
partless_down me k j v (Preparing r) q sound = bare me k j (with_effects v (session_down (Preparing r) q)) v sound refl
partless_down me k j v (Leading l) q sound = bare me k j (with_effects v (session_down (Leading l) q)) v sound refl

down_sound : (me : ℕ) (o : Option Part) (k : Option Closed) (j : Option Joining) (v : Volatile) (q : ℕ)
    → (let d : Durable = record { part = o; closed = k; joining = j } in IsSoundNode me d v → IsSoundStep me d (with_effects v (session_down v.role q)))
down_sound me None k j v q sound = partless_down me k j v v.role q sound
down_sound me (Some p) k j v q sound =
    let d : Durable = record { part = Some p; closed = k; joining = j } in
    at_part me d p v (with_effects v (session_down v.role q)) sound (session_down_of v.role q).changes (by_row p v (session_down v.role q) sound.part.staged (session_down_leaves p v.role q sound.part.sound))

pub sound_step : (me : ℕ) (o : Option Part) (k : Option Closed) (j : Option Joining) (v : Volatile) (x : Input)
    → (let d : Durable = record { part = o; closed = k; joining = j } in IsSoundNode me d v → All BeginFits (step_at me d v x).batch → IsSoundStep me d (step_at me d v x))
sound_step me o k j v input.Tick sound begin = tick_sound me o k j v sound
sound_step me o k j v (input.Deliver q m) sound begin = message_sound me o k j v q m sound begin
sound_step me o k j v (input.Commands cs) sound begin = proposal_sound me o k j v (entries_of cs) sound
sound_step me o k j v (input.Stop members) sound begin = proposal_sound me o k j v (entry.Stop (stop_for o members) ∷ []) sound
sound_step me o k j v input.TrimNow sound begin = trim_sound me o k j v sound
sound_step me o k j v (input.Read r) sound begin =
    let d : Durable = record { part = o; closed = k; joining = j } in still me d v (remembering v []) sound refl refl refl
sound_step me o k j v (input.Up q) sound begin = up_sound me o k j v q sound
sound_step me o k j v (input.Down q) sound begin = down_sound me o k j v q sound
