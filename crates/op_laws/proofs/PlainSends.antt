-- What a step of the table sends: it asks nobody to confirm a ballot, confirms one only to whom asks for the promise, and shows
-- something only to an observer that asks.
use Rattle.std.proofs.Common.{◌≡◌, ℕ, zero, suc, ◌-◌, ◌+◌, Bool, true, false, not, cond, eqb, is_some, List, [], ◌∷◌, ◌++◌, length, flat_map, Option, Some, None, refl, subst, ◌⊎◌, inl, inr, filter, take, drop, map}
use Rattle.std.specs.Prelude.{◌==◌, ◌&&◌, nat_lt, nat_le, nat_eq, min, ◌||◌}
use Rattle.std.proofs.lemmas.Bool.{and_parts, eqb-true}
use Rattle.std.specs.Set.{is_member}
use Rattle.op_types.specs.Ballots.{is_below, is_same_ballot}
use Rattle.op_types.specs.Changes.{len_of, part_with, durable_after, closed_by}
use Rattle.op_types.specs.Cutting.{entries_size, cut, parts_from, whole_or_parts}
use Rattle.op_types.specs.Joinings.{Base, Donors, Held, held_with, held_run, cover_of}
use Rattle.op_types.specs.Stages.{front_from}
use Rattle.op_types.specs.Limits.{positions_end, most_part_bytes}
use Rattle.op_types.specs.Stops.{stop_at_end}
use Rattle.op_types.specs.Effects.{Effects}
use Rattle.op_types.specs.RoleStates.{Preparing, Leading, promise_of, with_promise, without_stage, told_by, promised_entries, staged_with, with_acknowledged, with_report, without_reports}
use Rattle.op_types.specs.Roles as role
use Rattle.op_types.specs.Roles.{Role}
use Rattle.op_types.specs.declared.answers.Refusal.{Refusal}
use Rattle.op_types.specs.declared.ballot.Ballot.{Ballot}
use Rattle.op_types.specs.declared.changes.Change.{Change}
use Rattle.op_types.specs.declared.changes.Change.TheVariants as change
use Rattle.op_types.specs.declared.durable.Part.{Part}
use Rattle.op_types.specs.declared.durable.Closed.{Closed}
use Rattle.op_types.specs.declared.durable.Durable.{Durable}
use Rattle.op_types.specs.declared.durable.Joining.{Joining}
use Rattle.op_types.specs.declared.events.Input.{Input}
use Rattle.op_types.specs.declared.events.Input.TheVariants as input
use Rattle.op_types.specs.declared.log.Entry.{Entry}
use Rattle.op_types.specs.declared.log.Entry.TheVariants as entry
use Rattle.op_types.specs.declared.messages.Body.{Body}
use Rattle.op_types.specs.declared.messages.Body.TheVariants as body
use Rattle.op_types.specs.declared.messages.Msg.{Msg}
use Rattle.op_types.specs.declared.role.Promised.{Promised}
use Rattle.op_types.specs.declared.runs.PromisedRun.{PromisedRun}
use Rattle.op_types.specs.declared.runs.SyncRun.{SyncRun}
use Rattle.op_types.specs.declared.verdict.Verdict.{Verdict}
use Rattle.op_types.specs.declared.verdict.Verdict.TheVariants as verdict
use Rattle.op_protocol.specs.State.{State, Volatile, PartStep, Planned, with_effects}
use Rattle.op_protocol.specs.Parts.{log_from, pending, is_run_to, is_admitted_body, part_after, part_in_round, appending, decided_since, others, message, messages, sync_run, sync_bodies, promised_run, promise_bodies, to_each, prepare_body, saying, nothing, first}
use Rattle.op_protocol.specs.Promises.{has_quorum, is_usable, Choice, chosen_log}
use Rattle.op_protocol.specs.Leader.{counted, count, decides, decided_again, synced_others, sync_start, sync_sends, sends_by, first_leading, leading_with, adopt_with, adopt, prepares, first_preparing, lead, on_promise, promised_once, on_promise_part, on_accepted, on_prepare_req, extends, forward_body, on_forward_leading, on_forward, session_down, propose}
use Rattle.op_protocol.specs.Follower.{suffix_start, promise_higher, on_prepare, accepts, added_changes, accept_entries, on_accept, synced_changes, sync_entries, on_accept_sync, synced_once, on_first_part, accept_front, appended_staged, on_later_part, on_accept_sync_part, on_decide}
use Rattle.op_protocol.specs.Tick.{requests, remembering, only_asks, elected, by_verdict, asks_heard}
use Rattle.op_protocol.specs.Heartbeats.{has_replied}
use Rattle.op_protocol.proofs.TickCases.{ended_at, begun_at, tick_cases}
use Rattle.op_protocol.specs.Trimming.{least_reported, trims, trims_reported, trims_if_all, trim_now, on_progress, on_trim_ask, on_trim}
use Rattle.op_protocol.specs.Configurations.{latest_of, latest_members, next_conf_message, new_members, next_conf_body, closing_part, closing}
use Rattle.op_protocol.specs.Joining.{storing, storing_news, joins, takes_piece, on_base_piece, base_pieces, piece_count, base_bodies, closed_entries, asks_with, part_start, ask_segment, ask_parts, base_donor, gives_base, gives_segment, is_within, goes_on_if, holding}
use Rattle.op_protocol.specs.Rows.{on_body, message_at, is_of_joining, is_prepare_req, may_be_above, on_older, on_newer, on_latest, message_step, brought_by, refusal_of, stop_for, entries_of, proposal_at, tick_at, trim_at, up_at, step_at, waiting_at, planned, step_bringing, table_plan}
use Rattle.op_protocol.specs.Starting.{requests_to_prepare, sends_after_restart}
use Rattle.op_spec.specs.Machine.{IsAmong}
use Rattle.op_protocol.specs.Watched.{is_watching, Decided, decided_for, shown_bodies, watch_pieces, shown_base, shown_if, answers_by, watch_answers}
use Rattle.op_types.specs.declared.messages.Watch.TheVariants as watch
use Rattle.op_refinement.proofs.View.{Each, Each-append}
use Rattle.op_laws.proofs.GivenUp.{either}

-- it neither asks for a confirmation nor gives one, and is no observer's, nor to one
abbrev pub IsPlain : Body → Type 0
IsPlain (body.Confirm n number) = ⊥
IsPlain (body.Confirmed n number) = ⊥
IsPlain (body.Watch w) = ⊥
IsPlain _ = Unit {0}

-- messages that are sent do so
abbrev pub ArePlain : List (ℕ × Msg) → Type 0
ArePlain sends = Each (λ s. IsPlain (s.1).body) sends

each_plain : (conf : ℕ) (qs : List ℕ) (b : Body) → IsPlain b → ArePlain (to_each conf qs b)
each_plain conf [] b k = tt
each_plain conf (q ∷ qs) b k = (k, each_plain conf qs b k)

both_plain : (xs ys : List (ℕ × Msg)) → ArePlain xs → ArePlain ys → ArePlain (xs ++ ys)
both_plain xs ys k l = Each-append (λ s. IsPlain (s.1).body) xs ys k l

-- ---- long messages

runs_plain : (part : ℕ → List Entry → Body) → ((at : ℕ) (run : List Entry) → IsPlain (part at run)) → (conf q at : ℕ) (runs : List (List Entry)) → ArePlain (messages conf q (parts_from part at runs))
runs_plain part each conf q at [] = tt
runs_plain part each conf q at (run ∷ runs) = (each at run, runs_plain part each conf q (at + length run) runs)

whole_plain : (whole : Body) (part : ℕ → List Entry → Body) → IsPlain whole → ((at : ℕ) (run : List Entry) → IsPlain (part at run)) → (conf q at : ℕ) (es : List Entry) → ArePlain (messages conf q (whole_or_parts whole part at es))
whole_plain whole part k each conf q at es =
    either (λ bodies. ArePlain (messages conf q bodies)) (nat_le (entries_size es) most_part_bytes) (whole ∷ []) (parts_from part at (cut es)) (k, tt) (runs_plain part each conf q at (cut es))

syncs_in_parts : (conf q : ℕ) (n : Ballot) (start : ℕ) (es : List Entry) → ArePlain (messages conf q (sync_bodies n start es))
syncs_in_parts conf q n start es = whole_plain (body.AcceptSync n start es) (λ at run. body.AcceptSyncPart n (sync_run start es at run)) tt (λ at run. tt) conf q start es

promises_in_parts : (p : Part) (q : ℕ) (n : Ballot) (start : ℕ) → ArePlain (messages p.conf q (promise_bodies p n start))
promises_in_parts p q n start =
    whole_plain (body.Promise n p.accepted (len_of p) p.decided start (log_from p start)) (λ at run. body.PromisePart n (promised_run p start at run)) tt (λ at run. tt) p.conf q start (log_from p start)

pieces_plain : (conf q at : ℕ) (bytes : List ℕ) (from count : ℕ) → ArePlain (messages conf q (base_pieces at bytes from count))
pieces_plain conf q at bytes from zero = tt
pieces_plain conf q at bytes from (suc count) = (tt, pieces_plain conf q at bytes (from + most_part_bytes) count)

bases_plain : (conf q at : ℕ) (bytes : List ℕ) → ArePlain (messages conf q (base_bodies at bytes))
bases_plain conf q at bytes =
    either (λ bodies. ArePlain (messages conf q bodies)) (nat_le (length bytes) most_part_bytes) (body.BasePart at bytes ∷ []) (base_pieces at bytes 0 (piece_count (length bytes))) (tt, tt) (pieces_plain conf q at bytes 0 (piece_count (length bytes)))

-- ---- rows

-- the effects send nothing else
abbrev Plain : Effects → Type 0
Plain e = ArePlain e.sends

count_plain : (me : ℕ) (p : Part) (len : ℕ) (l : Leading) (otherwise : List (ℕ × Msg)) → ArePlain otherwise → Plain (count me p len l otherwise)
count_plain me p len l otherwise k =
    let x : ℕ = counted me p.members len l.acknowledged in
    either Plain (nat_lt p.decided x) (decides me p l x) (saying (role.Leading l) otherwise) (each_plain p.conf (synced_others me p.members l) (body.Decide l.ballot x) tt) k

sync_plain : (p : Part) (l : Leading) (k : Promised) → ArePlain (sync_sends p l k)
sync_plain p l k =
    either ArePlain (nat_lt (sync_start l k) p.trimmed) _ _ (tt, tt)
    (either ArePlain (nat_le (sync_start l k) (len_of p)) _ _ (syncs_in_parts p.conf k.from l.ballot (sync_start l k) (log_from p (sync_start l k))) tt)

by_plain : (p : Part) (l : Leading) (o : Option Promised) → ArePlain (sends_by p l o)
by_plain p l None = tt
by_plain p l (Some k) = sync_plain p l k

syncs_plain : (p : Part) (l : Leading) (promises : List Promised) (qs : List ℕ) → ArePlain (flat_map (λ q. sends_by p l (promise_of promises q)) qs)
syncs_plain p l promises [] = tt
syncs_plain p l promises (q ∷ qs) = both_plain (sends_by p l (promise_of promises q)) _ (by_plain p l (promise_of promises q)) (syncs_plain p l promises qs)

adopting_plain : (me : ℕ) (p : Part) (r : Preparing) (c : Choice) (more : List Entry) → Plain (adopt_with me p r c more)
adopting_plain me p r c more =
    let q = part_in_round p r.ballot (chosen_log p c ++ more) in
    let l = first_leading r.ballot c in
    both_plain (flat_map (λ i. sends_by q l (promise_of r.promises i)) q.members) _ (syncs_plain q l r.promises q.members) (count_plain me q (len_of q) (leading_with q l r.promises) [] tt)

preparing_plain : (me : ℕ) (p : Part) (r : Preparing) → Plain (prepares me p r)
preparing_plain me p r = either Plain (has_quorum me p.members r.promises) (adopt me p r) (nothing (role.Preparing r)) (adopting_plain me p r _ _) tt

leading_plain : (me : ℕ) (p : Part) (r : Role) (n : Ballot) → Plain (lead me p r n)
leading_plain me p r n =
    both_plain (to_each p.conf (others me p.members) (prepare_body p n)) _ (each_plain p.conf (others me p.members) (prepare_body p n) tt)
    (preparing_plain me (part_with p (change.Promise n)) (first_preparing n))

promise_plain : (me : ℕ) (p : Part) (r : Role) (n : Ballot) (k : Promised) → Plain (on_promise me p r n k)
promise_plain me p role.Idle n k = tt
promise_plain me p (role.Preparing r) n k = either Plain (is_same_ballot n r.ballot && is_usable p k) (prepares me p (with_promise r k)) (nothing (role.Preparing r)) (preparing_plain me p (with_promise r k)) tt
promise_plain me p (role.Leading l) n k = either Plain (is_same_ballot n l.ballot) (saying _ (sync_sends p l k)) (nothing (role.Leading l)) (sync_plain p l k) tt

once_plain : (me : ℕ) (p : Part) (r : Preparing) (q : ℕ) (part : PromisedRun) (held : Held) (o : Option (List Entry)) → Plain (promised_once me p r q part held o)
once_plain me p r q part held None = tt
once_plain me p r q part held (Some es) = promise_plain me p (role.Preparing (without_stage r q)) r.ballot (told_by q part es)

promise_part_plain : (me : ℕ) (p : Part) (r : Role) (q : ℕ) (n : Ballot) (part : PromisedRun) → Plain (on_promise_part me p r q n part)
promise_part_plain me p role.Idle q n part = tt
promise_part_plain me p (role.Preparing r) q n part =
    either Plain (is_same_ballot n r.ballot && (nat_le part.start part.at && is_run_to part.len part.at part.run)) (promised_once me p r q part (staged_with r q part) (promised_entries part (staged_with r q part))) (nothing (role.Preparing r))
    (once_plain me p r q part (staged_with r q part) (promised_entries part (staged_with r q part))) tt
promise_part_plain me p (role.Leading l) q n part =
    either Plain (part.at + length part.run == part.len) (on_promise me p (role.Leading l) n (told_by q part [])) (nothing (role.Leading l)) (promise_plain me p (role.Leading l) n (told_by q part [])) tt

accepted_plain : (me : ℕ) (p : Part) (r : Role) (q : ℕ) (n : Ballot) (x : ℕ) → Plain (on_accepted me p r q n x)
accepted_plain me p role.Idle q n x = tt
accepted_plain me p (role.Preparing r) q n x = tt
accepted_plain me p (role.Leading l) q n x =
    let k = with_acknowledged l (record { from = q; len = x }) in
    either Plain (is_same_ballot n l.ballot && nat_le x (len_of p)) (count me p (len_of p) k (decided_again p q l.ballot)) (nothing (role.Leading l))
    (count_plain me p (len_of p) k (decided_again p q l.ballot) (either ArePlain (nat_lt 0 p.decided) _ _ (tt, tt) tt)) tt

request_plain : (p : Part) (r : Role) (q : ℕ) → Plain (on_prepare_req p r q)
request_plain p role.Idle q = tt
request_plain p (role.Preparing r) q = (tt, tt)
request_plain p (role.Leading l) q = (tt, tt)

extending_plain : (me : ℕ) (p : Part) (l : Leading) (e : List Entry) → Plain (extends me p l e)
extending_plain me p l e =
    both_plain (to_each p.conf (synced_others me p.members l) (body.Accept l.ballot (len_of p) e)) _ (each_plain p.conf (synced_others me p.members l) (body.Accept l.ballot (len_of p) e) tt)
    (count_plain me p (len_of p + length e) l [] tt)

forwards_plain : (es : List Entry) → IsPlain (forward_body es)
forwards_plain [] = tt
forwards_plain (e ∷ []) = tt
forwards_plain (e ∷ (d ∷ es)) = tt

proposing_plain : (me : ℕ) (p : Part) (r : Role) (e : List Entry) → Plain (propose me p r e)
proposing_plain me p role.Idle e = (forwards_plain e, tt)
proposing_plain me p (role.Preparing r) e = tt
proposing_plain me p (role.Leading l) e = extending_plain me p l e

forward_plain : (me : ℕ) (p : Part) (r : Role) (e : List Entry) → Plain (on_forward me p r e)
forward_plain me p role.Idle e = tt
forward_plain me p (role.Preparing r) e = tt
forward_plain me p (role.Leading l) e = by_stop (pending p)
  where
    by_stop : (stop : Option ℕ) → Plain (on_forward_leading me p l e stop)
    by_stop (Some pos) = tt
    by_stop None = either Plain (nat_le (len_of p + length e) positions_end) (extends me p l e) (nothing (role.Leading l)) (extending_plain me p l e) tt

session_plain : (r : Role) (q : ℕ) → Plain (session_down r q)
session_plain role.Idle q = tt
session_plain (role.Preparing r) q = tt
session_plain (role.Leading l) q = tt

prepare_plain : (p : Part) (r : Role) (q : ℕ) (n na : Ballot) (nl nd : ℕ) → Plain (on_prepare p r q n na nl nd)
prepare_plain p r q n na nl nd =
    let s = suffix_start p na nl nd in
    let promised = first [] (messages p.conf q (promise_bodies p n s)) [] (promise_higher p r n) in
    let higher : Plain (promise_higher p r n) = either Plain (is_below p.promised n) _ (nothing r) tt tt in
    either Plain (is_below n p.promised) (saying r (message p.conf q (body.Refuse n p.promised) ∷ [])) (cond (nat_lt s p.trimmed) (nothing r) promised) (tt, tt)
    (either Plain (nat_lt s p.trimmed) (nothing r) promised tt (both_plain (messages p.conf q (promise_bodies p n s)) _ (promises_in_parts p q n s) higher))

accept_plain : (p : Part) (r : Role) (q : ℕ) (n : Ballot) (at : ℕ) (entries : List Entry) → Plain (on_accept p r q n at entries)
accept_plain p r q n at entries =
    either Plain (is_same_ballot p.promised n && is_same_ballot p.accepted n) (accept_entries p r q n at entries) (nothing r)
    (either Plain (nat_lt (len_of p) at) (saying r (message p.conf q body.PrepareReq ∷ [])) (accepts p r q n (added_changes p at entries)) (tt, tt) (tt, tt)) tt

synced_plain : (p : Part) (r : Role) (q : ℕ) (n : Ballot) (x : ℕ) (entries : List Entry) → Plain (sync_entries p r q n x entries)
synced_plain p r q n x entries = either Plain (nat_le p.decided x && nat_le x (len_of p)) (accepts p r q n (synced_changes p n x entries)) (nothing r) (tt, tt) tt

syncing_plain : (p : Part) (r : Role) (q : ℕ) (n : Ballot) (x : ℕ) (entries : List Entry) → Plain (on_accept_sync p r q n x entries)
syncing_plain p r q n x entries =
    either Plain (is_same_ballot p.promised n && is_below p.accepted n) (sync_entries p r q n x entries) (on_accept p r q n x entries)
    (synced_plain p r q n x entries) (accept_plain p r q n x entries)

decide_plain : (p : Part) (r : Role) (n : Ballot) (x : ℕ) → Plain (on_decide p r n x)
decide_plain p r n x =
    either Plain (is_same_ballot p.promised n && (is_same_ballot p.accepted n && nat_lt p.decided (min x (len_of p)))) (first (change.Decided (min x (len_of p)) ∷ []) [] [] (nothing r)) (nothing r) tt tt

-- ---- trimming

trims_plain : (me : ℕ) (p : Part) (l : Leading) (x : ℕ) → Plain (trims me p l x)
trims_plain me p l x =
    either Plain (nat_lt p.trimmed x) (first (change.Trim x [] ∷ []) (to_each p.conf (others me p.members) (body.Trim x)) [] (nothing (role.Leading l))) (nothing (role.Leading l))
    (both_plain (to_each p.conf (others me p.members) (body.Trim x)) [] (each_plain p.conf (others me p.members) (body.Trim x) tt) tt) tt

reported_plain : (me : ℕ) (p : Part) (l : Leading) (o : Option ℕ) → Plain (trims_reported me p l o)
reported_plain me p l None = tt
reported_plain me p l (Some x) = trims_plain me p (without_reports l) x

asked_plain : (me : ℕ) (p : Part) (r : Role) → Plain (trim_now me p r)
asked_plain me p role.Idle = tt
asked_plain me p (role.Preparing r) = tt
asked_plain me p (role.Leading l) =
    both_plain (to_each p.conf (others me p.members) (body.TrimAsk l.ballot)) _ (each_plain p.conf (others me p.members) (body.TrimAsk l.ballot) tt)
    (reported_plain me p (without_reports l) (least_reported [] (others me p.members) p.decided))

progress_plain : (me : ℕ) (p : Part) (r : Role) (q : ℕ) (n : Ballot) (x : ℕ) → Plain (on_progress me p r q n x)
progress_plain me p role.Idle q n x = tt
progress_plain me p (role.Preparing r) q n x = tt
progress_plain me p (role.Leading l) q n x =
    let k = with_report l (record { from = q; decided = x }) in
    either Plain (is_same_ballot n l.ballot) (trims_if_all me p k) (nothing (role.Leading l)) (reported_plain me p k (least_reported k.reports (others me p.members) p.decided)) tt

trim_ask_plain : (p : Part) (r : Role) (q : ℕ) (n : Ballot) → Plain (on_trim_ask p r q n)
trim_ask_plain p r q n = either Plain (is_same_ballot p.promised n) (saying r (message p.conf q (body.Progress n p.decided) ∷ [])) (nothing r) (tt, tt) tt

trim_plain : (p : Part) (r : Role) (x : ℕ) → Plain (on_trim p r x)
trim_plain p r x = either Plain (nat_lt p.trimmed x && nat_le x p.decided) (first (change.Trim x [] ∷ []) [] [] (nothing r)) (nothing r) tt tt

-- ---- steps

-- the same of a step at a part
abbrev StepIsPlain : PartStep → Type 0
StepIsPlain x = ArePlain x.sends

synced_once_plain : (p : Part) (v : Volatile) (q : ℕ) (n : Ballot) (x : ℕ) (held : Held) (o : Option (List Entry)) → StepIsPlain (synced_once p v q n x held o)
synced_once_plain p v q n x held None = tt
synced_once_plain p v q n x held (Some es) = synced_plain p v.role q n x es

front_plain : (p : Part) (r : Role) (q : ℕ) (n : Ballot) (at : ℕ) (es : List Entry) → Plain (accept_front p r q n at es)
front_plain p r q n at es =
    let len : ℕ = len_of (part_after p (appending es)) in
    (either IsPlain (nat_lt len at) body.PrepareReq (body.Accepted n len) tt tt, tt)

sync_part_plain : (p : Part) (v : Volatile) (q : ℕ) (n : Ballot) (part : SyncRun) → StepIsPlain (on_accept_sync_part p v q n part)
sync_part_plain p v q n part =
    let held : Held = held_with v.staged part.at part.run in
    either StepIsPlain (is_same_ballot p.promised n && is_below p.accepted n) (on_first_part p v q n part) (on_later_part p v q n part)
    (either StepIsPlain ((nat_le p.decided part.start && nat_le part.start (len_of p)) && (nat_le part.start part.at && is_run_to part.end part.at part.run))
    (synced_once p v q n part.start held (held_run held part.start (part.end - part.start))) (with_effects v (nothing v.role))
    (synced_once_plain p v q n part.start held (held_run held part.start (part.end - part.start))) tt)
    (either StepIsPlain (is_same_ballot p.promised n && (is_same_ballot p.accepted n && is_run_to part.end part.at part.run)) (appended_staged p v q n part.at held) (with_effects v (nothing v.role))
    (front_plain p v.role q n part.at (front_from held (len_of p))) tt)

body_plain : (me : ℕ) (p : Part) (v : Volatile) (q : ℕ) (b : Body) → IsPlain b → StepIsPlain (on_body me p v q b)
body_plain me p v q (body.HeartbeatRequest round) k = (tt, tt)
body_plain me p v q (body.HeartbeatReply round b flag) k = tt
body_plain me p v q (body.Prepare n na nl nd) k = prepare_plain p v.role q n na nl nd
body_plain me p v q (body.Promise n fa fl fd s entries) k = promise_plain me p v.role n (record { from = q; accepted = fa; len = fl; decided = fd; start = s; entries = entries })
body_plain me p v q (body.AcceptSync n x entries) k = syncing_plain p v.role q n x entries
body_plain me p v q (body.PromisePart n part) k = promise_part_plain me p v.role q n part
body_plain me p v q (body.AcceptSyncPart n part) k = sync_part_plain p v q n part
body_plain me p v q (body.BasePiece x) k = tt
body_plain me p v q (body.Accept n at entries) k = accept_plain p v.role q n at entries
body_plain me p v q (body.Accepted n x) k = accepted_plain me p v.role q n x
body_plain me p v q (body.Decide n x) k = decide_plain p v.role n x
body_plain me p v q body.PrepareReq k = request_plain p v.role q
body_plain me p v q (body.Refuse n b) k = tt
body_plain me p v q (body.Forward e) k = forward_plain me p v.role (e ∷ [])
body_plain me p v q (body.Forwards e) k = forward_plain me p v.role e
body_plain me p v q (body.TrimAsk n) k = trim_ask_plain p v.role q n
body_plain me p v q (body.Progress n x) k = progress_plain me p v.role q n x
body_plain me p v q (body.Trim x) k = trim_plain p v.role x
body_plain me p v q (body.NextConf members olds len trimmed) k = tt
body_plain me p v q body.AskBase k = tt
body_plain me p v q (body.BasePart at bytes) k = tt
body_plain me p v q (body.AskSegment from to) k = tt
body_plain me p v q (body.Segment at es) k = tt
body_plain me p v q (body.Confirm n number) k = absurd k
body_plain me p v q (body.Confirmed n number) k = absurd k
body_plain me p v q (body.Watch w) k = absurd k

-- a message that confirms a ballot to who asked for it, where it is promised
pub record Confirms (d : Durable) (from : ℕ) (asked : Msg) (to : ℕ) (m : Msg) : Type 0 where
  pub ballot : Ballot
  pub number : ℕ
  pub part : Part
  pub has : d.part ≡ Some part
  pub promised : is_same_ballot part.promised ballot ≡ true
  pub here : asked.conf ≡ part.conf
  pub asks : asked.body ≡ body.Confirm ballot number
  pub back : to ≡ from
  pub conf : m.conf ≡ part.conf
  pub says : m.body ≡ body.Confirmed ballot number

-- a message that is shown to an observer that asks
abbrev pub IsShown : Durable → ℕ → Msg → ℕ × Msg → Type 0
IsShown d q m s = IsAmong (watch_answers d q m.conf m.body) s

-- what a message is answered: nothing of these, or one of them that it asks
abbrev pub IsAnswer : Durable → ℕ → Msg → ℕ × Msg → Type 0
IsAnswer d q m s = IsPlain (s.1).body ⊎ (Confirms d q m s.0 s.1 ⊎ IsShown d q m s)

abbrev pub Answers : Durable → ℕ → Msg → List (ℕ × Msg) → Type 0
Answers d q m sends = Each (IsAnswer d q m) sends

plain_answers : (d : Durable) (q : ℕ) (m : Msg) (sends : List (ℕ × Msg)) → ArePlain sends → Answers d q m sends
plain_answers d q m [] k = tt
plain_answers d q m (s ∷ sends) k = (inl k.0, plain_answers d q m sends k.1)

-- the news of the next configuration
older_plain : (d : Durable) (q : ℕ) (o : Option Closed) → ArePlain (on_older d o q)
older_plain d q None = tt
older_plain d q (Some l) = either ArePlain (is_member nat_eq (latest_members d) q) (next_conf_message l q ∷ []) [] (tt, tt) tt

module _ (me : ℕ) (d : Durable) (v : Volatile) (q : ℕ) where
  -- the same of a step that a message makes
  abbrev Replies : Msg → PartStep → Type 0
  Replies m x = Answers d q m x.sends

  body_replies : (p : Part) → d.part ≡ Some p → (m : Msg) → m.conf ≡ p.conf → (b : Body) → m.body ≡ b → Replies m (on_body me p v q b)
  body_replies p has m here (body.Confirm n number) says =
      by (is_same_ballot p.promised n) refl
    where
      by : (t : Bool) → is_same_ballot p.promised n ≡ t → Answers d q m (cond t (saying v.role (message p.conf q (body.Confirmed n number) ∷ [])) (nothing v.role)).sends
      by true e = (inr (inl (record { ballot = n; number = number; part = p; has = has; promised = e; here = here; asks = says; back = refl; conf = refl; says = refl })), tt)
      by false e = tt
  body_replies p has m here (body.Confirmed n number) says = tt
  body_replies p has m here (body.Watch w) says = tt
  body_replies p has m here (body.HeartbeatRequest round) says = (inl tt, tt)
  body_replies p has m here (body.HeartbeatReply round b flag) says = tt
  body_replies p has m here (body.Prepare n na nl nd) says = plain_answers d q m _ (body_plain me p v q (body.Prepare n na nl nd) tt)
  body_replies p has m here (body.Promise n fa fl fd s es) says = plain_answers d q m _ (body_plain me p v q (body.Promise n fa fl fd s es) tt)
  body_replies p has m here (body.AcceptSync n x es) says = plain_answers d q m _ (body_plain me p v q (body.AcceptSync n x es) tt)
  body_replies p has m here (body.PromisePart n part) says = plain_answers d q m _ (body_plain me p v q (body.PromisePart n part) tt)
  body_replies p has m here (body.AcceptSyncPart n part) says = plain_answers d q m _ (body_plain me p v q (body.AcceptSyncPart n part) tt)
  body_replies p has m here (body.BasePiece x) says = tt
  body_replies p has m here (body.Accept n at es) says = plain_answers d q m _ (body_plain me p v q (body.Accept n at es) tt)
  body_replies p has m here (body.Accepted n x) says = plain_answers d q m _ (body_plain me p v q (body.Accepted n x) tt)
  body_replies p has m here (body.Decide n x) says = plain_answers d q m _ (body_plain me p v q (body.Decide n x) tt)
  body_replies p has m here body.PrepareReq says = plain_answers d q m _ (body_plain me p v q body.PrepareReq tt)
  body_replies p has m here (body.Refuse n b) says = tt
  body_replies p has m here (body.Forward e) says = plain_answers d q m _ (body_plain me p v q (body.Forward e) tt)
  body_replies p has m here (body.Forwards es) says = plain_answers d q m _ (body_plain me p v q (body.Forwards es) tt)
  body_replies p has m here (body.TrimAsk n) says = plain_answers d q m _ (body_plain me p v q (body.TrimAsk n) tt)
  body_replies p has m here (body.Progress n x) says = plain_answers d q m _ (body_plain me p v q (body.Progress n x) tt)
  body_replies p has m here (body.Trim x) says = plain_answers d q m _ (body_plain me p v q (body.Trim x) tt)
  body_replies p has m here (body.NextConf members olds len trimmed) says = tt
  body_replies p has m here body.AskBase says = tt
  body_replies p has m here (body.BasePart at bytes) says = tt
  body_replies p has m here (body.AskSegment from to) says = tt
  body_replies p has m here (body.Segment at es) says = tt

  part_replies : (o : Option Part) → d.part ≡ o → (m : Msg) → Replies m (message_at me o v q m)
  part_replies None has m = tt
  part_replies (Some p) has m = by (eqb m.conf p.conf && is_admitted_body p m.body) refl
    where
      by : (t : Bool) → (eqb m.conf p.conf && is_admitted_body p m.body) ≡ t → Replies m (cond t (on_body me p v q m.body) (remembering v []))
      by true e = body_replies p has m (eqb-true m.conf p.conf (and_parts (eqb m.conf p.conf) (is_admitted_body p m.body) e).0) m.body refl
      by false e = tt

  of_body : (m : Msg) (b : Body) → m.body ≡ b → Replies m (message_at me d.part v q (record { conf = m.conf; body = b }))
  of_body m b e = subst (λ (z : Body). Replies m (message_at me d.part v q (record { conf = m.conf; body = z }))) e (part_replies d.part refl m)

  latest_replies : (m : Msg) (b : Body) → m.body ≡ b → Replies m (on_latest me d v q m.conf b)
  latest_replies m (body.NextConf members olds len trimmed) says =
      either (Replies m) (is_member nat_eq members me && nat_lt (latest_of d) m.conf) (storing_news v (joins d.joining q m.conf members olds len trimmed)) (storing v []) tt tt
  latest_replies m body.AskBase says = plain_answers d q m _ (base_plain d.closed)
    where
      base_plain : (o : Option Closed) → ArePlain (gives_base o q m.conf)
      base_plain None = tt
      base_plain (Some l) = either ArePlain (l.conf + 1 == m.conf) _ [] (bases_plain m.conf q l.trimmed l.base) tt
  latest_replies m (body.AskSegment from to) says = plain_answers d q m _ (segment_plain d.closed)
    where
      segment_plain : (o : Option Closed) → ArePlain (gives_segment o q m.conf from to)
      segment_plain None = tt
      segment_plain (Some l) =
          either ArePlain (l.conf + 1 == m.conf && is_within l from to) _ [] (runs_plain (λ at run. body.Segment at run) (λ at run. tt) m.conf q from (cut (closed_entries l from to))) tt
  latest_replies m (body.HeartbeatRequest r) says = of_body m (body.HeartbeatRequest r) says
  latest_replies m (body.HeartbeatReply r z g) says = of_body m (body.HeartbeatReply r z g) says
  latest_replies m (body.Prepare z na nl nd) says = of_body m (body.Prepare z na nl nd) says
  latest_replies m (body.Promise z fa fl fd a es) says = of_body m (body.Promise z fa fl fd a es) says
  latest_replies m (body.AcceptSync z g es) says = of_body m (body.AcceptSync z g es) says
  latest_replies m (body.PromisePart z part) says = of_body m (body.PromisePart z part) says
  latest_replies m (body.AcceptSyncPart z part) says = of_body m (body.AcceptSyncPart z part) says
  latest_replies m (body.BasePiece x) says = piece_plain d.joining
    where
      piece_plain : (o : Option Joining) → Replies m (on_base_piece o v m.conf x)
      piece_plain None = tt
      piece_plain (Some j) = either (Replies m) (takes_piece j m.conf x) _ _ tt tt
  latest_replies m (body.Accept z a es) says = of_body m (body.Accept z a es) says
  latest_replies m (body.Accepted z g) says = of_body m (body.Accepted z g) says
  latest_replies m (body.Decide z g) says = of_body m (body.Decide z g) says
  latest_replies m body.PrepareReq says = of_body m body.PrepareReq says
  latest_replies m (body.Refuse z g) says = of_body m (body.Refuse z g) says
  latest_replies m (body.Forward g) says = of_body m (body.Forward g) says
  latest_replies m (body.Forwards g) says = of_body m (body.Forwards g) says
  latest_replies m (body.TrimAsk z) says = of_body m (body.TrimAsk z) says
  latest_replies m (body.Progress z g) says = of_body m (body.Progress z g) says
  latest_replies m (body.Trim g) says = of_body m (body.Trim g) says
  latest_replies m (body.BasePart at bytes) says = of_body m (body.BasePart at bytes) says
  latest_replies m (body.Segment at es) says = of_body m (body.Segment at es) says
  latest_replies m (body.Confirm z r) says = of_body m (body.Confirm z r) says
  latest_replies m (body.Confirmed z r) says = of_body m (body.Confirmed z r) says
  latest_replies m (body.Watch w) says = of_body m (body.Watch w) says

  newer_plain : (b : Body) → ArePlain (on_newer d q b)
  newer_plain b = either ArePlain (is_some d.joining || (is_of_joining b || is_prepare_req b)) [] (message (latest_of d) q body.PrepareReq ∷ []) tt (tt, tt)

  all_shown : (m : Msg) (sends : List (ℕ × Msg)) → ((s : ℕ × Msg) → IsAmong sends s → IsShown d q m s) → Answers d q m sends
  all_shown m [] f = tt
  all_shown m (s ∷ sends) f = (inr (inr (f s (inl refl))), all_shown m sends (λ x i. f x (inr i)))

  message_replies : (m : Msg) → Replies m (message_step me d v q m)
  message_replies m =
      let latest : PartStep = on_latest me d v q m.conf m.body in
      let newer : PartStep = remembering v (on_newer d q m.body) in
      let older : PartStep = remembering v (on_older d d.closed q) in
      let rest : PartStep = cond (nat_lt (latest_of d) m.conf && not (may_be_above m.body)) newer latest in
      either (Replies m) (is_watching m.body) (remembering v (watch_answers d q m.conf m.body)) (cond (is_some d.joining && not (is_of_joining m.body)) (remembering v []) (cond (nat_lt m.conf (latest_of d)) older rest))
      (all_shown m (watch_answers d q m.conf m.body) (λ s i. i))
      (either (Replies m) (is_some d.joining && not (is_of_joining m.body)) (remembering v []) (cond (nat_lt m.conf (latest_of d)) older rest) tt
      (either (Replies m) (nat_lt m.conf (latest_of d)) older rest (plain_answers d q m _ (older_plain d q d.closed))
      (either (Replies m) (nat_lt (latest_of d) m.conf && not (may_be_above m.body)) newer latest (plain_answers d q m _ (newer_plain m.body)) (latest_replies m m.body refl))))

-- ---- the other inputs

requests_plain : (me : ℕ) (p : Part) (round : ℕ) → ArePlain (requests me p round)
requests_plain me p round = each_plain p.conf (others me p.members) (body.HeartbeatRequest round) tt

verdict_plain : (me : ℕ) (p : Part) (v : Volatile) (e : Verdict) → StepIsPlain (by_verdict me p v e)
verdict_plain me p v verdict.Nobody = requests_plain me p v.round
verdict_plain me p v (verdict.Raised b) = requests_plain me p v.round
verdict_plain me p v (verdict.Elected n) =
    let leads = with_effects v (first [] (requests me p v.round) [] (lead me p v.role n)) in
    either StepIsPlain (n.pid == me) (elected me p v n) (only_asks me p v)
    (either StepIsPlain (is_below p.promised n) leads (only_asks me p v)
    (both_plain (requests me p v.round) _ (requests_plain me p v.round) (leading_plain me p v.role n)) (requests_plain me p v.round)) (requests_plain me p v.round)

segment_asked : (j : Joining) (q from to : ℕ) → ArePlain (ask_segment j q from to)
segment_asked j q from to = either ArePlain (nat_lt from to && not (is_some (held_run j.held.items from (to - from)))) (message j.conf q (body.AskSegment from to) ∷ []) [] (tt, tt) tt

parts_asked : (j : Joining) (at count i : ℕ) (qs : List ℕ) → ArePlain (ask_parts j at count i qs)
parts_asked j at count i [] = tt
parts_asked j at count i (q ∷ qs) = both_plain (ask_segment j q (part_start at j.len count i) (part_start at j.len count (i + 1))) _ (segment_asked j q (part_start at j.len count i) (part_start at j.len count (i + 1))) (parts_asked j at count (i + 1) qs)

asks_plain : (j : Joining) (b : Option Base) (donors : Donors) → ArePlain (asks_with j b donors)
asks_plain j (Some b) donors = parts_asked j b.0 _ 0 _
asks_plain j None [] = tt
asks_plain j None (a ∷ donors) = (tt, parts_asked j (base_donor a donors).1 _ 0 _)

tick_plain : (me : ℕ) (o : Option Part) (j : Option Joining) (v : Volatile) → StepIsPlain (tick_at me o j v)
tick_plain me None (Some j) v = asks_plain j j.base j.donors
tick_plain me (Some p) (Some j) v = asks_plain j j.base j.donors
tick_plain me None None v = tt
tick_plain me (Some p) None v =
    tick_cases StepIsPlain me p v (λ _. verdict_plain me p (begun_at me p v) (ended_at me p v).verdict)
    (λ _. both_plain (requests me p (begun_at me p v).round) (asks_heard me p v.heard) (requests_plain me p (begun_at me p v).round)
    (each_plain p.conf (filter (λ q. has_replied v.heard q) (others me p.members)) body.PrepareReq tt))

proposal_plain : (me : ℕ) (o : Option Part) (v : Volatile) (e : List Entry) (r : Option Refusal) → StepIsPlain (proposal_at me o v e r)
proposal_plain me o v e (Some r) = tt
proposal_plain me None v e None = tt
proposal_plain me (Some p) v e None = proposing_plain me p v.role e

trim_now_plain : (me : ℕ) (o : Option Part) (v : Volatile) → StepIsPlain (trim_at me o v)
trim_now_plain me None v = tt
trim_now_plain me (Some p) v = asked_plain me p v.role

up_plain : (me : ℕ) (d : Durable) (o : Option Part) (j : Option Joining) (v : Volatile) (q : ℕ) → StepIsPlain (up_at me d o j v q)
up_plain me d None None v q = older_plain d q d.closed
up_plain me d None (Some j) v q = tt
up_plain me d (Some p) (Some j) v q = tt
up_plain me d (Some p) None v q = either Plain (is_member nat_eq (others me p.members) q) (saying v.role (message p.conf q body.PrepareReq ∷ [])) (nothing v.role) (tt, tt) tt

-- what a step sends: where a message comes, what it asks perhaps
abbrev pub Says : Durable → Input → List (ℕ × Msg) → Type 0
Says d (input.Deliver q m) sends = Answers d q m sends
Says d x sends = ArePlain sends

says_plain : (d : Durable) (x : Input) (sends : List (ℕ × Msg)) → ArePlain sends → Says d x sends
says_plain d input.Tick sends k = k
says_plain d (input.Deliver q m) sends k = plain_answers d q m sends k
says_plain d (input.Commands cs) sends k = k
says_plain d (input.Stop members) sends k = k
says_plain d input.TrimNow sends k = k
says_plain d (input.Read r) sends k = k
says_plain d (input.Up q) sends k = k
says_plain d (input.Down q) sends k = k

says_both : (d : Durable) (x : Input) (xs ys : List (ℕ × Msg)) → Says d x xs → ArePlain ys → Says d x (xs ++ ys)
says_both d input.Tick xs ys k l = both_plain xs ys k l
says_both d (input.Deliver q m) xs ys k l = Each-append (IsAnswer d q m) xs ys k (plain_answers d q m ys l)
says_both d (input.Commands cs) xs ys k l = both_plain xs ys k l
says_both d (input.Stop members) xs ys k l = both_plain xs ys k l
says_both d input.TrimNow xs ys k l = both_plain xs ys k l
says_both d (input.Read r) xs ys k l = both_plain xs ys k l
says_both d (input.Up q) xs ys k l = both_plain xs ys k l
says_both d (input.Down q) xs ys k l = both_plain xs ys k l

row_says : (me : ℕ) (d : Durable) (v : Volatile) (x : Input) → Says d x (step_at me d v x).sends
row_says me d v input.Tick = tick_plain me d.part d.joining v
row_says me d v (input.Deliver q m) = message_replies me d v q m
row_says me d v (input.Commands cs) = proposal_plain me d.part v (entries_of cs) (refusal_of me v.role d (entries_of cs))
row_says me d v (input.Stop members) = proposal_plain me d.part v (entry.Stop (stop_for d.part members) ∷ []) (refusal_of me v.role d (entry.Stop (stop_for d.part members) ∷ []))
row_says me d v input.TrimNow = trim_now_plain me d.part v
row_says me d v (input.Read r) = tt
row_says me d v (input.Up q) = up_plain me d d.part d.joining v q
row_says me d v (input.Down q) = session_plain v.role q

module _ (me : ℕ) (s : State) (x : Input) where
  closing_says : (o : Option Part) (pl : Planned) → Says s.durable x pl.sends → Says s.durable x (closing me o pl).sends
  closing_says None pl k = k
  closing_says (Some p) pl k =
      let q : Part = part_after p pl.batch in
      let l : Closed = closed_by q in
      either (λ (y : Planned). Says s.durable x y.sends) (is_some (stop_at_end (decided_since p q))) (closing_part me q pl) pl
      (says_both s.durable x pl.sends _ k (each_plain (l.conf + 1) (new_members l) (next_conf_body l) tt)) k

  goes_says : (j : Joining) (batch : List Change) (b : Option Base) (es : Option (List Entry)) → ArePlain (goes_on_if me s j batch b es).sends
  goes_says j batch None es = tt
  goes_says j batch (Some b) None = tt
  goes_says j batch (Some b) (Some es) = each_plain j.conf (others me j.members) body.PrepareReq tt

  holding_says : (batch : List Change) (o : Option Joining) → ArePlain (holding me s batch o).sends
  holding_says batch None = tt
  holding_says batch (Some j) = goes_says j batch j.base (cover_of j)

  bringing_says : (o : Option (List Change)) → Says s.durable x (step_bringing me s x o).sends
  bringing_says None = closing_says s.durable.part (planned s (waiting_at me s x) (step_at me s.durable s.volatile x)) (row_says me s.durable s.volatile x)
  bringing_says (Some batch) = says_plain s.durable x _ (holding_says batch (durable_after s.durable batch).joining)

  -- each step but for its reads
  pub table_says : Says s.durable x (table_plan me s x).sends
  table_says = bringing_says (brought_by s.durable s.volatile x)

-- an opening asks to be prepared alone
pub opening_plain : (me : ℕ) (d : Durable) → ArePlain (sends_after_restart me d)
opening_plain me d = by d.part d.joining
  where
    by : (o : Option Part) (j : Option Joining) → ArePlain (requests_to_prepare me o j)
    by None j = tt
    by (Some p) None = each_plain p.conf (others me p.members) body.PrepareReq tt
    by (Some p) (Some j) = tt

-- ---- what an observer is shown

-- it is to an observer
abbrev Watches : List (ℕ × Msg) → Type 0
Watches sends = Each (λ s. is_watching (s.1).body ≡ true) sends

module _ (q : ℕ) where
  bases_watch : (conf : ℕ) (members : List ℕ) (at : ℕ) (bytes : List ℕ) (from count : ℕ) → Watches (messages conf q (watch_pieces members at bytes from count))
  bases_watch conf members at bytes from zero = tt
  bases_watch conf members at bytes from (suc count) = (refl, bases_watch conf members at bytes (from + most_part_bytes) count)

  runs_watch : (conf from : ℕ) (runs : List (List Entry)) → Watches (messages conf q (map (λ run. body.Watch (watch.Shown from run)) runs))
  runs_watch conf from [] = tt
  runs_watch conf from (run ∷ runs) = (refl, runs_watch conf from runs)

  shown_watch : (o : Option Decided) (c from : ℕ) → Watches (shown_if o q c from)
  shown_watch None c from = tt
  shown_watch (Some k) c from =
      either Watches (nat_lt c k.conf || nat_lt from k.trimmed) (messages k.conf q (shown_base k)) (messages c q (shown_bodies from (drop (from - k.trimmed) k.entries)))
      (bases_watch k.conf k.members k.trimmed k.base 0 (piece_count (length k.base))) (runs_watch c from (take 1 (cut (drop (from - k.trimmed) k.entries))))

  answers_watch : (d : Durable) (o : Option Joining) (c from : ℕ) → Watches (answers_by o d q c from)
  answers_watch d None c from = shown_watch (decided_for d.part d.closed c) c from
  answers_watch d (Some j) c from = tt

  all_watch : (d : Durable) (c : ℕ) (b : Body) → Watches (watch_answers d q c b)
  all_watch d c (body.Watch (watch.Ask from)) = answers_watch d d.joining c from
  all_watch d c (body.Watch (watch.Shown at es)) = tt
  all_watch d c (body.Watch (watch.Base members x)) = tt
  all_watch d c _ = tt

pub one_among : {A : Type 0} (P : A → Type 0) (xs : List A) → Each P xs → (x : A) → IsAmong xs x → P x
one_among P [] e x i = absurd i
one_among P (y ∷ xs) e x (inl s) = subst P s e.0
one_among P (y ∷ xs) e x (inr i) = one_among P xs e.1 x i

pub shown_watches : (d : Durable) (q : ℕ) (m : Msg) (s : ℕ × Msg) → IsShown d q m s → is_watching (s.1).body ≡ true
shown_watches d q m s i = one_among (λ x. is_watching (x.1).body ≡ true) (watch_answers d q m.conf m.body) (all_watch q d m.conf m.body) s i
