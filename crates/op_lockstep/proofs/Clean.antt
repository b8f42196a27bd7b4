-- Where no log, no buffer and no message has a stop-sign, no step brings one: the rows.
use Rattle.std.proofs.Common.{◌≡◌, ◌&&◌, ◌||◌, ◌==◌, ◌-◌, ◌+◌, ℕ, Bool, true, false, cond, not, eqb, ltb, leb, nat_eq, min, is_some, List, [], ◌∷◌, ◌++◌, length, filter, flat_map, take, drop, Option, Some, None, sym, subst}
use Rattle.std.proofs.lemmas.Bool.{cond_both}
use Rattle.std.proofs.lemmas.List.Elements.{All-nil, All-cons, All-head, All-tail, All-append, All-take, All-drop, All-map}
use Rattle.std.specs.Set.{is_member}
use Rattle.op_types.specs.Ballots.{is_below, is_same_ballot}
use Rattle.op_types.specs.Changes.{IsCommand, len_of, part_with}
use Rattle.op_types.specs.Effects.{Effects}
use Rattle.op_types.specs.Cutting.{entries_size, cut, parts_from, whole_or_parts}
use Rattle.op_types.specs.Joinings.{Held, held_with, held_run}
use Rattle.op_types.specs.Limits.{positions_end, most_part_bytes}
use Rattle.op_types.specs.Stages.{front_from, staged_from}
use Rattle.op_types.proofs.Cuts.{joined, cut_joined}
use Rattle.op_types.specs.RoleStates.{Preparing, Leading, promise_of, with_promise, stage_of, stages_without, with_stage, without_stage, told_by, promised_entries, staged_with, with_buffered, with_synced, without_synced, with_acknowledged, with_report, without_reports}
use Rattle.op_types.specs.Roles.{Role}
use Rattle.op_types.specs.Roles as role
use Rattle.op_types.specs.declared.answers.Cause.TheVariants as cause
use Rattle.op_types.specs.declared.answers.Outcome.{Outcome}
use Rattle.op_types.specs.declared.answers.Outcome.TheVariants as outcome
use Rattle.op_types.specs.declared.answers.Refusal.{Refusal}
use Rattle.op_types.specs.declared.answers.Reply.{Reply}
use Rattle.op_types.specs.declared.ballot.Ballot.{Ballot}
use Rattle.op_types.specs.declared.changes.Change.{Change}
use Rattle.op_types.specs.declared.changes.Change.TheVariants as change
use Rattle.op_types.specs.declared.durable.Durable.{Durable}
use Rattle.op_types.specs.declared.durable.Joining.{Joining}
use Rattle.op_types.specs.declared.durable.Closed.{Closed}
use Rattle.op_types.specs.declared.durable.Part.{Part}
use Rattle.op_types.specs.declared.events.Input.{Input}
use Rattle.op_types.specs.declared.events.Input.TheVariants as input
use Rattle.op_types.specs.declared.log.Command.{Command}
use Rattle.op_types.specs.declared.log.Entry.{Entry}
use Rattle.op_types.specs.declared.log.Entry.TheVariants as entry
use Rattle.op_types.specs.declared.messages.Body.{Body}
use Rattle.op_types.specs.declared.messages.Body.TheVariants as body
use Rattle.op_types.specs.declared.messages.Msg.{Msg}
use Rattle.op_types.specs.declared.role.Buffered.{Buffered}
use Rattle.op_types.specs.declared.role.Promised.{Promised}
use Rattle.op_types.specs.declared.runs.PromisedRun.{PromisedRun}
use Rattle.op_types.specs.declared.runs.SyncRun.{SyncRun}
use Rattle.op_types.specs.declared.verdict.Verdict.{Verdict}
use Rattle.op_types.specs.declared.verdict.Verdict.TheVariants as verdict
use Rattle.op_protocol.specs.State.{Volatile, PartStep, raises_promise, with_effects}
use Rattle.op_protocol.specs.Parts.{part_after, pending, part_in_round, cutting, appending, log_from, message, messages, others, to_each, prepare_body, sync_bodies, sync_run, promise_bodies, promised_run, is_run_to, saying, nothing, first, answered, is_admitted_body}
use Rattle.op_protocol.specs.Promises.{has_quorum, is_usable, is_above, Choice, own_choice, choice_of, better, best, choice_changes, chosen_log, chosen_stop, chosen_len, fitting, left_over, stop_here}
use Rattle.op_protocol.specs.Leader.{counted, count, synced_others, sync_start, sync_sends, sends_by, is_synced, first_leading, leading_with, begin_leading, adopt, prepares, given_up_by, first_preparing, lead, on_promise, promised_once, on_promise_part, decided_again, on_accepted, on_prepare_req, extends, waiting_as, forward_body, propose, on_forward_leading, on_forward, session_down}
use Rattle.op_protocol.specs.Follower.{suffix_start, promise_higher, on_prepare, added_changes, accepts, accept_entries, on_accept, synced_changes, sync_entries, on_accept_sync, unstaged, synced_once, on_first_part, accept_front, appended_staged, on_later_part, on_accept_sync_part, on_decide}
use Rattle.op_protocol.specs.Trimming.{least_reported, trims, trims_reported, trims_if_all, trim_now, on_progress, on_trim_ask, on_trim}
use Rattle.op_protocol.specs.Tick.{requests, remembering, by_verdict, asks_heard, on_tick}
use Rattle.op_protocol.specs.Heartbeats.{has_replied}
use Rattle.op_protocol.proofs.TickCases.{ended_at, begun_at, tick_cases}
use Rattle.op_protocol.specs.Configurations.{latest_of}
use Rattle.op_protocol.specs.Joining.{on_base_piece, gives_base, gives_segment}
use Rattle.op_protocol.specs.Reading.{on_confirm}
use Rattle.op_protocol.specs.Rows.{on_body, message_at, is_of_joining, is_prepare_req, may_be_above, on_older, on_newer, on_latest, member_step, message_step, entries_of, proposal_at, refusal_of, tick_at, trim_at, session_up, up_at, step_at}
use Rattle.op_protocol.specs.Watched.{is_watching, watch_answers}
use Rattle.op_lockstep.proofs.Watched.{answers_hold}
use Rattle.op_lockstep.proofs.Staged.{NoStops, IsCleanStage, stage_clean, IfRun, run_clean, front_clean, filter_clean}
use Rattle.op_lockstep.proofs.Lists.{Each, Each-append, Each-flat_map, All-front, All-behind}

-- ---- what has no stop-sign
-- changes of a part that bring none
abbrev pub IsClean : Change → Type 0
IsClean (change.Promise n) = Unit {0}
IsClean (change.Accept n) = Unit {0}
IsClean (change.CutTo n) = Unit {0}
IsClean (change.Append es) = NoStops es
IsClean (change.Decided x) = Unit {0}
IsClean (change.Trim x base) = Unit {0}
IsClean _ = ⊥

-- messages: and nobody tells of a next configuration
abbrev pub IsCleanBody : Body → Type 0
IsCleanBody (body.Promise n fa fl fd s es) = NoStops es
IsCleanBody (body.AcceptSync n x es) = NoStops es
IsCleanBody (body.PromisePart n part) = NoStops part.run
IsCleanBody (body.AcceptSyncPart n part) = NoStops part.run
IsCleanBody (body.Accept n at es) = NoStops es
IsCleanBody (body.Forward e) = IsCommand e
IsCleanBody (body.Forwards es) = NoStops es
IsCleanBody (body.NextConf members olds len trimmed) = ⊥
IsCleanBody _ = Unit {0}

abbrev pub IsCleanSend : ℕ × Msg → Type 0
IsCleanSend s = IsCleanBody s.1.body

pub record IsCleanPreparing (r : Preparing) : Type 0 where
  pub promises : Each (λ k. NoStops k.entries) r.promises
  pub stages : Each (λ s. IsCleanStage s.1) r.stages
  pub buffer : Each (λ b. IsCommand b.entry) r.buffer

abbrev pub IsCleanRole : Role → Type 0
IsCleanRole role.Idle = Unit {0}
IsCleanRole (role.Preparing r) = IsCleanPreparing r
IsCleanRole (role.Leading l) = Unit {0}

pub record IsCleanRow (e : Effects) : Type 0 where
  pub batch : Each IsClean e.batch
  pub role : IsCleanRole e.role
  pub sends : Each IsCleanSend e.sends

-- what is kept in memory of a part
pub record IsCleanMemory (v : Volatile) : Type 0 where
  pub role : IsCleanRole v.role
  pub staged : IsCleanStage v.staged

pub record IsCleanStep (y : PartStep) : Type 0 where
  pub batch : Each IsClean y.batch
  pub memory : IsCleanMemory y.volatile
  pub sends : Each IsCleanSend y.sends

-- ---- small rows
clean_with : (v : Volatile) (e : Effects) → IsCleanStage v.staged → IsCleanRow e → IsCleanStep (with_effects v e)
clean_with v e k c =
    record {
      batch = c.batch;
      memory = record { role = c.role; staged = cond_both (raises_promise e.batch) [] v.staged IsCleanStage (λ _. tt) (λ _. k) };
      sends = c.sends;
    }

clean_remembering : (v : Volatile) (sends : List (ℕ × Msg)) → IsCleanMemory v → Each IsCleanSend sends → IsCleanStep (remembering v sends)
clean_remembering v sends r s = record { batch = tt; memory = r; sends = s }

clean_saying : (r : Role) (sends : List (ℕ × Msg)) → IsCleanRole r → Each IsCleanSend sends → IsCleanRow (saying r sends)
clean_saying r sends c s = record { batch = tt; role = c; sends = s }

clean_first : (batch : List Change) (sends : List (ℕ × Msg)) (replies : List Reply) (e : Effects) → Each IsClean batch → Each IsCleanSend sends → IsCleanRow e → IsCleanRow (first batch sends replies e)
clean_first batch sends replies e b s c = record { batch = Each-append IsClean batch e.batch b c.batch; role = c.role; sends = Each-append IsCleanSend sends e.sends s c.sends }

pub to_each_clean : (conf : ℕ) (qs : List ℕ) (b : Body) → IsCleanBody b → Each IsCleanSend (to_each conf qs b)
to_each_clean conf [] b c = tt
to_each_clean conf (q ∷ qs) b c = (c, to_each_clean conf qs b c)

messages_clean : (conf q : ℕ) (bodies : List Body) → Each IsCleanBody bodies → Each IsCleanSend (messages conf q bodies)
messages_clean conf q [] c = tt
messages_clean conf q (b ∷ bodies) c = (c.0, messages_clean conf q bodies c.1)

-- entries that go in parts
runs_clean : (part : ℕ → List Entry → Body) → ((at : ℕ) (run : List Entry) → NoStops run → IsCleanBody (part at run)) → (at : ℕ) (runs : List (List Entry)) → NoStops (joined runs) → Each IsCleanBody (parts_from part at runs)
runs_clean part f at [] c = tt
runs_clean part f at (run ∷ runs) c = (f at run (All-front IsCommand run (joined runs) c), runs_clean part f (at + length run) runs (All-behind IsCommand run (joined runs) c))

parts_clean : (whole : Body) (part : ℕ → List Entry → Body) (at : ℕ) (es : List Entry) → NoStops es → IsCleanBody whole → ((at : ℕ) (run : List Entry) → NoStops run → IsCleanBody (part at run))
    → Each IsCleanBody (whole_or_parts whole part at es)
parts_clean whole part at es c w f =
    cond_both (leb (entries_size es) most_part_bytes) (whole ∷ []) (parts_from part at (cut es)) (Each IsCleanBody) (λ _. (w, tt))
    (λ _. runs_clean part f at (cut es) (subst NoStops (sym (cut_joined es)) c))

cutting_clean : (p : Part) (x : ℕ) → Each IsClean (cutting p x)
cutting_clean p x = cond_both (ltb x (len_of p)) (change.CutTo x ∷ []) [] (Each IsClean) (λ _. (tt, tt)) (λ _. tt)

appending_clean : (es : List Entry) → NoStops es → Each IsClean (appending es)
appending_clean [] c = tt
appending_clean (e ∷ es) c = (c, tt)

-- ---- a leader
count_clean : (me : ℕ) (p : Part) (len : ℕ) (l : Leading) (otherwise : List (ℕ × Msg)) → Each IsCleanSend otherwise → IsCleanRow (count me p len l otherwise)
count_clean me p len l otherwise c =
    cond_both (ltb p.decided (counted me p.members len l.acknowledged)) _ _ IsCleanRow
    (λ _. record { batch = (tt, tt); role = tt; sends = to_each_clean p.conf (synced_others me p.members l) (body.Decide l.ballot (counted me p.members len l.acknowledged)) tt })
    (λ _. clean_saying (role.Leading l) otherwise tt c)

sync_clean : (p : Part) (l : Leading) (k : Promised) → NoStops p.tail.items → Each IsCleanSend (sync_sends p l k)
sync_clean p l k c =
    cond_both (ltb (sync_start l k) p.trimmed) _ _ (Each IsCleanSend) (λ _. (tt, tt))
    (λ _. cond_both (leb (sync_start l k) (len_of p)) _ _ (Each IsCleanSend) (λ _. messages_clean p.conf k.from (sync_bodies l.ballot (sync_start l k) (log_from p (sync_start l k))) from_there) (λ _. tt))
  where
    from_there : Each IsCleanBody (sync_bodies l.ballot (sync_start l k) (log_from p (sync_start l k)))
    from_there =
        let at : ℕ = sync_start l k in
        let es : List Entry = log_from p at in
        let d : NoStops es = All-drop IsCommand (at - p.trimmed) p.tail.items c in
        parts_clean (body.AcceptSync l.ballot at es) (λ pos run. body.AcceptSyncPart l.ballot (sync_run at es pos run)) at es d d (λ pos run n. n)

sends_clean : (p : Part) (l : Leading) (o : Option Promised) → NoStops p.tail.items → Each IsCleanSend (sends_by p l o)
sends_clean p l None c = tt
sends_clean p l (Some k) c = sync_clean p l k c

begin_clean : (me : ℕ) (p : Part) (l : Leading) (promises : List Promised) → NoStops p.tail.items → IsCleanRow (begin_leading me p l promises)
begin_clean me p l promises c =
    clean_first [] (flat_map (λ q. sends_by p l (promise_of promises q)) p.members) [] (count me p (len_of p) (leading_with p l promises) []) tt
    (Each-flat_map IsCleanSend (λ q. sends_by p l (promise_of promises q)) p.members (λ q _. sends_clean p l (promise_of promises q) c))
    (count_clean me p (len_of p) (leading_with p l promises) [] tt)

-- ---- what is adopted
abbrev IfClean : Option Promised → Type 0
IfClean None = Unit {0}
IfClean (Some k) = NoStops k.entries

promise_clean : (promises : List Promised) (q : ℕ) → Each (λ k. NoStops k.entries) promises → IfClean (promise_of promises q)
promise_clean [] q c = tt
promise_clean (k ∷ promises) q c = cond_both (eqb k.from q) (Some k) (promise_of promises q) IfClean (λ _. c.0) (λ _. promise_clean promises q c.1)

better_clean : (p : Part) (o : Option Promised) (c : Choice) → IfClean o → NoStops c.entries → NoStops (better p o c).entries
better_clean p None c k e = e
better_clean p (Some j) c k e = cond_both (is_usable p j && is_above j.accepted j.len c.accepted c.len) (choice_of j) c (λ (x : Choice). NoStops x.entries) (λ _. k) (λ _. e)

best_clean : (p : Part) (promises : List Promised) (qs : List ℕ) (c : Choice) → Each (λ k. NoStops k.entries) promises → NoStops c.entries → NoStops (best p promises qs c).entries
best_clean p promises [] c k e = e
best_clean p promises (q ∷ qs) c k e = best_clean p promises qs (better p (promise_of promises q) c) k (better_clean p (promise_of promises q) c (promise_clean promises q k) e)

fitting_clean : (stop : Option ℕ) (len : ℕ) (buffer : List Buffered) → Each (λ b. IsCommand b.entry) buffer → NoStops (fitting stop len buffer)
fitting_clean (Some pos) len buffer c = All-nil IsCommand
fitting_clean None len [] c = All-nil IsCommand
fitting_clean None len (b ∷ buffer) c =
    cond_both (ltb len positions_end) (b.entry ∷ fitting (stop_here b.entry len) (len + 1) buffer) [] NoStops
    (λ _. All-cons IsCommand b.entry (fitting (stop_here b.entry len) (len + 1) buffer) c.0 (fitting_clean (stop_here b.entry len) (len + 1) buffer c.1)) (λ _. All-nil IsCommand)

adopt_clean : (me : ℕ) (p : Part) (r : Preparing) → NoStops p.tail.items → IsCleanPreparing r → IsCleanRow (adopt me p r)
adopt_clean me p r c k =
    let x : Choice = best p r.promises p.members (own_choice p) in
    let entries : NoStops x.entries = best_clean p r.promises p.members (own_choice p) k.promises (All-nil IsCommand) in
    let more : List Entry = fitting (chosen_stop p x) (chosen_len p x) r.buffer in
    let fit : NoStops more = fitting_clean (chosen_stop p x) (chosen_len p x) r.buffer k.buffer in
    let log : NoStops (chosen_log p x) = All-append IsCommand (take (x.start - p.trimmed) p.tail.items) x.entries (All-take IsCommand (x.start - p.trimmed) p.tail.items c) entries in
    clean_first (choice_changes p x ++ appending more ++ change.Accept r.ballot ∷ []) [] (left_over (chosen_stop p x) (chosen_len p x) r.buffer)
    (begin_leading me (part_in_round p r.ballot (chosen_log p x ++ more)) (first_leading r.ballot x) r.promises)
    (Each-append IsClean (choice_changes p x ++ appending more) (change.Accept r.ballot ∷ [])
    (Each-append IsClean (choice_changes p x) (appending more) (Each-append IsClean (cutting p x.start) (appending x.entries) (cutting_clean p x.start) (appending_clean x.entries entries)) (appending_clean more fit)) (tt, tt))
    tt
    (begin_clean me (part_in_round p r.ballot (chosen_log p x ++ more)) (first_leading r.ballot x) r.promises (All-append IsCommand (chosen_log p x) more log fit))

prepares_clean : (me : ℕ) (p : Part) (r : Preparing) → NoStops p.tail.items → IsCleanPreparing r → IsCleanRow (prepares me p r)
prepares_clean me p r c k = cond_both (has_quorum me p.members r.promises) _ _ IsCleanRow (λ _. adopt_clean me p r c k) (λ _. clean_saying (role.Preparing r) [] k tt)

lead_clean : (me : ℕ) (p : Part) (r : Role) (n : Ballot) → NoStops p.tail.items → IsCleanRow (lead me p r n)
lead_clean me p r n c =
    let q : Part = part_with p (change.Promise n) in
    let x : Preparing = first_preparing n in
    clean_first (change.Promise n ∷ []) (to_each p.conf (others me p.members) (prepare_body p n)) (given_up_by r (cause.Ballot n)) (prepares me q x)
    (tt, tt) (to_each_clean p.conf (others me p.members) (prepare_body p n) tt) (prepares_clean me q x c (record { promises = tt; stages = tt; buffer = tt }))

promise_row : (me : ℕ) (p : Part) (r : Role) (n : Ballot) (k : Promised) → NoStops p.tail.items → IsCleanRole r → NoStops k.entries → IsCleanRow (on_promise me p r n k)
promise_row me p role.Idle n k c x e = clean_saying role.Idle [] tt tt
promise_row me p (role.Preparing r) n k c x e =
    cond_both (is_same_ballot n r.ballot && is_usable p k) _ _ IsCleanRow
    (λ _. prepares_clean me p (with_promise r k) c
    (record {
      promises =
          Each-append (λ j. NoStops j.entries) (filter (λ j. not (j.from == k.from)) r.promises) (k ∷ [])
          (filter_clean (λ j. NoStops j.entries) (λ j. not (j.from == k.from)) r.promises x.promises) (e, tt);
      stages = x.stages;
      buffer = x.buffer;
    }))
    (λ _. clean_saying (role.Preparing r) [] x tt)
promise_row me p (role.Leading l) n k c x e =
    cond_both (is_same_ballot n l.ballot) _ _ IsCleanRow (λ _. clean_saying (role.Leading (cond (is_synced p l k) (with_synced l k.from) l)) (sync_sends p l k) tt (sync_clean p l k c))
    (λ _. clean_saying (role.Leading l) [] tt tt)

-- promises in parts
found_clean : (stages : List (ℕ × Held)) (q : ℕ) → Each (λ s. IsCleanStage s.1) stages → IsCleanStage (stage_of stages q)
found_clean [] q c = tt
found_clean (s ∷ stages) q c = cond_both (eqb s.0 q) s.1 (stage_of stages q) IsCleanStage (λ _. c.0) (λ _. found_clean stages q c.1)

others_clean : (r : Preparing) (q : ℕ) → IsCleanPreparing r → Each (λ s. IsCleanStage s.1) (stages_without r.stages q)
others_clean r q k = filter_clean (λ s. IsCleanStage s.1) (λ s. not (s.0 == q)) r.stages k.stages

once_row : (me : ℕ) (p : Part) (r : Preparing) (q : ℕ) (part : PromisedRun) (held : Held) (o : Option (List Entry)) → NoStops p.tail.items → IsCleanPreparing r → IsCleanStage held → IfRun o → IsCleanRow (promised_once me p r q part held o)
once_row me p r q part held None c k s x =
    clean_saying (role.Preparing (with_stage r q held)) []
    (record { promises = k.promises; stages = Each-append (λ s. IsCleanStage s.1) (stages_without r.stages q) ((q, held) ∷ []) (others_clean r q k) (s, tt); buffer = k.buffer }) tt
once_row me p r q part held (Some es) c k s x =
    promise_row me p (role.Preparing (without_stage r q)) r.ballot (told_by q part es) c (record { promises = k.promises; stages = others_clean r q k; buffer = k.buffer }) x

promise_part_row : (me : ℕ) (p : Part) (r : Role) (q : ℕ) (n : Ballot) (part : PromisedRun) → NoStops p.tail.items → IsCleanRole r → NoStops part.run → IsCleanRow (on_promise_part me p r q n part)
promise_part_row me p role.Idle q n part c k x = clean_saying role.Idle [] tt tt
promise_part_row me p (role.Preparing r) q n part c k x =
    let held : Held = staged_with r q part in
    let staged : IsCleanStage held = stage_clean (stage_of r.stages q) part.at part.run (found_clean r.stages q k.stages) x in
    cond_both (is_same_ballot n r.ballot && (leb part.start part.at && is_run_to part.len part.at part.run)) (promised_once me p r q part held (promised_entries part held)) (nothing (role.Preparing r)) IsCleanRow
    (λ _. once_row me p r q part held (promised_entries part held) c k staged (run_clean held part.start (part.len - part.start) staged)) (λ _. clean_saying (role.Preparing r) [] k tt)
promise_part_row me p (role.Leading l) q n part c k x =
    cond_both (eqb (part.at + length part.run) part.len) (on_promise me p (role.Leading l) n (told_by q part [])) (nothing (role.Leading l)) IsCleanRow
    (λ _. promise_row me p (role.Leading l) n (told_by q part []) c tt (All-nil IsCommand)) (λ _. clean_saying (role.Leading l) [] tt tt)

again_clean : (p : Part) (q : ℕ) (n : Ballot) → Each IsCleanSend (decided_again p q n)
again_clean p q n = cond_both (ltb 0 p.decided) _ _ (Each IsCleanSend) (λ _. (tt, tt)) (λ _. tt)

accepted_row : (me : ℕ) (p : Part) (r : Role) (q : ℕ) (n : Ballot) (x : ℕ) → IsCleanRole r → IsCleanRow (on_accepted me p r q n x)
accepted_row me p role.Idle q n x c = clean_saying role.Idle [] tt tt
accepted_row me p (role.Preparing r) q n x c = clean_saying (role.Preparing r) [] c tt
accepted_row me p (role.Leading l) q n x c =
    cond_both (is_same_ballot n l.ballot && leb x (len_of p)) _ _ IsCleanRow
    (λ _. count_clean me p (len_of p) (with_acknowledged l (record { from = q; len = x })) (decided_again p q l.ballot) (again_clean p q l.ballot)) (λ _. clean_saying (role.Leading l) [] tt tt)

prepare_req_row : (p : Part) (r : Role) (q : ℕ) → IsCleanRole r → IsCleanRow (on_prepare_req p r q)
prepare_req_row p role.Idle q c = clean_saying role.Idle [] tt tt
prepare_req_row p (role.Preparing r) q c = clean_saying (role.Preparing r) (message p.conf q (prepare_body p r.ballot) ∷ []) c (tt, tt)
prepare_req_row p (role.Leading l) q c = clean_saying (role.Leading l) (message p.conf q (prepare_body p l.ballot) ∷ []) tt (tt, tt)

extends_clean : (me : ℕ) (p : Part) (l : Leading) (es : List Entry) → NoStops es → IsCleanRow (extends me p l es)
extends_clean me p l es c =
    clean_first (change.Append es ∷ []) (to_each p.conf (synced_others me p.members l) (body.Accept l.ballot (len_of p) es)) [] (count me p (len_of p + length es) l [])
    (c, tt) (to_each_clean p.conf (synced_others me p.members l) (body.Accept l.ballot (len_of p) es) c) (count_clean me p (len_of p + length es) l [] tt)

waiting_clean : (own : Bool) (es : List Entry) → NoStops es → Each (λ b. IsCommand b.entry) (waiting_as own es)
waiting_clean own [] c = tt
waiting_clean own (e ∷ es) c = (All-head IsCommand e es c, waiting_clean own es (All-tail IsCommand e es c))

buffered_clean : (r : Preparing) (own : Bool) (es : List Entry) → IsCleanPreparing r → NoStops es → IsCleanPreparing (with_buffered r (waiting_as own es))
buffered_clean r own es k c =
    record { promises = k.promises; stages = k.stages; buffer = Each-append (λ b. IsCommand b.entry) r.buffer (waiting_as own es) k.buffer (waiting_clean own es c) }

forward_body_clean : (es : List Entry) → NoStops es → IsCleanBody (forward_body es)
forward_body_clean [] c = c
forward_body_clean (e ∷ []) c = All-head IsCommand e [] c
forward_body_clean (e ∷ (d ∷ es)) c = c

clean_answered : (o : Outcome) (e : Effects) → IsCleanRow e → IsCleanRow (answered o e)
clean_answered o e c = record { batch = c.batch; role = c.role; sends = c.sends }

propose_row : (me : ℕ) (p : Part) (r : Role) (es : List Entry) → IsCleanRole r → NoStops es → IsCleanRow (propose me p r es)
propose_row me p role.Idle es k c = record { batch = tt; role = tt; sends = (forward_body_clean es c, tt) }
propose_row me p (role.Preparing r) es k c = record { batch = tt; role = buffered_clean r true es k c; sends = tt }
propose_row me p (role.Leading l) es k c = clean_answered (outcome.Appended p.conf (len_of p)) (extends me p l es) (extends_clean me p l es c)

leading_forward : (me : ℕ) (p : Part) (l : Leading) (es : List Entry) (o : Option ℕ) → NoStops es → IsCleanRow (on_forward_leading me p l es o)
leading_forward me p l es (Some pos) c = clean_saying (role.Leading l) [] tt tt
leading_forward me p l es None c = cond_both (leb (len_of p + length es) positions_end) _ _ IsCleanRow (λ _. extends_clean me p l es c) (λ _. clean_saying (role.Leading l) [] tt tt)

forward_row : (me : ℕ) (p : Part) (r : Role) (es : List Entry) → IsCleanRole r → NoStops es → IsCleanRow (on_forward me p r es)
forward_row me p role.Idle es k c = clean_saying role.Idle [] tt tt
forward_row me p (role.Preparing r) es k c = record { batch = tt; role = buffered_clean r false es k c; sends = tt }
forward_row me p (role.Leading l) es k c = leading_forward me p l es (pending p) c

down_row : (r : Role) (q : ℕ) → IsCleanRole r → IsCleanRow (session_down r q)
down_row role.Idle q c = clean_saying role.Idle [] tt tt
down_row (role.Preparing r) q c = clean_saying (role.Preparing r) [] c tt
down_row (role.Leading l) q c = clean_saying (role.Leading (without_synced l q)) [] tt tt

-- ---- a follower
higher_clean : (p : Part) (r : Role) (n : Ballot) → IsCleanRole r → IsCleanRow (promise_higher p r n)
higher_clean p r n c = cond_both (is_below p.promised n) _ _ IsCleanRow (λ _. record { batch = (tt, tt); role = tt; sends = tt }) (λ _. clean_saying r [] c tt)

prepare_row : (p : Part) (r : Role) (q : ℕ) (n na : Ballot) (nl nd : ℕ) → NoStops p.tail.items → IsCleanRole r → IsCleanRow (on_prepare p r q n na nl nd)
prepare_row p r q n na nl nd c k =
    let s : ℕ = suffix_start p na nl nd in
    cond_both (is_below n p.promised) _ _ IsCleanRow (λ _. clean_saying r (message p.conf q (body.Refuse n p.promised) ∷ []) k (tt, tt))
    (λ _. cond_both (ltb s p.trimmed) _ _ IsCleanRow (λ _. clean_saying r [] k tt)
    (λ _. clean_first [] (messages p.conf q (promise_bodies p n s)) [] (promise_higher p r n) tt (messages_clean p.conf q (promise_bodies p n s) told) (higher_clean p r n k)))
  where
    told : Each IsCleanBody (promise_bodies p n (suffix_start p na nl nd))
    told =
        let s : ℕ = suffix_start p na nl nd in
        let es : List Entry = log_from p s in
        let d : NoStops es = All-drop IsCommand (s - p.trimmed) p.tail.items c in
        parts_clean (body.Promise n p.accepted (len_of p) p.decided s es) (λ at run. body.PromisePart n (promised_run p s at run)) s es d d (λ at run x. x)

accepts_clean : (p : Part) (r : Role) (q : ℕ) (n : Ballot) (batch : List Change) → IsCleanRole r → Each IsClean batch → IsCleanRow (accepts p r q n batch)
accepts_clean p r q n batch k c = clean_first batch (message p.conf q (body.Accepted n (len_of (part_after p batch))) ∷ []) [] (nothing r) c (tt, tt) (clean_saying r [] k tt)

entries_clean : (p : Part) (r : Role) (q : ℕ) (n : Ballot) (at : ℕ) (es : List Entry) → IsCleanRole r → NoStops es → IsCleanRow (accept_entries p r q n at es)
entries_clean p r q n at es k c =
    cond_both (ltb (len_of p) at) _ _ IsCleanRow (λ _. clean_saying r (message p.conf q body.PrepareReq ∷ []) k (tt, tt))
    (λ _. accepts_clean p r q n (added_changes p at es) k (appending_clean (drop (len_of p - at) es) (All-drop IsCommand (len_of p - at) es c)))

accept_row : (p : Part) (r : Role) (q : ℕ) (n : Ballot) (at : ℕ) (es : List Entry) → IsCleanRole r → NoStops es → IsCleanRow (on_accept p r q n at es)
accept_row p r q n at es k c =
    cond_both (is_same_ballot p.promised n && is_same_ballot p.accepted n) _ _ IsCleanRow (λ _. entries_clean p r q n at es k c) (λ _. clean_saying r [] k tt)

sync_row : (p : Part) (r : Role) (q : ℕ) (n : Ballot) (x : ℕ) (es : List Entry) → IsCleanRole r → NoStops es → IsCleanRow (sync_entries p r q n x es)
sync_row p r q n x es k c =
    cond_both (leb p.decided x && leb x (len_of p)) _ _ IsCleanRow
    (λ _. accepts_clean p r q n (synced_changes p n x es) k
    (Each-append IsClean (cutting p x ++ appending es) (change.Accept n ∷ []) (Each-append IsClean (cutting p x) (appending es) (cutting_clean p x) (appending_clean es c)) (tt, tt)))
    (λ _. clean_saying r [] k tt)

accept_sync_row : (p : Part) (r : Role) (q : ℕ) (n : Ballot) (x : ℕ) (es : List Entry) → IsCleanRole r → NoStops es → IsCleanRow (on_accept_sync p r q n x es)
accept_sync_row p r q n x es k c =
    cond_both (is_same_ballot p.promised n && is_below p.accepted n) _ _ IsCleanRow (λ _. sync_row p r q n x es k c) (λ _. accept_row p r q n x es k c)

-- ---- parts of a leader's log
module _ (p : Part) (v : Volatile) (q : ℕ) (n : Ballot) (k : IsCleanMemory v) where
  still_step : IsCleanStep (with_effects v (nothing v.role))
  still_step = clean_with v (nothing v.role) k.staged (clean_saying v.role [] k.role tt)

  unstaged_step : (held : Held) (e : Effects) → IsCleanStage held → IsCleanRow e → IsCleanStep (unstaged p v held e)
  unstaged_step held e s c =
      let len : ℕ = len_of (part_after p e.batch) in
      clean_with (record v { staged = staged_from held len }) e (filter_clean (λ x. IsCommand x.1) (λ x. leb len x.0) held s) c

  synced_step : (start : ℕ) (held : Held) (o : Option (List Entry)) → IsCleanStage held → IfRun o → IsCleanStep (synced_once p v q n start held o)
  synced_step start held None s x = clean_with (record v { staged = held }) (nothing v.role) s (clean_saying v.role [] k.role tt)
  synced_step start held (Some es) s x = unstaged_step held (sync_entries p v.role q n start es) s (sync_row p v.role q n start es k.role x)

  front_row : (at : ℕ) (es : List Entry) → NoStops es → IsCleanRow (accept_front p v.role q n at es)
  front_row at es c =
      let len : ℕ = len_of (part_after p (appending es)) in
      clean_first (appending es) (message p.conf q (cond (ltb len at) body.PrepareReq (body.Accepted n len)) ∷ []) [] (nothing v.role) (appending_clean es c)
      (cond_both (ltb len at) body.PrepareReq (body.Accepted n len) (λ (b : Body). Each IsCleanSend (message p.conf q b ∷ [])) (λ _. (tt, tt)) (λ _. (tt, tt))) (clean_saying v.role [] k.role tt)

  sync_part_step : (part : SyncRun) → NoStops part.run → IsCleanStep (on_accept_sync_part p v q n part)
  sync_part_step part c =
      let held : Held = held_with v.staged part.at part.run in
      let s : IsCleanStage held = stage_clean v.staged part.at part.run k.staged c in
      let whole : Option (List Entry) = held_run held part.start (part.end - part.start) in
      let front : List Entry = front_from held (len_of p) in
      cond_both (is_same_ballot p.promised n && is_below p.accepted n) (on_first_part p v q n part) (on_later_part p v q n part) IsCleanStep
      (λ _. cond_both ((leb p.decided part.start && leb part.start (len_of p)) && (leb part.start part.at && is_run_to part.end part.at part.run)) (synced_once p v q n part.start held whole) (with_effects v (nothing v.role)) IsCleanStep
      (λ _. synced_step part.start held whole s (run_clean held part.start (part.end - part.start) s)) (λ _. still_step))
      (λ _. cond_both (is_same_ballot p.promised n && (is_same_ballot p.accepted n && is_run_to part.end part.at part.run)) (appended_staged p v q n part.at held) (with_effects v (nothing v.role)) IsCleanStep
      (λ _. unstaged_step held (accept_front p v.role q n part.at front) s (front_row part.at front (front_clean held (length held) (len_of p) s))) (λ _. still_step))

decide_row : (p : Part) (r : Role) (n : Ballot) (x : ℕ) → IsCleanRole r → IsCleanRow (on_decide p r n x)
decide_row p r n x k =
    cond_both (is_same_ballot p.promised n && (is_same_ballot p.accepted n && ltb p.decided (min x (len_of p)))) _ _ IsCleanRow
    (λ _. record { batch = (tt, tt); role = k; sends = tt }) (λ _. clean_saying r [] k tt)

-- ---- trimming
trims_clean : (me : ℕ) (p : Part) (l : Leading) (x : ℕ) → IsCleanRow (trims me p l x)
trims_clean me p l x =
    cond_both (ltb p.trimmed x) _ _ IsCleanRow
    (λ _. clean_first (change.Trim x [] ∷ []) (to_each p.conf (others me p.members) (body.Trim x)) [] (nothing (role.Leading l)) (tt, tt) (to_each_clean p.conf (others me p.members) (body.Trim x) tt) (clean_saying (role.Leading l) [] tt tt))
    (λ _. clean_saying (role.Leading l) [] tt tt)

reported_clean : (me : ℕ) (p : Part) (l : Leading) (o : Option ℕ) → IsCleanRow (trims_reported me p l o)
reported_clean me p l None = clean_saying (role.Leading l) [] tt tt
reported_clean me p l (Some x) = trims_clean me p (without_reports l) x

all_clean : (me : ℕ) (p : Part) (l : Leading) → IsCleanRow (trims_if_all me p l)
all_clean me p l = reported_clean me p l (least_reported l.reports (others me p.members) p.decided)

trim_now_row : (me : ℕ) (p : Part) (r : Role) → IsCleanRole r → IsCleanRow (trim_now me p r)
trim_now_row me p role.Idle c = record { batch = tt; role = tt; sends = tt }
trim_now_row me p (role.Preparing r) c = record { batch = tt; role = c; sends = tt }
trim_now_row me p (role.Leading l) c =
    clean_answered outcome.Asked (first [] (to_each p.conf (others me p.members) (body.TrimAsk l.ballot)) [] (trims_if_all me p (without_reports l)))
    (clean_first [] (to_each p.conf (others me p.members) (body.TrimAsk l.ballot)) [] (trims_if_all me p (without_reports l)) tt (to_each_clean p.conf (others me p.members) (body.TrimAsk l.ballot) tt) (all_clean me p (without_reports l)))

progress_row : (me : ℕ) (p : Part) (r : Role) (q : ℕ) (n : Ballot) (x : ℕ) → IsCleanRole r → IsCleanRow (on_progress me p r q n x)
progress_row me p role.Idle q n x c = clean_saying role.Idle [] tt tt
progress_row me p (role.Preparing r) q n x c = clean_saying (role.Preparing r) [] c tt
progress_row me p (role.Leading l) q n x c =
    cond_both (is_same_ballot n l.ballot) _ _ IsCleanRow (λ _. all_clean me p (with_report l (record { from = q; decided = x }))) (λ _. clean_saying (role.Leading l) [] tt tt)

trim_ask_row : (p : Part) (r : Role) (q : ℕ) (n : Ballot) → IsCleanRole r → IsCleanRow (on_trim_ask p r q n)
trim_ask_row p r q n c = cond_both (is_same_ballot p.promised n) _ _ IsCleanRow (λ _. clean_saying r (message p.conf q (body.Progress n p.decided) ∷ []) c (tt, tt)) (λ _. clean_saying r [] c tt)

trim_row : (p : Part) (r : Role) (x : ℕ) → IsCleanRole r → IsCleanRow (on_trim p r x)
trim_row p r x c =
    cond_both (ltb p.trimmed x && leb x p.decided) _ _ IsCleanRow (λ _. clean_first (change.Trim x [] ∷ []) [] [] (nothing r) (tt, tt) tt (clean_saying r [] c tt)) (λ _. clean_saying r [] c tt)

-- ---- reads
confirm_row : (p : Part) (r : Role) (q : ℕ) (n : Ballot) (number : ℕ) → IsCleanRole r → IsCleanRow (on_confirm p r q n number)
confirm_row p r q n number c = cond_both (is_same_ballot p.promised n) _ _ IsCleanRow (λ _. clean_saying r (message p.conf q (body.Confirmed n number) ∷ []) c (tt, tt)) (λ _. clean_saying r [] c tt)

-- ---- a tick
tick_step : (me : ℕ) (p : Part) (v : Volatile) → NoStops p.tail.items → IsCleanMemory v → IsCleanStep (on_tick me p v)
tick_step me p v c k =
    let u : Volatile = begun_at me p v in
    let r : IsCleanMemory u = record { role = k.role; staged = k.staged } in
    tick_cases IsCleanStep me p v (λ _. by_verdict_clean u (ended_at me p v).verdict r)
    (λ _. clean_remembering u (requests me p u.round ++ asks_heard me p v.heard) r
    (Each-append IsCleanSend (requests me p u.round) (asks_heard me p v.heard) (to_each_clean p.conf (others me p.members) (body.HeartbeatRequest u.round) tt)
    (to_each_clean p.conf (filter (λ q. has_replied v.heard q) (others me p.members)) body.PrepareReq tt)))
  where
    asks : (u : Volatile) → IsCleanMemory u → IsCleanStep (remembering u (requests me p u.round))
    asks u r = clean_remembering u (requests me p u.round) r (to_each_clean p.conf (others me p.members) (body.HeartbeatRequest u.round) tt)

    by_verdict_clean : (u : Volatile) (x : Verdict) → IsCleanMemory u → IsCleanStep (by_verdict me p u x)
    by_verdict_clean u verdict.Nobody r = asks u r
    by_verdict_clean u (verdict.Raised b) r = asks u r
    by_verdict_clean u (verdict.Elected n) r =
        cond_both (eqb n.pid me) _ _ IsCleanStep
        (λ _. cond_both (is_below p.promised n) _ _ IsCleanStep
        (λ _. clean_with u (first [] (requests me p u.round) [] (lead me p u.role n)) r.staged
        (clean_first [] (requests me p u.round) [] (lead me p u.role n) tt (to_each_clean p.conf (others me p.members) (body.HeartbeatRequest u.round) tt) (lead_clean me p u.role n c)))
        (λ _. clean_remembering _ (requests me p u.round) (record { role = r.role; staged = r.staged }) (to_each_clean p.conf (others me p.members) (body.HeartbeatRequest u.round) tt)))
        (λ _. asks u r)

-- ---- messages
body_step : (me : ℕ) (p : Part) (v : Volatile) (q : ℕ) (b : Body) → NoStops p.tail.items → IsCleanMemory v → IsCleanBody b → IsCleanStep (on_body me p v q b)
body_step me p v q (body.HeartbeatRequest round) c k x = clean_remembering v (message p.conf q (body.HeartbeatReply round v.own v.flag) ∷ []) k (tt, tt)
body_step me p v q (body.HeartbeatReply round b flag) c k x = record { batch = tt; memory = record { role = k.role; staged = k.staged }; sends = tt }
body_step me p v q (body.Prepare n na nl nd) c k x = clean_with v (on_prepare p v.role q n na nl nd) k.staged (prepare_row p v.role q n na nl nd c k.role)
body_step me p v q (body.Promise n fa fl fd s es) c k x =
    let j : Promised = record { from = q; accepted = fa; len = fl; decided = fd; start = s; entries = es } in
    clean_with v (on_promise me p v.role n j) k.staged (promise_row me p v.role n j c k.role x)
body_step me p v q (body.AcceptSync n at es) c k x = clean_with v (on_accept_sync p v.role q n at es) k.staged (accept_sync_row p v.role q n at es k.role x)
body_step me p v q (body.PromisePart n part) c k x = clean_with v (on_promise_part me p v.role q n part) k.staged (promise_part_row me p v.role q n part c k.role x)
body_step me p v q (body.AcceptSyncPart n part) c k x = sync_part_step p v q n k part x
body_step me p v q (body.Accept n at es) c k x = clean_with v (on_accept p v.role q n at es) k.staged (accept_row p v.role q n at es k.role x)
body_step me p v q (body.Accepted n at) c k x = clean_with v (on_accepted me p v.role q n at) k.staged (accepted_row me p v.role q n at k.role)
body_step me p v q (body.Decide n at) c k x = clean_with v (on_decide p v.role n at) k.staged (decide_row p v.role n at k.role)
body_step me p v q body.PrepareReq c k x = clean_with v (on_prepare_req p v.role q) k.staged (prepare_req_row p v.role q k.role)
body_step me p v q (body.Refuse n b) c k x = record { batch = tt; memory = record { role = k.role; staged = k.staged }; sends = tt }
body_step me p v q (body.Forward e) c k x = clean_with v (on_forward me p v.role (e ∷ [])) k.staged (forward_row me p v.role (e ∷ []) k.role (All-cons IsCommand e [] x (All-nil IsCommand)))
body_step me p v q (body.Forwards es) c k x = clean_with v (on_forward me p v.role es) k.staged (forward_row me p v.role es k.role x)
body_step me p v q (body.TrimAsk n) c k x = clean_with v (on_trim_ask p v.role q n) k.staged (trim_ask_row p v.role q n k.role)
body_step me p v q (body.Progress n at) c k x = clean_with v (on_progress me p v.role q n at) k.staged (progress_row me p v.role q n at k.role)
body_step me p v q (body.Trim at) c k x = clean_with v (on_trim p v.role at) k.staged (trim_row p v.role at k.role)
body_step me p v q (body.Confirm n number) c k x = clean_with v (on_confirm p v.role q n number) k.staged (confirm_row p v.role q n number k.role)
body_step me p v q _ c k x = clean_remembering v [] k tt

-- no stop-sign comes
abbrev pub IsCleanInput : Input → Type 0
IsCleanInput (input.Deliver q m) = IsCleanBody m.body
IsCleanInput (input.Stop members) = ⊥
IsCleanInput _ = Unit {0}

-- the part's log has no stop-sign, if there is a part
abbrev pub IsCleanPart : Option Part → Type 0
IsCleanPart None = Unit {0}
IsCleanPart (Some p) = NoStops p.tail.items

at_part : (me : ℕ) (o : Option Part) (v : Volatile) (q : ℕ) (m : Msg) → IsCleanPart o → IsCleanMemory v → IsCleanBody m.body → IsCleanStep (message_at me o v q m)
at_part me None v q m c k x = clean_remembering v [] k tt
at_part me (Some p) v q m c k x = cond_both (eqb m.conf p.conf && is_admitted_body p m.body) _ _ IsCleanStep (λ _. body_step me p v q m.body c k x) (λ _. clean_remembering v [] k tt)

module _ (me : ℕ) (d : Durable) (v : Volatile) (stays : d.joining ≡ None) (first_of_all : d.closed ≡ None) (c : IsCleanPart d.part) (k : IsCleanMemory v) where
  latest_step : (q conf : ℕ) (b : Body) → IsCleanBody b → IsCleanStep (on_latest me d v q conf b)
  latest_step q conf (body.NextConf members olds len trimmed) x = absurd x
  latest_step q conf body.AskBase x = clean_remembering v (gives_base d.closed q conf) k (subst (λ (o : Option Closed). Each IsCleanSend (gives_base o q conf)) (sym first_of_all) tt)
  latest_step q conf (body.AskSegment from to) x = clean_remembering v (gives_segment d.closed q conf from to) k (subst (λ (o : Option Closed). Each IsCleanSend (gives_segment o q conf from to)) (sym first_of_all) tt)
  latest_step q conf (body.BasePiece piece) x =
      subst (λ (j : Option Joining). IsCleanStep (on_base_piece j v conf piece)) (sym stays) (clean_remembering v [] k tt)
  latest_step q conf b x = at_part me d.part v q (record { conf = conf; body = b }) c k x

  newer_clean : (q : ℕ) (b : Body) → Each IsCleanSend (on_newer d q b)
  newer_clean q b = cond_both (is_some d.joining || (is_of_joining b || is_prepare_req b)) [] (message (latest_of d) q body.PrepareReq ∷ []) (Each IsCleanSend) (λ _. tt) (λ _. (tt, tt))

  member_clean : (q : ℕ) (m : Msg) → IsCleanBody m.body → IsCleanStep (member_step me d v q m)
  member_clean q m x =
      cond_both (is_some d.joining && not (is_of_joining m.body)) _ _ IsCleanStep (λ _. clean_remembering v [] k tt)
      (λ _. cond_both (ltb m.conf (latest_of d)) _ _ IsCleanStep
      (λ _. clean_remembering v (on_older d d.closed q) k (subst (λ (o : Option Closed). Each IsCleanSend (on_older d o q)) (sym first_of_all) tt))
      (λ _. cond_both (ltb (latest_of d) m.conf && not (may_be_above m.body)) _ _ IsCleanStep (λ _. clean_remembering v (on_newer d q m.body) k (newer_clean q m.body)) (λ _. latest_step q m.conf m.body x)))

  message_clean : (q : ℕ) (m : Msg) → IsCleanBody m.body → IsCleanStep (message_step me d v q m)
  message_clean q m x =
      let told : List (ℕ × Msg) = watch_answers d q m.conf m.body in
      cond_both (is_watching m.body) (remembering v told) (member_step me d v q m) IsCleanStep (λ _. clean_remembering v told k (answers_hold IsCleanSend (λ to c w. tt) d q m.conf m.body)) (λ _. member_clean q m x)

  -- ---- inputs
  proposal_clean : (o : Option Part) (es : List Entry) (r : Option Refusal) → NoStops es → IsCleanStep (proposal_at me o v es r)
  proposal_clean o es (Some r) x = record { batch = tt; memory = k; sends = tt }
  proposal_clean None es None x = record { batch = tt; memory = k; sends = tt }
  proposal_clean (Some p) es None x = clean_with v (propose me p v.role es) k.staged (propose_row me p v.role es k.role x)

  tick_clean : (o : Option Part) (j : Option Joining) → j ≡ None → IsCleanPart o → IsCleanStep (tick_at me o j v)
  tick_clean o (Some j) e x = absurd (none_some e)
    where
      none_some : Some j ≡ None → ⊥
      none_some e = cc
  tick_clean None None e x = clean_remembering v [] k tt
  tick_clean (Some p) None e x = tick_step me p v x k

  trim_clean : (o : Option Part) → IsCleanStep (trim_at me o v)
  trim_clean None = record { batch = tt; memory = k; sends = tt }
  trim_clean (Some p) = clean_with v (trim_now me p v.role) k.staged (trim_now_row me p v.role k.role)

  up_clean : (o : Option Part) (j : Option Joining) (q : ℕ) → IsCleanStep (up_at me d o j v q)
  up_clean None None q = clean_remembering v (on_older d d.closed q) k (subst (λ (l : Option Closed). Each IsCleanSend (on_older d l q)) (sym first_of_all) tt)
  up_clean None (Some j) q = clean_remembering v [] k tt
  up_clean (Some p) (Some j) q = clean_remembering v [] k tt
  up_clean (Some p) None q =
      clean_with v (session_up me p v.role q) k.staged
      (cond_both (is_member nat_eq (others me p.members) q) _ _ IsCleanRow (λ _. clean_saying v.role (message p.conf q body.PrepareReq ∷ []) k.role (tt, tt)) (λ _. clean_saying v.role [] k.role tt))

  pub step_clean : (x : Input) → IsCleanInput x → IsCleanStep (step_at me d v x)
  step_clean input.Tick h = tick_clean d.part d.joining stays c
  step_clean (input.Deliver q m) h = message_clean q m h
  step_clean (input.Commands cs) h = proposal_clean d.part (entries_of cs) (refusal_of me v.role d (entries_of cs)) (All-map IsCommand (λ (x : Command). entry.Command x) cs (λ i x lt. tt))
  step_clean (input.Stop members) h = absurd h
  step_clean input.TrimNow h = trim_clean d.part
  step_clean (input.Read r) h = clean_remembering v [] k tt
  step_clean (input.Up q) h = up_clean d.part d.joining q
  step_clean (input.Down q) h = clean_with v (session_down v.role q) k.staged (down_row v.role q k.role)
