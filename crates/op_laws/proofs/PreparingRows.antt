-- Who prepares before and after a step in which the promise doesn't rise decides nothing and tells nobody.
use Rattle.std.proofs.Common.{◌≡◌, ℕ, ◌-◌, ◌+◌, min, inl, inr, true, false, not, ◌&&◌, eqb, ltb, leb, nat_eq, List, [], ◌∷◌, ◌++◌, length, take, drop, Option, Some, None, refl, sym, ap, ◌∙◌, arith, append-nil}
use Rattle.std.proofs.lemmas.Bool.{cond_both, both_ways, and_parts}
use Rattle.std.proofs.lemmas.List.{drop_all, length-take}
use Rattle.std.specs.Set.{is_member}
use Rattle.op_types.specs.Ballots.{is_below, is_same_ballot}
use Rattle.op_types.specs.Changes.{len_of, part_with}
use Rattle.op_types.specs.Effects.{Effects}
use Rattle.op_types.specs.Joinings.{Held, held_with, held_run}
use Rattle.op_types.specs.Stages.{front_from}
use Rattle.op_types.specs.Limits.{positions_end}
use Rattle.op_types.specs.RoleStates.{Preparing, Leading, with_promise, with_stage, without_stage, told_by, promised_entries, staged_with, with_buffered, with_acknowledged, with_report, without_reports}
use Rattle.op_types.specs.Roles as role
use Rattle.op_types.specs.Roles.{Role}
use Rattle.op_types.specs.declared.answers.Refusal.{Refusal}
use Rattle.op_types.specs.declared.answers.Reply.{Reply}
use Rattle.op_types.specs.declared.ballot.Ballot.{Ballot}
use Rattle.op_types.specs.declared.changes.Change.{Change}
use Rattle.op_types.specs.declared.changes.Change.TheVariants as change
use Rattle.op_types.proofs.Order.{is_total}
use Rattle.op_types.specs.declared.durable.Closed.{Closed}
use Rattle.op_types.specs.declared.durable.Durable.{Durable}
use Rattle.op_types.specs.declared.durable.Part.{Part}
use Rattle.op_types.specs.declared.events.Input.{Input}
use Rattle.op_types.specs.declared.events.Input.TheVariants as input
use Rattle.op_types.specs.declared.log.Entry.{Entry}
use Rattle.op_types.specs.declared.log.Entry.TheVariants as entry
use Rattle.op_types.specs.declared.messages.Body.{Body}
use Rattle.op_types.specs.declared.messages.Body.TheVariants as body
use Rattle.op_types.specs.declared.messages.Msg.{Msg}
use Rattle.op_types.specs.declared.role.Buffered.{Buffered}
use Rattle.op_types.specs.declared.role.Promised.{Promised}
use Rattle.op_types.specs.declared.runs.PromisedRun.{PromisedRun}
use Rattle.op_types.specs.declared.runs.SyncRun.{SyncRun}
use Rattle.op_types.specs.declared.verdict.Verdict.{Verdict}
use Rattle.op_types.specs.declared.verdict.Verdict.TheVariants as verdict
use Rattle.op_protocol.specs.State.{State, Volatile, Waiting, PartStep}
use Rattle.op_protocol.specs.Parts.{pending, is_run_to, is_admitted_body, part_after, part_in_round, cutting, appending, others, messages, promise_bodies, nothing, first}
use Rattle.op_protocol.specs.Promises.{has_quorum, is_usable, Choice, own_choice, best, chosen_stop, chosen_len, chosen_log, fitting}
use Rattle.op_protocol.specs.Leader.{counted, count, first_leading, leading_with, adopt, on_promise, promised_once, on_promise_part, on_accepted, on_prepare_req, waiting_as, propose, on_forward_leading, on_forward, session_down, lead}
use Rattle.op_protocol.specs.Follower.{suffix_start, on_prepare, sync_entries, on_accept_sync, synced_once, on_accept_sync_part, on_accept, on_decide}
use Rattle.op_protocol.specs.Tick.{by_verdict}
use Rattle.op_protocol.proofs.TickCases.{ended_at, begun_at, tick_cases}
use Rattle.op_protocol.specs.Serving.{serving, dropping}
use Rattle.op_protocol.specs.Rows.{entries_of, refusal_of, stop_for, on_body, message_at, may_be_above, on_latest, proposal_at, step_at, newly_decided, planned}
use Rattle.op_protocol.specs.Configurations.{latest_of}
use Rattle.op_protocol.specs.Joining.{storing_news}
use Rattle.op_protocol.specs.Trimming.{least_reported, trims_reported, trim_now, on_progress, on_trim_ask, on_trim}
use Rattle.op_protocol.proofs.StepBatches.{Rises}
use Rattle.op_refinement.proofs.View.{Each, Each-append}
use Rattle.op_laws.proofs.Leads.{lead_rises}
use Rattle.op_protocol.specs.Watched.{is_watching}

-- ---- batches that decide nothing
abbrev IsUndecided : Change → Type 0
IsUndecided (change.Decided x) = ⊥
IsUndecided _ = Unit {0}

undecided_with : (p : Part) (c : Change) → IsUndecided c → (part_with p c).decided ≡ p.decided
undecided_with p (change.Decided x) f = absurd f
undecided_with p _ f = refl

undecided_after : (p : Part) (batch : List Change) → Each IsUndecided batch → (part_after p batch).decided ≡ p.decided
undecided_after p [] f = refl
undecided_after p (c ∷ batch) f = undecided_after (part_with p c) batch f.1 ∙ undecided_with p c f.0

undecided_cutting : (p : Part) (x : ℕ) → Each IsUndecided (cutting p x)
undecided_cutting p x = cond_both (ltb x (len_of p)) (change.CutTo x ∷ []) [] (Each IsUndecided) (λ _. (tt, tt)) (λ _. tt)

undecided_appending : (es : List Entry) → Each IsUndecided (appending es)
undecided_appending [] = tt
undecided_appending (e ∷ es) = (tt, tt)

-- ---- what is said of a row

-- no round is promised and accepted
abbrev pub IsApart : Part → Type 0
IsApart p = (n : Ballot) → is_same_ballot p.promised n ≡ true → is_same_ballot p.accepted n ≡ true → ⊥

-- the promise doesn't rise
abbrev Stays : Part → Effects → Type 0
Stays p e = is_below p.promised (part_after p e.batch).promised ≡ false

-- Of who prepares then, where the promise doesn't rise: it prepared before, what it buffered stays; and if its promised round
-- isn't accepted, it tells nobody and decides nothing.
pub record IsQuiet (p : Part) (ρ : Role) (e : Effects) : Type 0 where
  pub prepared : (s : Preparing) → e.role ≡ role.Preparing s → Stays p e → (r : Preparing) × (ρ ≡ role.Preparing r)
  pub grown : (r s : Preparing) → ρ ≡ role.Preparing r → e.role ≡ role.Preparing s → Stays p e → (more : List Buffered) × (s.buffer ≡ r.buffer ++ more)
  pub quiet : (r s : Preparing) → ρ ≡ role.Preparing r → e.role ≡ role.Preparing s → Stays p e → IsApart p → (e.replies ≡ []) × ((part_after p e.batch).decided ≡ p.decided)

idle_prepares : {P : Type 0} (s : Preparing) (ρ : Role) → ρ ≡ role.Idle → ρ ≡ role.Preparing s → P
idle_prepares s ρ a b = absurd (differ s (sym a ∙ b))
  where
    differ : (s : Preparing) → role.Idle ≡ role.Preparing s → ⊥
    differ s h = cc

leader_prepares : {P : Type 0} (s : Preparing) (l : Leading) (ρ : Role) → ρ ≡ role.Leading l → ρ ≡ role.Preparing s → P
leader_prepares s l ρ a b = absurd (differ s l (sym a ∙ b))
  where
    differ : (s : Preparing) (l : Leading) → role.Leading l ≡ role.Preparing s → ⊥
    differ s l h = cc

-- it is idle then
idles : (p : Part) (ρ : Role) (e : Effects) → e.role ≡ role.Idle → IsQuiet p ρ e
idles p ρ e is = record { prepared = λ s at stays. idle_prepares s e.role is at; grown = λ r s was at stays. idle_prepares s e.role is at; quiet = λ r s was at stays apart. idle_prepares s e.role is at }

-- it leads then
leads : (p : Part) (ρ : Role) (e : Effects) (l : Leading) → e.role ≡ role.Leading l → IsQuiet p ρ e
leads p ρ e l is = record { prepared = λ s at stays. leader_prepares s l e.role is at; grown = λ r s was at stays. leader_prepares s l e.role is at; quiet = λ r s was at stays apart. leader_prepares s l e.role is at }

-- the promise rises
raises : (p : Part) (ρ : Role) (e : Effects) → is_below p.promised (part_after p e.batch).promised ≡ true → IsQuiet p ρ e
raises p ρ e up = record { prepared = λ s at stays. absurd (both_ways _ stays up); grown = λ r s was at stays. absurd (both_ways _ stays up); quiet = λ r s was at stays apart. absurd (both_ways _ stays up) }

-- it was prepared before
same_prep : (r s : Preparing) → role.Preparing r ≡ role.Preparing s → r ≡ s
same_prep r s h = cc

keeps_on : (p : Part) (r : Preparing) (e : Effects) → e.replies ≡ [] → Each IsUndecided e.batch → (k : Preparing) → e.role ≡ role.Preparing k → (more : List Buffered) → k.buffer ≡ r.buffer ++ more → IsQuiet p (role.Preparing r) e
keeps_on p r e none few k is more longer = record {
  prepared = λ s at stays. (r, refl);
  grown = λ x s was at stays. (
    more,
    ap (λ (z : Preparing). z.buffer) (same_prep s k (sym at ∙ is)) ∙ longer ∙ ap (λ (z : Preparing). z.buffer ++ more) (same_prep r x was),
  );
  quiet = λ x s was at stays apart. (none, undecided_after p e.batch few);
}

-- its role is as it was
same_role : (p : Part) (ρ : Role) (e : Effects) → e.role ≡ ρ → e.replies ≡ [] → Each IsUndecided e.batch → IsQuiet p ρ e
same_role p ρ e is none few = record {
  prepared = λ s at stays. (s, sym is ∙ at);
  grown = λ r s was at stays. ([], ap (λ (z : Preparing). z.buffer) (same_prep s r (sym at ∙ is ∙ was)) ∙ sym (append-nil r.buffer));
  quiet = λ r s was at stays apart. (none, undecided_after p e.batch few);
}

-- ---- the rows
count_leads : (me : ℕ) (p : Part) (len : ℕ) (l : Leading) (other : List (ℕ × Msg)) → (count me p len l other).role ≡ role.Leading l
count_leads me p len l other = cond_both (ltb p.decided (counted me p.members len l.acknowledged)) _ _ (λ (e : Effects). e.role ≡ role.Leading l) (λ _. refl) (λ _. refl)

adopt_leads : (me : ℕ) (p : Part) (ρ : Role) (r : Preparing) → IsQuiet p ρ (adopt me p r)
adopt_leads me p ρ r =
    let c : Choice = best p r.promises p.members (own_choice p) in
    let q : Part = part_in_round p r.ballot (chosen_log p c ++ fitting (chosen_stop p c) (chosen_len p c) r.buffer) in
    leads p ρ (adopt me p r) _ (count_leads me q (len_of q) (leading_with q (first_leading r.ballot c) r.promises) [])

promise_quiet : (me : ℕ) (p : Part) (ρ : Role) (n : Ballot) (k : Promised) → IsQuiet p ρ (on_promise me p ρ n k)
promise_quiet me p role.Idle n k = idles p _ _ refl
promise_quiet me p (role.Preparing r) n k =
    cond_both (is_same_ballot n r.ballot && is_usable p k) _ _ (IsQuiet p (role.Preparing r))
    (λ _. cond_both (has_quorum me p.members (with_promise r k).promises) (adopt me p (with_promise r k)) (nothing (role.Preparing (with_promise r k))) (IsQuiet p (role.Preparing r))
    (λ _. adopt_leads me p (role.Preparing r) (with_promise r k)) (λ _. keeps_on p r _ refl tt (with_promise r k) refl [] (sym (append-nil r.buffer))))
    (λ _. keeps_on p r _ refl tt r refl [] (sym (append-nil r.buffer)))
promise_quiet me p (role.Leading l) n k = cond_both (is_same_ballot n l.ballot) _ _ (IsQuiet p (role.Leading l)) (λ _. leads p _ _ _ refl) (λ _. leads p _ _ _ refl)

-- what is staged doesn't matter
unstaged_quiet : (p : Part) (r k : Preparing) (e : Effects) → k.buffer ≡ r.buffer → IsQuiet p (role.Preparing k) e → IsQuiet p (role.Preparing r) e
unstaged_quiet p r k e same z = record {
  prepared = λ s at stays. (r, refl);
  grown = λ x s was at stays.
      let g = z.grown k s refl at stays in
      (g.0, g.1 ∙ ap (λ (b : List Buffered). b ++ g.0) (same ∙ ap (λ (y : Preparing). y.buffer) (same_prep r x was)));
  quiet = λ x s was at stays apart. z.quiet k s refl at stays apart;
}

once_quiet : (me : ℕ) (p : Part) (r : Preparing) (q : ℕ) (part : PromisedRun) (held : Held) (o : Option (List Entry)) → IsQuiet p (role.Preparing r) (promised_once me p r q part held o)
once_quiet me p r q part held None = keeps_on p r _ refl tt (with_stage r q held) refl [] (sym (append-nil r.buffer))
once_quiet me p r q part held (Some es) = unstaged_quiet p r (without_stage r q) _ refl (promise_quiet me p (role.Preparing (without_stage r q)) r.ballot (told_by q part es))

promise_part_quiet : (me : ℕ) (p : Part) (ρ : Role) (q : ℕ) (n : Ballot) (part : PromisedRun) → IsQuiet p ρ (on_promise_part me p ρ q n part)
promise_part_quiet me p role.Idle q n part = idles p _ _ refl
promise_part_quiet me p (role.Preparing r) q n part =
    cond_both (is_same_ballot n r.ballot && (leb part.start part.at && is_run_to part.len part.at part.run)) _ _ (IsQuiet p (role.Preparing r))
    (λ _. once_quiet me p r q part (staged_with r q part) (promised_entries part (staged_with r q part)))
    (λ _. keeps_on p r _ refl tt r refl [] (sym (append-nil r.buffer)))
promise_part_quiet me p (role.Leading l) q n part =
    cond_both (eqb (part.at + length part.run) part.len) _ _ (IsQuiet p (role.Leading l)) (λ _. promise_quiet me p (role.Leading l) n (told_by q part [])) (λ _. leads p _ _ l refl)

prepare_quiet : (p : Part) (ρ : Role) (q : ℕ) (n na : Ballot) (nl nd : ℕ) → IsQuiet p ρ (on_prepare p ρ q n na nl nd)
prepare_quiet p ρ q n na nl nd =
    cond_both (is_below n p.promised) _ _ (IsQuiet p ρ) (λ _. same_role p ρ _ refl refl tt)
    (λ _. cond_both (ltb (suffix_start p na nl nd) p.trimmed) _ _ (IsQuiet p ρ) (λ _. same_role p ρ _ refl refl tt)
    (λ _. cond_both (is_below p.promised n) _ _ (λ (e : Effects). IsQuiet p ρ (first [] (messages p.conf q (promise_bodies p n (suffix_start p na nl nd))) [] e)) (λ _. idles p ρ _ refl) (λ _. same_role p ρ _ refl refl tt)))

accept_quiet : (p : Part) (ρ : Role) (q : ℕ) (n : Ballot) (at : ℕ) (es : List Entry) → IsQuiet p ρ (on_accept p ρ q n at es)
accept_quiet p ρ q n at es =
    cond_both (is_same_ballot p.promised n && is_same_ballot p.accepted n) _ _ (IsQuiet p ρ)
    (λ _. cond_both (ltb (len_of p) at) _ _ (IsQuiet p ρ) (λ _. same_role p ρ _ refl refl tt)
    (λ _. same_role p ρ _ refl refl (Each-append IsUndecided (appending (drop (len_of p - at) es)) [] (undecided_appending (drop (len_of p - at) es)) tt)))
    (λ _. same_role p ρ _ refl refl tt)

synced_quiet : (p : Part) (ρ : Role) (q : ℕ) (n : Ballot) (x : ℕ) (es : List Entry) → IsQuiet p ρ (sync_entries p ρ q n x es)
synced_quiet p ρ q n x es =
    let batch : List Change = cutting p x ++ appending es ++ change.Accept n ∷ [] in
    cond_both (leb p.decided x && leb x (len_of p)) _ _ (IsQuiet p ρ)
    (λ _. same_role p ρ _ refl refl (Each-append IsUndecided batch []
    (Each-append IsUndecided (cutting p x ++ appending es) (change.Accept n ∷ []) (Each-append IsUndecided (cutting p x) (appending es) (undecided_cutting p x) (undecided_appending es)) (tt, tt)) tt))
    (λ _. same_role p ρ _ refl refl tt)

sync_quiet : (p : Part) (ρ : Role) (q : ℕ) (n : Ballot) (x : ℕ) (es : List Entry) → IsQuiet p ρ (on_accept_sync p ρ q n x es)
sync_quiet p ρ q n x es =
    cond_both (is_same_ballot p.promised n && is_below p.accepted n) _ _ (IsQuiet p ρ) (λ _. synced_quiet p ρ q n x es) (λ _. accept_quiet p ρ q n x es)

decide_quiet : (p : Part) (ρ : Role) (n : Ballot) (x : ℕ) → IsQuiet p ρ (on_decide p ρ n x)
decide_quiet p ρ n x =
    cond_both (is_same_ballot p.promised n && (is_same_ballot p.accepted n && ltb p.decided (min x (len_of p)))) _ _ (IsQuiet p ρ)
    (λ h. record {
      prepared = λ s at stays. (s, at);
      grown = λ r s was at stays. ([], ap (λ (z : Preparing). z.buffer) (same_prep s r (sym at ∙ was)) ∙ sym (append-nil r.buffer));
      quiet = λ r s was at stays apart. let both = and_parts (is_same_ballot p.promised n) _ h in absurd (apart n both.0 (and_parts (is_same_ballot p.accepted n) _ both.1).0);
    })
    (λ _. same_role p ρ _ refl refl tt)

accepted_quiet : (me : ℕ) (p : Part) (ρ : Role) (q : ℕ) (n : Ballot) (x : ℕ) → IsQuiet p ρ (on_accepted me p ρ q n x)
accepted_quiet me p role.Idle q n x = idles p _ _ refl
accepted_quiet me p (role.Preparing r) q n x = keeps_on p r _ refl tt r refl [] (sym (append-nil r.buffer))
accepted_quiet me p (role.Leading l) q n x =
    cond_both (is_same_ballot n l.ballot && leb x (len_of p)) _ _ (IsQuiet p (role.Leading l))
    (λ _. leads p _ _ _ (count_leads me p (len_of p) (with_acknowledged l (record { from = q; len = x })) _)) (λ _. leads p _ _ _ refl)

prepare_req_quiet : (p : Part) (ρ : Role) (q : ℕ) → IsQuiet p ρ (on_prepare_req p ρ q)
prepare_req_quiet p role.Idle q = idles p _ _ refl
prepare_req_quiet p (role.Preparing r) q = keeps_on p r _ refl tt r refl [] (sym (append-nil r.buffer))
prepare_req_quiet p (role.Leading l) q = leads p _ _ _ refl

propose_quiet : (me : ℕ) (p : Part) (ρ : Role) (e : List Entry) → IsQuiet p ρ (propose me p ρ e)
propose_quiet me p role.Idle e = idles p _ _ refl
propose_quiet me p (role.Preparing r) e = keeps_on p r _ refl tt (with_buffered r (waiting_as true e)) refl (waiting_as true e) refl
propose_quiet me p (role.Leading l) e = leads p _ _ _ (count_leads me p (len_of p + length e) l [])

forward_leading_quiet : (me : ℕ) (p : Part) (l : Leading) (e : List Entry) (o : Option ℕ) → IsQuiet p (role.Leading l) (on_forward_leading me p l e o)
forward_leading_quiet me p l e (Some pos) = leads p _ _ _ refl
forward_leading_quiet me p l e None = cond_both (leb (len_of p + length e) positions_end) _ _ (IsQuiet p (role.Leading l)) (λ _. leads p _ _ _ (count_leads me p (len_of p + length e) l [])) (λ _. leads p _ _ _ refl)

forward_quiet : (me : ℕ) (p : Part) (ρ : Role) (e : List Entry) → IsQuiet p ρ (on_forward me p ρ e)
forward_quiet me p role.Idle e = idles p _ _ refl
forward_quiet me p (role.Preparing r) e = keeps_on p r _ refl tt (with_buffered r (waiting_as false e)) refl (waiting_as false e) refl
forward_quiet me p (role.Leading l) e = forward_leading_quiet me p l e (pending p)

down_quiet : (p : Part) (ρ : Role) (q : ℕ) → IsQuiet p ρ (session_down ρ q)
down_quiet p role.Idle q = idles p _ _ refl
down_quiet p (role.Preparing r) q = keeps_on p r _ refl tt r refl [] (sym (append-nil r.buffer))
down_quiet p (role.Leading l) q = leads p _ _ _ refl

-- ---- trimming
leader_stays : (me : ℕ) (p : Part) (l : Leading) (o : Option ℕ) → (k : Leading) × ((trims_reported me p l o).role ≡ role.Leading k)
leader_stays me p l None = (l, refl)
leader_stays me p l (Some x) = (without_reports l, cond_both (ltb p.trimmed x) _ _ (λ (e : Effects). e.role ≡ role.Leading (without_reports l)) (λ _. refl) (λ _. refl))

trim_now_quiet : (me : ℕ) (p : Part) (ρ : Role) → IsQuiet p ρ (trim_now me p ρ)
trim_now_quiet me p role.Idle = idles p _ _ refl
trim_now_quiet me p (role.Preparing r) = keeps_on p r _ refl tt r refl [] (sym (append-nil r.buffer))
trim_now_quiet me p (role.Leading l) = let k = leader_stays me p (without_reports l) (least_reported (without_reports l).reports (others me p.members) p.decided) in leads p _ _ k.0 k.1

progress_quiet : (me : ℕ) (p : Part) (ρ : Role) (q : ℕ) (n : Ballot) (x : ℕ) → IsQuiet p ρ (on_progress me p ρ q n x)
progress_quiet me p role.Idle q n x = idles p _ _ refl
progress_quiet me p (role.Preparing r) q n x = keeps_on p r _ refl tt r refl [] (sym (append-nil r.buffer))
progress_quiet me p (role.Leading l) q n x =
    let m : Leading = with_report l (record { from = q; decided = x }) in
    cond_both (is_same_ballot n l.ballot) _ _ (IsQuiet p (role.Leading l)) (λ _. let k = leader_stays me p m (least_reported m.reports (others me p.members) p.decided) in leads p _ _ k.0 k.1) (λ _. leads p _ _ l refl)

trim_ask_quiet : (p : Part) (ρ : Role) (q : ℕ) (n : Ballot) → IsQuiet p ρ (on_trim_ask p ρ q n)
trim_ask_quiet p ρ q n = cond_both (is_same_ballot p.promised n) _ _ (IsQuiet p ρ) (λ _. same_role p ρ _ refl refl tt) (λ _. same_role p ρ _ refl refl tt)

trim_quiet : (p : Part) (ρ : Role) (x : ℕ) → IsQuiet p ρ (on_trim p ρ x)
trim_quiet p ρ x = cond_both (ltb p.trimmed x && leb x p.decided) _ _ (IsQuiet p ρ) (λ _. same_role p ρ _ refl refl (tt, tt)) (λ _. same_role p ρ _ refl refl tt)

-- ---- a step

-- the effects of a step at a part
abbrev pub effects_in : PartStep → Effects
effects_in x = record { batch = x.batch; role = x.volatile.role; sends = x.sends; replies = x.replies; outcome = x.outcome }

-- a step at a part
abbrev pub StepIsQuiet : Part → Volatile → PartStep → Type 0
StepIsQuiet p v x = IsQuiet p v.role (effects_in x)

synced_once_quiet : (p : Part) (v : Volatile) (q : ℕ) (n : Ballot) (x : ℕ) (held : Held) (o : Option (List Entry)) → StepIsQuiet p v (synced_once p v q n x held o)
synced_once_quiet p v q n x held None = same_role p v.role _ refl refl tt
synced_once_quiet p v q n x held (Some es) = synced_quiet p v.role q n x es

sync_part_quiet : (p : Part) (v : Volatile) (q : ℕ) (n : Ballot) (part : SyncRun) → StepIsQuiet p v (on_accept_sync_part p v q n part)
sync_part_quiet p v q n part =
    let held : Held = held_with v.staged part.at part.run in
    let front : List Entry = front_from held (len_of p) in
    cond_both (is_same_ballot p.promised n && is_below p.accepted n) _ _ (λ (x : PartStep). StepIsQuiet p v x)
    (λ _. cond_both ((leb p.decided part.start && leb part.start (len_of p)) && (leb part.start part.at && is_run_to part.end part.at part.run)) _ _ (λ (x : PartStep). StepIsQuiet p v x)
    (λ _. synced_once_quiet p v q n part.start held (held_run held part.start (part.end - part.start))) (λ _. same_role p v.role _ refl refl tt))
    (λ _. cond_both (is_same_ballot p.promised n && (is_same_ballot p.accepted n && is_run_to part.end part.at part.run)) _ _ (λ (x : PartStep). StepIsQuiet p v x)
    (λ _. same_role p v.role _ refl refl (Each-append IsUndecided (appending front) [] (undecided_appending front) tt)) (λ _. same_role p v.role _ refl refl tt))

body_quiet : (me : ℕ) (p : Part) (v : Volatile) (q : ℕ) (b : Body) → StepIsQuiet p v (on_body me p v q b)
body_quiet me p v q (body.HeartbeatRequest r) = same_role p v.role _ refl refl tt
body_quiet me p v q (body.HeartbeatReply r b f) = same_role p v.role _ refl refl tt
body_quiet me p v q (body.Prepare n na nl nd) = prepare_quiet p v.role q n na nl nd
body_quiet me p v q (body.Promise n fa fl fd s es) = promise_quiet me p v.role n (record { from = q; accepted = fa; len = fl; decided = fd; start = s; entries = es })
body_quiet me p v q (body.AcceptSync n x es) = sync_quiet p v.role q n x es
body_quiet me p v q (body.PromisePart n part) = promise_part_quiet me p v.role q n part
body_quiet me p v q (body.AcceptSyncPart n part) = sync_part_quiet p v q n part
body_quiet me p v q (body.Accept n a es) = accept_quiet p v.role q n a es
body_quiet me p v q (body.Accepted n x) = accepted_quiet me p v.role q n x
body_quiet me p v q (body.Decide n x) = decide_quiet p v.role n x
body_quiet me p v q body.PrepareReq = prepare_req_quiet p v.role q
body_quiet me p v q (body.Refuse n b) = same_role p v.role _ refl refl tt
body_quiet me p v q (body.Forward e) = forward_quiet me p v.role (e ∷ [])
body_quiet me p v q (body.Forwards es) = forward_quiet me p v.role es
body_quiet me p v q (body.TrimAsk n) = trim_ask_quiet p v.role q n
body_quiet me p v q (body.Progress n x) = progress_quiet me p v.role q n x
body_quiet me p v q (body.Trim x) = trim_quiet p v.role x
body_quiet me p v q (body.Confirm n number) = cond_both (is_same_ballot p.promised n) _ _ (IsQuiet p v.role) (λ _. same_role p v.role _ refl refl tt) (λ _. same_role p v.role _ refl refl tt)
body_quiet me p v q _ = same_role p v.role _ refl refl tt

pub led_above : (me : ℕ) (p : Part) (ρ : Role) (n : Ballot) → is_below p.promised n ≡ true → is_below p.promised (part_after p (lead me p ρ n).batch).promised ≡ true
led_above me p ρ n h = by (lead_rises me p ρ n)
  where
    by : Rises n (part_after p (lead me p ρ n).batch).promised → is_below p.promised (part_after p (lead me p ρ n).batch).promised ≡ true
    by (inl e) = ap (is_below p.promised) e ∙ h
    by (inr up) = is_total.transitive p.promised n (part_after p (lead me p ρ n).batch).promised h up

verdict_quiet : (me : ℕ) (p : Part) (w : Volatile) (x : Verdict) → StepIsQuiet p w (by_verdict me p w x)
verdict_quiet me p w verdict.Nobody = same_role p w.role _ refl refl tt
verdict_quiet me p w (verdict.Raised b) = same_role p w.role _ refl refl tt
verdict_quiet me p w (verdict.Elected n) =
    cond_both (eqb n.pid me) _ _ (λ (x : PartStep). StepIsQuiet p w x)
    (λ _. cond_both (is_below p.promised n) _ _ (λ (x : PartStep). StepIsQuiet p w x)
    (λ h. raises p w.role _ (led_above me p w.role n h)) (λ _. same_role p w.role _ refl refl tt))
    (λ _. same_role p w.role _ refl refl tt)

proposal_quiet : (me : ℕ) (p : Part) (v : Volatile) (es : List Entry) (o : Option Refusal) → StepIsQuiet p v (proposal_at me (Some p) v es o)
proposal_quiet me p v es (Some r) = same_role p v.role _ refl refl tt
proposal_quiet me p v es None = propose_quiet me p v.role es

message_quiet : (me : ℕ) (p : Part) (v : Volatile) (q : ℕ) (m : Msg) → StepIsQuiet p v (message_at me (Some p) v q m)
message_quiet me p v q m =
    cond_both (eqb m.conf p.conf && is_admitted_body p m.body) _ _ (λ (x : PartStep). StepIsQuiet p v x) (λ _. body_quiet me p v q m.body) (λ _. same_role p v.role _ refl refl tt)

-- at a node with this part that joins no other configuration
module _ (me : ℕ) (p : Part) (c : Option Closed) (v : Volatile) where
  abbrev pub here : Durable
  here = record { part = Some p; closed = c; joining = None }

  latest_quiet : (q conf : ℕ) (b : Body) → StepIsQuiet p v (on_latest me here v q conf b)
  latest_quiet q conf (body.NextConf members olds len trimmed) =
      cond_both (is_member nat_eq members me && ltb (latest_of here) conf) _ _ (λ (x : PartStep). StepIsQuiet p v x)
      (λ _. cond_both (leb trimmed len) _ _ (λ (batch : List Change). StepIsQuiet p v (storing_news v batch)) (λ _. same_role p v.role _ refl refl (tt, (tt, tt))) (λ _. same_role p v.role _ refl refl tt))
      (λ _. same_role p v.role _ refl refl tt)
  latest_quiet q conf body.AskBase = same_role p v.role _ refl refl tt
  latest_quiet q conf (body.AskSegment from to) = same_role p v.role _ refl refl tt
  latest_quiet q conf (body.BasePiece x) = same_role p v.role _ refl refl tt
  latest_quiet q conf b = message_quiet me p v q (record { conf = conf; body = b })

  -- a step
  pub step_quiet : (x : Input) → StepIsQuiet p v (step_at me here v x)
  step_quiet input.Tick =
      tick_cases (λ (x : PartStep). StepIsQuiet p v x) me p v (λ _. verdict_quiet me p (begun_at me p v) (ended_at me p v).verdict) (λ _. same_role p v.role _ refl refl tt)
  step_quiet (input.Deliver q m) =
      cond_both (is_watching m.body) _ _ (λ (x : PartStep). StepIsQuiet p v x) (λ _. same_role p v.role _ refl refl tt)
      (λ _. cond_both (ltb m.conf (latest_of here)) _ _ (λ (x : PartStep). StepIsQuiet p v x) (λ _. same_role p v.role _ refl refl tt)
      (λ _. cond_both (ltb (latest_of here) m.conf && not (may_be_above m.body)) _ _ (λ (x : PartStep). StepIsQuiet p v x) (λ _. same_role p v.role _ refl refl tt) (λ _. latest_quiet q m.conf m.body)))
  step_quiet (input.Commands cs) = proposal_quiet me p v (entries_of cs) (refusal_of me v.role here (entries_of cs))
  step_quiet (input.Stop members) = proposal_quiet me p v (entry.Stop (stop_for (Some p) members) ∷ []) (refusal_of me v.role here (entry.Stop (stop_for (Some p) members) ∷ []))
  step_quiet input.TrimNow = trim_now_quiet me p v.role
  step_quiet (input.Read r) = same_role p v.role _ refl refl tt
  step_quiet (input.Up q) = cond_both (is_member nat_eq (others me p.members) q) _ _ (IsQuiet p v.role) (λ _. same_role p v.role _ refl refl tt) (λ _. same_role p v.role _ refl refl tt)
  step_quiet (input.Down q) = down_quiet p v.role q

-- ---- who waits goes on waiting

none_left : (n : ℕ) (es : List Entry) → drop n (take n es) ≡ []
none_left n es = drop_all n (take n es) (omega (arith, length-take n es))

-- what is decided no further decides nothing new
nothing_new : (p : Part) (batch : List Change) → (part_after p batch).decided ≡ p.decided → newly_decided (Some p) batch ≡ []
nothing_new p batch same =
    let new : Part = part_after p batch in
    ap (λ (n : ℕ). drop (p.decided - new.trimmed) (take (n - new.trimmed) new.tail.items)) same ∙ none_left (p.decided - new.trimmed) new.tail.items

-- where nobody is told and nothing is decided, those wait that waited
pub waits_on : (s : State) (ws : Waiting) (x : PartStep) (p : Part) → s.durable.part ≡ Some p → x.replies ≡ [] → (part_after p x.batch).decided ≡ p.decided → (planned s ws x).waiting ≡ ws
waits_on s ws x p at none same =
    ap (λ (rs : List Reply). (serving s.service (dropping ws rs).waiting (newly_decided s.durable.part x.batch)).waiting) none
    ∙ ap (λ (es : List Entry). (serving s.service ws es).waiting) (ap (λ (o : Option Part). newly_decided o x.batch) at ∙ nothing_new p x.batch same)
