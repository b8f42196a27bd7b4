-- Every row inside a configuration changes the part alone, and trims no more than was decided before it; and what such
-- changes do to a durable state.
use Rattle.std.proofs.Common.{true, arith, ◌≤◌, ◌≡◌, ℕ, ◌+◌, ◌==◌, ◌&&◌, Bool, cond, min, List, [], ◌∷◌, ◌++◌, All, Option, Some, None, refl, sym, ap, ◌∙◌, subst}
use Rattle.std.proofs.lemmas.Bool.{cond_both, and_parts, leb-true}
use Rattle.std.proofs.lemmas.List.Elements.{All-nil, All-cons, All-head, All-tail, All-append}
use Rattle.std.specs.Prelude.{length, nat_lt, nat_le, nat_eq}
use Rattle.std.specs.Set.{is_member}
use Rattle.op_types.specs.Limits.{positions_end}
use Rattle.op_types.specs.Ballots.{no_ballot, is_below, is_same_ballot}
use Rattle.op_types.specs.Changes.{len_of, part_with, durable_with, durable_after}
use Rattle.op_types.specs.RoleStates.{without_stage, told_by, without_reports, report_of}
use Rattle.op_types.specs.Joinings.{Held, held_with}
use Rattle.op_types.specs.Stages.{front_from}
use Rattle.op_types.specs.declared.runs.PromisedRun.{PromisedRun}
use Rattle.op_types.specs.declared.runs.SyncRun.{SyncRun}
use Rattle.op_types.specs.declared.role.Report.{Report}
use Rattle.op_types.specs.RoleStates as state
use Rattle.op_types.specs.Roles.{Role, Idle, Preparing, Leading}
use Rattle.op_types.specs.Effects.{Effects}
use Rattle.op_types.specs.declared.ballot.Ballot.{Ballot}
use Rattle.op_types.specs.declared.changes.Change.{Change}
use Rattle.op_types.specs.declared.changes.Change.TheVariants as change
use Rattle.op_types.specs.declared.durable.Part.{Part}
use Rattle.op_types.specs.declared.durable.Durable.{Durable}
use Rattle.op_types.specs.declared.log.Entry.{Entry}
use Rattle.op_types.specs.declared.messages.Body.{Body}
use Rattle.op_types.specs.declared.messages.Body.TheVariants as body
use Rattle.op_types.specs.declared.answers.Outcome.{Outcome}
use Rattle.op_types.specs.declared.messages.Msg.{Msg}
use Rattle.op_types.specs.declared.role.Promised.{Promised}
use Rattle.op_types.specs.declared.verdict.Verdict.{Verdict}
use Rattle.op_types.specs.declared.verdict.Verdict.TheVariants as verdict
use Rattle.op_protocol.specs.State.{Volatile, PartStep, with_effects}
use Rattle.op_protocol.specs.Parts.{IsOfPart, is_run_to, is_admitted_body, part_after, part_in_round, cutting, appending, others, answered}
use Rattle.op_protocol.specs.Promises.{has_quorum, is_usable, Choice, choice_changes, chosen_log}
use Rattle.op_protocol.specs.Leader.{counted, count, first_leading, first_preparing, leading_with, adopt_with, prepares, lead, on_promise, promised_once, on_promise_part, on_accepted, on_prepare_req, extends, propose, on_forward_leading, on_forward, session_down}
use Rattle.op_protocol.specs.Follower.{suffix_start, promise_higher, on_prepare, accepts, on_accept, sync_entries, on_accept_sync, synced_once, on_accept_sync_part, on_decide}
use Rattle.op_protocol.specs.Trimming.{lesser, least_reported, trims, trims_reported, trim_now, on_progress, on_trim_ask, on_trim}
use Rattle.op_protocol.specs.Reading.{on_confirm}
use Rattle.op_protocol.specs.Tick.{elected, by_verdict, on_tick}
use Rattle.op_protocol.proofs.TickCases.{tick_cases}
use Rattle.op_protocol.specs.Rows.{on_body, on_message, session_up}

-- ---- what such changes do

one_change : (d : Durable) (p : Part) (c : Change) → IsOfPart c → (let old : Durable = record d { part = Some p } in let new : Durable = record d { part = Some (part_with p c) } in durable_with old c ≡ new)
one_change d p (change.Promise n) of = refl
one_change d p (change.Accept n) of = refl
one_change d p (change.CutTo n) of = refl
one_change d p (change.Append es) of = refl
one_change d p (change.Decided x) of = refl
one_change d p (change.Trim x b) of = refl
one_change d p (change.Close named b) of = absurd of
one_change d p (change.JoinBegin c members olds len) of = absurd of
one_change d p (change.JoinDonor q t) of = absurd of
one_change d p (change.JoinBase at b) of = absurd of
one_change d p (change.JoinPart at es) of = absurd of
one_change d p (change.JoinDone b) of = absurd of
one_change d p (change.Rebase c members at b) of = absurd of

-- a batch of such changes takes the part to where it takes the part alone, and nothing else changes
pub part_batch : (d : Durable) (p : Part) (batch : List Change) → All IsOfPart batch → (let old : Durable = record d { part = Some p } in let new : Durable = record d { part = Some (part_after p batch) } in durable_after old batch ≡ new)
part_batch d p [] all = refl
part_batch d p (c ∷ batch) all =
    ap (λ (x : Durable). durable_after x batch) (one_change d p c (All-head IsOfPart c batch all))
    ∙ part_batch d (part_with p c) batch (All-tail IsOfPart c batch all)

-- ---- what the rows change

-- what a row inside a configuration changes has this: the log and votes, promises above this one,
-- and what is trimmed no further than that
pub record RowsHave (P : Change → Type 0) (limit : ℕ) (promised : Ballot) : Type 0 where
  pub promise : (n : Ballot) → is_below promised n ≡ true → P (change.Promise n)
  pub accept : (n : Ballot) → P (change.Accept n)
  pub cut : (n : ℕ) → P (change.CutTo n)
  pub append : (es : List Entry) → P (change.Append es)
  pub decided : (x : ℕ) → P (change.Decided x)
  pub trim : (x : ℕ) → x ≤ limit → P (change.Trim x [])

pub record Are (P : Change → Type 0) (e : Effects) : Type 0 where
  pub changes : All P e.batch

pub record StepIs (P : Change → Type 0) (x : PartStep) : Type 0 where
  pub changes : All P x.batch

-- no more than that, if there is one
abbrev IfLow : ℕ → Option ℕ → Type 0
IfLow limit None = Unit {0}
IfLow limit (Some x) = x ≤ limit

-- what is trimmed was decided
least_low : (limit : ℕ) (reports : List Report) (qs : List ℕ) (x : ℕ) → x ≤ limit → IfLow limit (least_reported reports qs x)
least_low limit reports [] x low = low
least_low limit reports (q ∷ qs) x low = by (report_of reports q) (least_reported reports qs x) (least_low limit reports qs x low)
  where
    by : (a b : Option ℕ) → IfLow limit b → IfLow limit (lesser a b)
    by None b k = tt
    by (Some y) None k = tt
    by (Some y) (Some z) k = omega (arith, k)

module _ (P : Change → Type 0) (limit : ℕ) (promised : Ballot) (may : RowsHave P limit promised) where
  none : All P []
  none = All-nil P

  one : (c : Change) → P c → All P (c ∷ [])
  one c of = All-cons P c [] of none

  both : (a b : List Change) → All P a → All P b → All P (a ++ b)
  both a b x y = All-append P a b x y

  says : {e : Effects} → All P e.batch → Are P e
  says all = record { changes = all }

  test : (b : Bool) (x y : Effects) → Are P x → Are P y → Are P (cond b x y)
  test b x y ox oy = cond_both b x y (Are P) (λ _. ox) (λ _. oy)

  cutting_of : (p : Part) (n : ℕ) → All P (cutting p n)
  cutting_of p n = cond_both _ (change.CutTo n ∷ []) [] (All P) (λ _. one (change.CutTo n) (may.cut n)) (λ _. none)

  appending_of : (es : List Entry) → All P (appending es)
  appending_of [] = none
  appending_of (e ∷ es) = one (change.Append (e ∷ es)) (may.append (e ∷ es))

  -- ---- a leader

  count_of : (me : ℕ) (p : Part) (len : ℕ) (l : state.Leading) (otherwise : List (ℕ × Msg)) → Are P (count me p len l otherwise)
  count_of me p len l otherwise = test (nat_lt p.decided (counted me p.members len l.acknowledged)) _ _ (says (one (change.Decided _) (may.decided _))) (says none)

  -- these changes, and then others
  then_of : (batch : List Change) (e f : Effects) → f.batch ≡ batch ++ e.batch → All P batch → Are P e → Are P f
  then_of batch e f is all of = record { changes = subst (All P) (sym is) (both batch e.batch all of.changes) }

  extends_of : (me : ℕ) (p : Part) (l : state.Leading) (es : List Entry) → Are P (extends me p l es)
  extends_of me p l es = then_of (change.Append es ∷ []) (count me p (len_of p + length es) l []) _ refl (one (change.Append es) (may.append es)) (count_of me p (len_of p + length es) l [])

  adopt_with_of : (me : ℕ) (p : Part) (r : state.Preparing) (c : Choice) (more : List Entry) → Are P (adopt_with me p r c more)
  adopt_with_of me p r c more =
      let q : Part = part_in_round p r.ballot (chosen_log p c ++ more) in
      let l : state.Leading = leading_with q (first_leading r.ballot c) r.promises in
      then_of (choice_changes p c ++ appending more ++ change.Accept r.ballot ∷ []) (count me q (len_of q) l []) _ refl
      (both (choice_changes p c ++ appending more) (change.Accept r.ballot ∷ []) (both (choice_changes p c) (appending more) (both (cutting p c.start) (appending c.entries) (cutting_of p c.start) (appending_of c.entries)) (appending_of more)) (one (change.Accept r.ballot) (may.accept r.ballot)))
      (count_of me q (len_of q) l [])

  pub prepares_of : (me : ℕ) (p : Part) (r : state.Preparing) → Are P (prepares me p r)
  prepares_of me p r = test (has_quorum me p.members r.promises) _ _ (adopt_with_of me p r _ _) (says none)

  lead_of : (me : ℕ) (p : Part) (r : Role) (n : Ballot) → is_below promised n ≡ true → Are P (lead me p r n)
  lead_of me p r n above =
      let q : Part = part_with p (change.Promise n) in
      let s : state.Preparing = first_preparing n in
      then_of (change.Promise n ∷ []) (prepares me q s) _ refl (one (change.Promise n) (may.promise n above)) (prepares_of me q s)

  promise_of_part : (me : ℕ) (p : Part) (r : Role) (n : Ballot) (k : Promised) → Are P (on_promise me p r n k)
  promise_of_part me p Idle n k = says none
  promise_of_part me p (Preparing r) n k = test (is_same_ballot n r.ballot && is_usable p k) _ _ (prepares_of me p _) (says none)
  promise_of_part me p (Leading l) n k = test (is_same_ballot n l.ballot) _ _ (says none) (says none)

  once_of : (me : ℕ) (p : Part) (r : state.Preparing) (q : ℕ) (part : PromisedRun) (held : Held) (o : Option (List Entry)) → Are P (promised_once me p r q part held o)
  once_of me p r q part held None = says none
  once_of me p r q part held (Some es) = promise_of_part me p (Preparing (without_stage r q)) r.ballot (told_by q part es)

  promise_part_of : (me : ℕ) (p : Part) (r : Role) (q : ℕ) (n : Ballot) (part : PromisedRun) → Are P (on_promise_part me p r q n part)
  promise_part_of me p Idle q n part = says none
  promise_part_of me p (Preparing r) q n part = test (is_same_ballot n r.ballot && (nat_le part.start part.at && is_run_to part.len part.at part.run)) _ _ (once_of me p r q part _ _) (says none)
  promise_part_of me p (Leading l) q n part = test (part.at + length part.run == part.len) _ _ (promise_of_part me p (Leading l) n (told_by q part [])) (says none)

  accepted_of : (me : ℕ) (p : Part) (r : Role) (q : ℕ) (n : Ballot) (x : ℕ) → Are P (on_accepted me p r q n x)
  accepted_of me p Idle q n x = says none
  accepted_of me p (Preparing r) q n x = says none
  accepted_of me p (Leading l) q n x = test (is_same_ballot n l.ballot && nat_le x (len_of p)) _ _ (count_of me p _ _ _) (says none)

  prepare_req_of : (p : Part) (r : Role) (q : ℕ) → Are P (on_prepare_req p r q)
  prepare_req_of p Idle q = says none
  prepare_req_of p (Preparing r) q = says none
  prepare_req_of p (Leading l) q = says none

  answered_of : (o : Outcome) (e : Effects) → Are P e → Are P (answered o e)
  answered_of o e of = says of.changes

  pub propose_is : (me : ℕ) (p : Part) (r : Role) (es : List Entry) → Are P (propose me p r es)
  propose_is me p Idle e = says none
  propose_is me p (Preparing r) e = says none
  propose_is me p (Leading l) e = answered_of _ _ (extends_of me p l e)

  forward_leading_of : (me : ℕ) (p : Part) (l : state.Leading) (es : List Entry) (o : Option ℕ) → Are P (on_forward_leading me p l es o)
  forward_leading_of me p l e (Some pos) = says none
  forward_leading_of me p l e None = test (nat_le (len_of p + length e) positions_end) _ _ (extends_of me p l e) (says none)

  forward_of : (me : ℕ) (p : Part) (r : Role) (es : List Entry) → Are P (on_forward me p r es)
  forward_of me p Idle e = says none
  forward_of me p (Preparing r) e = says none
  forward_of me p (Leading l) e = forward_leading_of me p l e _

  pub session_down_is : (r : Role) (q : ℕ) → Are P (session_down r q)
  session_down_is Idle q = says none
  session_down_is (Preparing r) q = says none
  session_down_is (Leading l) q = says none

  pub session_up_is : (me : ℕ) (p : Part) (r : Role) (q : ℕ) → Are P (session_up me p r q)
  session_up_is me p r q = test (is_member nat_eq (others me p.members) q) _ _ (says none) (says none)

  -- ---- a follower

  higher_of : (p : Part) (r : Role) (n : Ballot) → p.promised ≡ promised → Are P (promise_higher p r n)
  higher_of p r n same =
      cond_both (is_below p.promised n) _ _ (Are P) (λ h. says (one (change.Promise n) (may.promise n (subst (λ (b : Ballot). is_below b n ≡ true) same h)))) (λ _. says none)

  prepare_of : (p : Part) (r : Role) (q : ℕ) (n na : Ballot) (nl nd : ℕ) → p.promised ≡ promised → Are P (on_prepare p r q n na nl nd)
  prepare_of p r q n na nl nd same =
      test (is_below n p.promised) _ _ (says none)
      (test (nat_lt (suffix_start p na nl nd) p.trimmed) _ _ (says none)
      (then_of [] (promise_higher p r n) _ refl none (higher_of p r n same)))

  accepts_of : (p : Part) (r : Role) (q : ℕ) (n : Ballot) (batch : List Change) → All P batch → Are P (accepts p r q n batch)
  accepts_of p r q n batch of = says (both batch [] of none)

  accept_of : (p : Part) (r : Role) (q : ℕ) (n : Ballot) (at : ℕ) (es : List Entry) → Are P (on_accept p r q n at es)
  accept_of p r q n at es = test (is_same_ballot p.promised n && is_same_ballot p.accepted n) _ _ (test (nat_lt (len_of p) at) _ _ (says none) (accepts_of p r q n _ (appending_of _))) (says none)

  sync_of : (p : Part) (r : Role) (q : ℕ) (n : Ballot) (x : ℕ) (es : List Entry) → Are P (sync_entries p r q n x es)
  sync_of p r q n x es =
      test (nat_le p.decided x && nat_le x (len_of p)) _ _
      (accepts_of p r q n _ (both (cutting p x ++ appending es) (change.Accept n ∷ []) (both (cutting p x) (appending es) (cutting_of p x) (appending_of es)) (one (change.Accept n) (may.accept n))))
      (says none)

  accept_sync_of : (p : Part) (r : Role) (q : ℕ) (n : Ballot) (x : ℕ) (es : List Entry) → Are P (on_accept_sync p r q n x es)
  accept_sync_of p r q n x es =
      test (is_same_ballot p.promised n && is_below p.accepted n) _ _ (sync_of p r q n x es)
      (accept_of p r q n x es)

  decide_of : (p : Part) (r : Role) (n : Ballot) (x : ℕ) → Are P (on_decide p r n x)
  decide_of p r n x = test (is_same_ballot p.promised n && (is_same_ballot p.accepted n && nat_lt p.decided (min x (len_of p)))) _ _ (says (one (change.Decided _) (may.decided _))) (says none)

  -- ---- trimming

  trims_of : (me : ℕ) (p : Part) (l : state.Leading) (x : ℕ) → x ≤ limit → Are P (trims me p l x)
  trims_of me p l x low = test (nat_lt p.trimmed x) _ _ (says (one (change.Trim x []) (may.trim x low))) (says none)

  trims_reported_of : (me : ℕ) (p : Part) (l : state.Leading) (o : Option ℕ) → IfLow limit o → Are P (trims_reported me p l o)
  trims_reported_of me p l None low = says none
  trims_reported_of me p l (Some x) low = trims_of me p _ x low

  pub trim_now_is : (me : ℕ) (p : Part) (r : Role) → p.decided ≤ limit → Are P (trim_now me p r)
  trim_now_is me p Idle low = says none
  trim_now_is me p (Preparing r) low = says none
  trim_now_is me p (Leading l) low =
      says (trims_reported_of me p (without_reports l) _ (least_low limit [] _ p.decided low)).changes

  progress_of : (me : ℕ) (p : Part) (r : Role) (q : ℕ) (n : Ballot) (x : ℕ) → p.decided ≤ limit → Are P (on_progress me p r q n x)
  progress_of me p Idle q n x low = says none
  progress_of me p (Preparing r) q n x low = says none
  progress_of me p (Leading l) q n x low = test (is_same_ballot n l.ballot) _ _ (trims_reported_of me p _ _ (least_low limit _ (others me p.members) p.decided low)) (says none)

  trim_ask_of : (p : Part) (r : Role) (q : ℕ) (n : Ballot) → Are P (on_trim_ask p r q n)
  trim_ask_of p r q n = test (is_same_ballot p.promised n) _ _ (says none) (says none)

  trim_of : (p : Part) (r : Role) (x : ℕ) → p.decided ≤ limit → Are P (on_trim p r x)
  trim_of p r x low =
      cond_both (nat_lt p.trimmed x && nat_le x p.decided) _ _ (Are P)
      (λ h. says (one (change.Trim x []) (may.trim x (omega (arith, low, leb-true x p.decided (and_parts (nat_lt p.trimmed x) (nat_le x p.decided) h).1)))))
      (λ _. says none)

  -- ---- reads

  confirm_of : (p : Part) (r : Role) (q : ℕ) (n : Ballot) (number : ℕ) → Are P (on_confirm p r q n number)
  confirm_of p r q n number = test (is_same_ballot p.promised n) _ _ (says none) (says none)

  -- ---- a tick, and a message

  either : (b : Bool) (x y : PartStep) → StepIs P x → StepIs P y → StepIs P (cond b x y)
  either b x y ox oy = cond_both b x y (StepIs P) (λ _. ox) (λ _. oy)

  quiet : {x : PartStep} → All P x.batch → StepIs P x
  quiet all = record { changes = all }

  -- a row at what is kept in memory
  row : (v : Volatile) (e : Effects) → Are P e → StepIs P (with_effects v e)
  row v e of = record { changes = of.changes }

  -- a follower's parts
  synced_once_of : (p : Part) (v : Volatile) (q : ℕ) (n : Ballot) (x : ℕ) (held : Held) (o : Option (List Entry)) → StepIs P (synced_once p v q n x held o)
  synced_once_of p v q n x held None = quiet none
  synced_once_of p v q n x held (Some es) = quiet (sync_of p v.role q n x es).changes

  accept_sync_part_of : (p : Part) (v : Volatile) (q : ℕ) (n : Ballot) (part : SyncRun) → StepIs P (on_accept_sync_part p v q n part)
  accept_sync_part_of p v q n part =
      either (is_same_ballot p.promised n && is_below p.accepted n) _ _
      (either ((nat_le p.decided part.start && nat_le part.start (len_of p)) && (nat_le part.start part.at && is_run_to part.end part.at part.run)) _ _
      (synced_once_of p v q n part.start _ _) (quiet none))
      (either (is_same_ballot p.promised n && (is_same_ballot p.accepted n && is_run_to part.end part.at part.run)) _ _
      (quiet (both (appending (front_from (held_with v.staged part.at part.run) (len_of p))) [] (appending_of (front_from (held_with v.staged part.at part.run) (len_of p))) none)) (quiet none))

  elected_of : (me : ℕ) (p : Part) (v : Volatile) (n : Ballot) → p.promised ≡ promised → StepIs P (elected me p v n)
  elected_of me p v n same =
      cond_both (is_below p.promised n) _ _ (StepIs P) (λ h. quiet (lead_of me p v.role n (subst (λ (b : Ballot). is_below b n ≡ true) same h)).changes) (λ _. quiet none)

  by_verdict_of : (me : ℕ) (p : Part) (v : Volatile) (d : Verdict) → p.promised ≡ promised → StepIs P (by_verdict me p v d)
  by_verdict_of me p v verdict.Nobody same = quiet none
  by_verdict_of me p v (verdict.Raised b) same = quiet none
  by_verdict_of me p v (verdict.Elected n) same = either (n.pid == me) _ _ (elected_of me p v n same) (quiet none)

  pub tick_is : (me : ℕ) (p : Part) (v : Volatile) → p.promised ≡ promised → StepIs P (on_tick me p v)
  tick_is me p v same = tick_cases (StepIs P) me p v (λ _. by_verdict_of me p _ _ same) (λ _. quiet none)

  body_of : (me : ℕ) (p : Part) (v : Volatile) (q : ℕ) (b : Body) → p.decided ≤ limit → p.promised ≡ promised → StepIs P (on_body me p v q b)
  body_of me p v q (body.HeartbeatRequest round) low same = quiet none
  body_of me p v q (body.HeartbeatReply round b flag) low same = quiet none
  body_of me p v q (body.Prepare n na nl nd) low same = row v _ (prepare_of p v.role q n na nl nd same)
  body_of me p v q (body.Promise n fa fl fd s es) low same = row v _ (promise_of_part me p v.role n _)
  body_of me p v q (body.AcceptSync n x es) low same = row v _ (accept_sync_of p v.role q n x es)
  body_of me p v q (body.PromisePart n part) low same = row v _ (promise_part_of me p v.role q n part)
  body_of me p v q (body.AcceptSyncPart n part) low same = accept_sync_part_of p v q n part
  body_of me p v q (body.BasePiece x) low same = quiet none
  body_of me p v q (body.Accept n at es) low same = row v _ (accept_of p v.role q n at es)
  body_of me p v q (body.Accepted n x) low same = row v _ (accepted_of me p v.role q n x)
  body_of me p v q (body.Decide n x) low same = row v _ (decide_of p v.role n x)
  body_of me p v q body.PrepareReq low same = row v _ (prepare_req_of p v.role q)
  body_of me p v q (body.Refuse n b) low same = quiet none
  body_of me p v q (body.Forward e) low same = row v _ (forward_of me p v.role (e ∷ []))
  body_of me p v q (body.Forwards es) low same = row v _ (forward_of me p v.role es)
  body_of me p v q (body.TrimAsk n) low same = row v _ (trim_ask_of p v.role q n)
  body_of me p v q (body.Progress n x) low same = row v _ (progress_of me p v.role q n x low)
  body_of me p v q (body.Trim x) low same = row v _ (trim_of p v.role x low)
  body_of me p v q (body.Confirm n number) low same = row v _ (confirm_of p v.role q n number)
  body_of me p v q (body.Confirmed n number) low same = quiet none
  body_of me p v q (body.NextConf members olds len t) low same = quiet none
  body_of me p v q body.AskBase low same = quiet none
  body_of me p v q (body.BasePart at bytes) low same = quiet none
  body_of me p v q (body.AskSegment a b) low same = quiet none
  body_of me p v q (body.Segment at es) low same = quiet none
  body_of me p v q (body.Watch w) low same = quiet none

  pub message_is : (me : ℕ) (p : Part) (v : Volatile) (q : ℕ) (m : Msg) → p.decided ≤ limit → p.promised ≡ promised → StepIs P (on_message me p v q m)
  message_is me p v q m low same = either (m.conf == p.conf && is_admitted_body p m.body) _ _ (body_of me p v q m.body low same) (quiet none)

-- ---- they are of the part

of_part : (limit : ℕ) (promised : Ballot) → RowsHave IsOfPart limit promised
of_part limit promised = record { promise = λ n above. tt; accept = λ n. tt; cut = λ n. tt; append = λ es. tt; decided = λ x. tt; trim = λ x low. tt }

pub propose_of : (me : ℕ) (p : Part) (r : Role) (es : List Entry) → Are IsOfPart (propose me p r es)
propose_of me p r es = propose_is IsOfPart 0 no_ballot (of_part 0 no_ballot) me p r es

pub session_down_of : (r : Role) (q : ℕ) → Are IsOfPart (session_down r q)
session_down_of r q = session_down_is IsOfPart 0 no_ballot (of_part 0 no_ballot) r q

pub session_up_of : (me : ℕ) (p : Part) (r : Role) (q : ℕ) → Are IsOfPart (session_up me p r q)
session_up_of me p r q = session_up_is IsOfPart 0 no_ballot (of_part 0 no_ballot) me p r q

pub trim_now_of : (me : ℕ) (p : Part) (r : Role) → Are IsOfPart (trim_now me p r)
trim_now_of me p r = trim_now_is IsOfPart p.decided p.promised (of_part p.decided p.promised) me p r (omega arith)

pub tick_of : (me : ℕ) (p : Part) (v : Volatile) → StepIs IsOfPart (on_tick me p v)
tick_of me p v = tick_is IsOfPart 0 p.promised (of_part 0 p.promised) me p v refl

pub message_of : (me : ℕ) (p : Part) (v : Volatile) (q : ℕ) (m : Msg) → StepIs IsOfPart (on_message me p v q m)
message_of me p v q m = message_is IsOfPart p.decided p.promised (of_part p.decided p.promised) me p v q m (omega arith) refl
