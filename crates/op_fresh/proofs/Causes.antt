-- Why a step raises what its node has decided: it is told so by a Decide, or it leads and counts.
use Rattle.std.proofs.Common.{◌≡◌, ℕ, ◌+◌, ◌≤◌, ◌⊎◌, inl, inr, List, [], ◌++◌, length, ◌&&◌, ◌==◌, refl, arith, Option, Some, None}
use Rattle.std.specs.Prelude.{nat_lt, nat_le, min}
use Rattle.std.proofs.lemmas.Bool.{cond_both}
use Rattle.op_types.specs.declared.log.Entry.{Entry}
use Rattle.op_paxos.specs.Logs.{overflows}
use Rattle.op_paxos.specs.Nodes.{Promised, PreparingState, LeadingState, Role, Idle, Preparing, Leading, Node}
use Rattle.op_paxos.specs.Messages.{PromisedRun, SyncRun, Msg, Prepare, Promise, PromisePart, AcceptSync, AcceptSyncPart, Accept, Accepted, Decide, PrepareReq, Refuse, Forward, TrimAsk, Progress, Trim, Packet, Effect}
use Rattle.op_paxos.specs.Follower.{suffix_at, on_prepare, appended, on_accept, synced_to, on_accept_sync, unstaged, synced_once, on_first_part, appended_staged, on_later_part, on_accept_sync_part, on_decide}
use Rattle.op_paxos.specs.Leader.{is_usable, own_candidate, best, majority_length, recount, adopted_node, adopt_with, adopt, has_quorum, prepared, on_elected, on_promise_in, promised_once, on_promise_part_in, on_accepted_in, extended, on_propose_in, on_forward_in, on_prepare_req_in}
use Rattle.op_paxos.specs.Nodes.{owner}
use Rattle.op_types.specs.Joinings.{Held}
use Rattle.op_paxos.specs.Parts.{is_run_to, told_by}
use Rattle.op_spec.specs.Machine.{with_at}
use Rattle.op_paxos.specs.Trimming.{on_trim_ask, on_trim, trim_all, on_progress_in, on_trim_now_in}
use Rattle.op_paxos.specs.Worlds.{on_msg, Input, Elected, Proposal, Comes, Up, CutOff, Down, Starts, TrimNow, step}

-- it was told
pub record Heard (i : Input) (o : Effect) : Type 0 where
  pub «from» : ℕ
  pub ballot : ℕ
  pub index : ℕ
  pub input : i ≡ Comes «from» (Decide ballot index)
  pub within : (o.node).decided ≤ index

-- it counted
pub record Counted (ms : List ℕ) (p : ℕ) (o : Effect) : Type 0 where
  pub lead : LeadingState
  pub role : (o.node).role ≡ Leading lead
  pub is : (o.node).decided ≡ majority_length ms p o.node lead

-- what is decided stays, or one of these
abbrev pub Cause : List ℕ → ℕ → Node → Input → Effect → Type 0
Cause ms p nd i o = ((o.node).decided ≡ nd.decided) ⊎ (Heard i o ⊎ Counted ms p o)

module _ (ms : List ℕ) (p : ℕ) (nd : Node) (i : Input) where
  abbrev Why : Effect → Type 0
  Why o = Cause ms p nd i o

  recount_why : (n1 : Node) (l : LeadingState) (a b : List Packet) → n1.decided ≡ nd.decided → Why (recount ms p n1 l a b)
  unfolding recount majority_length
  recount_why n1 l a b d = cond_both (nat_lt n1.decided (majority_length ms p n1 l)) _ _ Why (λ e. inr (inr (record { lead = l; role = refl; is = refl }))) (λ e. inl d)

  prepared_why : (n1 : Node) (r : PreparingState) → n1.decided ≡ nd.decided → Why (prepared ms p n1 r)
  unfolding prepared adopt adopt_with adopted_node
  prepared_why n1 r d = cond_both (has_quorum ms p r) _ _ Why (λ e. recount_why (adopted_node n1 r (best n1 r.kept ms (own_candidate n1))) _ _ [] d) (λ e. inl d)

  first_why : (pre : List Packet) (o : Effect) → Why o → Why (record { node = o.node; sends = pre ++ o.sends })
  first_why pre o (inl e) = inl e
  first_why pre o (inr (inl h)) = inr (inl (record { «from» = h.«from»; ballot = h.ballot; index = h.index; input = h.input; within = h.within }))
  first_why pre o (inr (inr c)) = inr (inr (record { lead = c.lead; role = c.role; is = c.is }))

  elected_why : (n : ℕ) → Why (on_elected ms p nd n)
  unfolding on_elected
  elected_why n = cond_both (nat_lt nd.promised n && (owner n == p)) _ _ Why
      (λ e. first_why _ (prepared ms p (record nd { promised = n; staged = []; role = Idle }) (record { ballot = n; kept = λ q. None; parts = λ q. []; buffer = [] })) (prepared_why (record nd { promised = n; staged = []; role = Idle }) (record { ballot = n; kept = λ q. None; parts = λ q. []; buffer = [] }) refl))
      (λ e. inl refl)

  promise_why : (n1 : Node) (r : Role) (q n : ℕ) (pm : Promised) → n1.decided ≡ nd.decided → Why (on_promise_in ms p n1 r q n pm)
  unfolding on_promise_in
  promise_why n1 Idle q n pm d = inl d
  promise_why n1 (Preparing r) q n pm d = cond_both ((n == r.ballot) && is_usable n1 pm) _ _ Why (λ e. prepared_why n1 _ d) (λ e. inl d)
  promise_why n1 (Leading l) q n pm d = cond_both (n == l.ballot) _ _ Why (λ e. inl d) (λ e. inl d)

  once_why : (r : PreparingState) (q : ℕ) (part : PromisedRun) (held : Held) (o : Option (List Entry)) → Why (promised_once ms p nd r q part held o)
  unfolding promised_once
  once_why r q part held None = inl refl
  once_why r q part held (Some es) = promise_why (record nd { role = Preparing (record r { parts = with_at q [] r.parts }) }) (Preparing (record r { parts = with_at q [] r.parts })) q r.ballot (told_by part es) refl

  promise_part_why : (r : Role) (q n : ℕ) (part : PromisedRun) → Why (on_promise_part_in ms p nd r q n part)
  unfolding on_promise_part_in
  promise_part_why Idle q n part = inl refl
  promise_part_why (Preparing r) q n part = cond_both ((n == r.ballot) && (nat_le part.start part.at && is_run_to part.size part.at part.run)) _ _ Why (λ e. once_why r q part _ _) (λ e. inl refl)
  promise_part_why (Leading l) q n part = cond_both (part.at + length part.run == part.size) _ _ Why (λ e. promise_why nd (Leading l) q n (told_by part []) refl) (λ e. inl refl)

  accepted_why : (r : Role) (q n x : ℕ) → Why (on_accepted_in ms p nd r q n x)
  unfolding on_accepted_in
  accepted_why Idle q n x = inl refl
  accepted_why (Preparing r) q n x = inl refl
  accepted_why (Leading l) q n x = cond_both ((n == l.ballot) && nat_le x (length nd.log)) _ _ Why (λ e. recount_why nd _ [] _ refl) (λ e. inl refl)

  propose_why : (r : Role) (es : List Entry) → Why (on_propose_in ms p nd r es)
  unfolding on_propose_in extended
  propose_why Idle es = inl refl
  propose_why (Preparing r) es = inl refl
  propose_why (Leading l) es = cond_both (overflows nd.log es) _ _ Why (λ d. inl refl) (λ d. recount_why (record nd { log = nd.log ++ es }) l _ [] refl)

  forward_why : (r : Role) (es : List Entry) → Why (on_forward_in ms p nd r es)
  unfolding on_forward_in
  forward_why Idle es = inl refl
  forward_why (Preparing r) es = propose_why (Preparing r) es
  forward_why (Leading l) es = propose_why (Leading l) es

  asked_why : (r : Role) (q : ℕ) → Why (on_prepare_req_in p nd r q)
  unfolding on_prepare_req_in
  asked_why Idle q = inl refl
  asked_why (Preparing r) q = inl refl
  asked_why (Leading l) q = inl refl

  prepare_why : (q n na nl d : ℕ) → Why (on_prepare p nd q n na nl d)
  unfolding on_prepare
  prepare_why q n na nl d = cond_both (nat_lt n nd.promised) _ _ Why (λ e. inl refl) (λ e. cond_both (nat_lt (suffix_at nd na nl d) nd.trimmed) _ _ Why (λ c. inl refl) (λ c. inl refl))

  accept_why : (q n a : ℕ) (es : List Entry) → Why (on_accept p nd q n a es)
  unfolding on_accept appended
  accept_why q n a es = cond_both ((nd.promised == n) && (nd.accepted == n)) _ _ Why (λ e. cond_both (nat_lt (length nd.log) a) _ _ Why (λ c. inl refl) (λ c. inl refl)) (λ e. inl refl)

  sync_why : (q n x : ℕ) (es : List Entry) → Why (on_accept_sync p nd q n x es)
  unfolding on_accept_sync synced_to
  sync_why q n x es = cond_both ((nd.promised == n) && nat_lt nd.accepted n) _ _ Why
      (λ e. cond_both (nat_le nd.decided x && nat_le x (length nd.log)) _ _ Why (λ c. inl refl) (λ c. inl refl)) (λ e. accept_why q n x es)

  synced_once_why : (q n x : ℕ) (s : Held) (o : Option (List Entry)) → Why (synced_once p (record nd { staged = s }) q n x o)
  unfolding synced_once synced_to
  synced_once_why q n x s None = inl refl
  synced_once_why q n x s (Some es) = cond_both (nat_le nd.decided x && nat_le x (length nd.log)) _ _ (λ o. Why (unstaged o)) (λ c. inl refl) (λ c. inl refl)

  sync_part_why : (q n : ℕ) (part : SyncRun) → Why (on_accept_sync_part p nd q n part)
  unfolding on_accept_sync_part on_first_part on_later_part appended_staged
  sync_part_why q n part = cond_both ((nd.promised == n) && nat_lt nd.accepted n) _ _ Why
      (λ e. cond_both ((nat_le nd.decided part.start && nat_le part.start (length nd.log)) && (nat_le part.start part.at && is_run_to part.end part.at part.run)) _ _ Why (λ c. synced_once_why q n part.start _ _) (λ c. inl refl))
      (λ e. cond_both ((nd.promised == n) && ((nd.accepted == n) && is_run_to part.end part.at part.run)) _ _ Why (λ c. inl refl) (λ c. inl refl))

  decide_why : (q n x : ℕ) → i ≡ Comes q (Decide n x) → Why (on_decide nd n x)
  unfolding on_decide
  decide_why q n x came = cond_both ((nd.promised == n) && ((nd.accepted == n) && nat_lt nd.decided (min x (length nd.log)))) _ _ Why
      (λ e. inr (inl (record { «from» = q; ballot = n; index = x; input = came; within = omega arith })))
      (λ e. inl refl)

  trim_ask_why : (q n : ℕ) → Why (on_trim_ask p nd q n)
  unfolding on_trim_ask
  trim_ask_why q n = cond_both (nd.promised == n) _ _ Why (λ e. inl refl) (λ e. inl refl)

  trim_why : (x : ℕ) → Why (on_trim nd x)
  unfolding on_trim
  trim_why x = cond_both (nat_lt nd.trimmed x && nat_le x nd.decided) _ _ Why (λ e. inl refl) (λ e. inl refl)

  all_trim_why : (l : LeadingState) (r : ℕ → Option ℕ) (o : Option ℕ) → Why (trim_all ms p nd l r o)
  unfolding trim_all
  all_trim_why l r None = inl refl
  all_trim_why l r (Some x) = cond_both (nat_lt nd.trimmed x) _ _ Why (λ e. inl refl) (λ e. inl refl)

  progress_why : (r : Role) (q n d : ℕ) → Why (on_progress_in ms p nd r q n d)
  unfolding on_progress_in
  progress_why Idle q n d = inl refl
  progress_why (Preparing r) q n d = inl refl
  progress_why (Leading l) q n d = cond_both (n == l.ballot) _ _ Why (λ e. all_trim_why l _ _) (λ e. inl refl)

  trim_now_why : (r : Role) → Why (on_trim_now_in ms p nd r)
  unfolding on_trim_now_in
  trim_now_why Idle = inl refl
  trim_now_why (Preparing r) = inl refl
  trim_now_why (Leading l) = first_why _ (trim_all ms p nd l _ _) (all_trim_why l _ _)

  msg_why : (q : ℕ) (m : Msg) → i ≡ Comes q m → Why (on_msg ms p nd q m)
  unfolding on_msg
  msg_why q (Prepare n na nl d) e = prepare_why q n na nl d
  msg_why q (Promise n pm) e = promise_why nd nd.role q n pm refl
  msg_why q (PromisePart n part) e = promise_part_why nd.role q n part
  msg_why q (AcceptSync n x es) e = sync_why q n x es
  msg_why q (AcceptSyncPart n part) e = sync_part_why q n part
  msg_why q (Accept n a es) e = accept_why q n a es
  msg_why q (Accepted n x) e = accepted_why nd.role q n x
  msg_why q (Decide n x) e = decide_why q n x e
  msg_why q PrepareReq e = asked_why nd.role q
  msg_why q (Refuse n b) e = inl refl
  msg_why q (Forward es) e = forward_why nd.role es
  msg_why q (TrimAsk n) e = trim_ask_why q n
  msg_why q (Progress n d) e = progress_why nd.role q n d
  msg_why q (Trim x) e = trim_why x

-- so of every step
pub step_cause : (ms : List ℕ) (p : ℕ) (nd : Node) (i : Input) → Cause ms p nd i (step ms p nd i)
unfolding step
step_cause ms p nd (Elected n) = elected_why ms p nd (Elected n) n
step_cause ms p nd (Proposal es) = propose_why ms p nd (Proposal es) nd.role es
step_cause ms p nd (Comes q m) = msg_why ms p nd (Comes q m) q m refl
step_cause ms p nd (Up q) = inl refl
step_cause ms p nd (CutOff heard) = inl refl
step_cause ms p nd (Down q) = inl refl
step_cause ms p nd TrimNow = trim_now_why ms p nd TrimNow nd.role
step_cause ms p nd Starts = inl refl
