-- Rows other than a tick's: what they make of ballots. A role keeps its ballot or is given up, a Prepare is of the
-- role's ballot, a Refuse tells the promise, and by a Prepare alone the promise is raised, to its ballot.
use Rattle.std.proofs.Common.{◌≡◌, ◌&&◌, ◌-◌, ◌+◌, ◌⊎◌, inl, inr, ⊎_elim, ℕ, Bool, true, false, cond, eqb, ltb, leb, nat_eq, min, List, [], ◌∷◌, ◌++◌, length, flat_map, drop, Option, Some, None, refl, sym, ap, subst}
use Rattle.std.proofs.lemmas.Bool.{cond_both, true≢false}
use Rattle.std.specs.Set.{is_member}
use Rattle.op_types.specs.Ballots.{is_below, is_same_ballot, greater}
use Rattle.op_types.specs.Changes.{len_of, part_with}
use Rattle.op_types.specs.Effects.{Effects}
use Rattle.op_types.specs.Cutting.{entries_size, cut, parts_from, whole_or_parts}
use Rattle.op_types.specs.Joinings.{Held, held_with, held_run}
use Rattle.op_types.specs.Limits.{positions_end, most_part_bytes}
use Rattle.op_types.specs.Stages.{front_from, staged_from}
use Rattle.op_types.specs.RoleStates.{Preparing, Leading, promise_of, promises_with, with_promise, with_stage, without_stage, told_by, promised_entries, staged_with, with_synced, without_synced, with_acknowledged, with_report, without_reports}
use Rattle.op_types.specs.Roles.{Role}
use Rattle.op_types.specs.Roles as role
use Rattle.op_types.specs.declared.answers.Outcome.{Outcome}
use Rattle.op_types.specs.declared.answers.Outcome.TheVariants as outcome
use Rattle.op_types.specs.declared.answers.Reply.{Reply}
use Rattle.op_types.specs.declared.ballot.Ballot.{Ballot}
use Rattle.op_types.specs.declared.changes.Change.{Change}
use Rattle.op_types.specs.declared.changes.Change.TheVariants as change
use Rattle.op_types.specs.declared.durable.Part.{Part}
use Rattle.op_types.specs.declared.log.Entry.{Entry}
use Rattle.op_types.specs.declared.messages.Body.{Body}
use Rattle.op_types.specs.declared.messages.Body.TheVariants as body
use Rattle.op_types.specs.declared.messages.Msg.{Msg}
use Rattle.op_types.specs.declared.role.Promised.{Promised}
use Rattle.op_types.specs.declared.runs.PromisedRun.{PromisedRun}
use Rattle.op_types.specs.declared.runs.SyncRun.{SyncRun}
use Rattle.op_protocol.specs.State.{Volatile, PartStep, with_effects}
use Rattle.op_protocol.specs.Parts.{part_after, pending, part_in_round, cutting, appending, log_from, message, messages, others, to_each, prepare_body, sync_bodies, sync_run, promise_bodies, promised_run, is_run_to, saying, nothing, first, answered}
use Rattle.op_protocol.specs.Promises.{has_quorum, is_usable, Choice, own_choice, best, choice_changes, chosen_log, chosen_stop, chosen_len, fitting, left_over}
use Rattle.op_protocol.specs.Leader.{counted, count, synced_others, sync_start, sync_sends, sends_by, is_synced, first_leading, leading_with, begin_leading, adopt, prepares, on_promise, promised_once, on_promise_part, decided_again, on_accepted, on_prepare_req, extends, forward_body, propose, on_forward_leading, on_forward, session_down}
use Rattle.op_protocol.specs.Follower.{suffix_start, on_prepare, added_changes, accepts, accept_entries, on_accept, synced_changes, sync_entries, on_accept_sync, unstaged, synced_once, on_first_part, accept_front, appended_staged, on_later_part, on_accept_sync_part, on_decide}
use Rattle.op_protocol.specs.Trimming.{least_reported, trims, trims_reported, trims_if_all, trim_now, on_progress, on_trim_ask, on_trim}
use Rattle.op_protocol.specs.Reading.{on_confirm}
use Rattle.op_protocol.specs.Tick.{remembering}
use Rattle.op_protocol.specs.Rows.{session_up, on_body}
use Rattle.op_lockstep.specs.Lockstep.{is_reply}
use Rattle.op_lockstep.proofs.Lists.{Each, Each-append, Each-flat_map}
use Rattle.op_progress.proofs.Orders.{AtMost, same_at_most, at_most_then, first_at_most}

-- ---- words
-- what is claimed of a role: whether a node may be idle, of the ballot that it prepares with the promises that it keeps, and of
-- the one that it leads; and of what is sent: of the ballot that a Prepare asks for, and of the one that a Refuse tells
pub record Claim : Type 1 where
  pub idle : Type 0
  pub preparing : Ballot → List Promised → Type 0
  pub leading : Ballot → Type 0
  pub asked : Ballot → Type 0
  pub told : Ballot → Type 0

-- it stays where a promise more is kept, by which a node with a majority of them leads
pub record IsKept (me : ℕ) (members : List ℕ) (P : Claim) : Type 0 where
  pub asks : (b : Ballot) (ps : List Promised) → P.preparing b ps → P.asked b
  pub asks_leading : (b : Ballot) → P.leading b → P.asked b
  pub grows : (b : Ballot) (ps : List Promised) (j : Promised) → P.preparing b ps → has_quorum me members (promises_with ps j) ≡ false → P.preparing b (promises_with ps j)
  pub leads : (b : Ballot) (ps : List Promised) (j : Promised) → P.preparing b ps → has_quorum me members (promises_with ps j) ≡ true → P.leading b

abbrev pub RoleIn : Claim → Role → Type 0
RoleIn P role.Idle = P.idle
RoleIn P (role.Preparing r) = P.preparing r.ballot r.promises
RoleIn P (role.Leading l) = P.leading l.ballot

abbrev pub BodyIn : Claim → Body → Type 0
BodyIn P (body.Prepare n na nl nd) = P.asked n
BodyIn P (body.Refuse n b) = P.told b
BodyIn P _ = Unit {0}

abbrev pub SendIn : Claim → ℕ × Msg → Type 0
SendIn P s = BodyIn P s.1.body

-- the same of each ballot that is prepared or led
abbrev pub of_ballots : Type 0 → (Ballot → Type 0) → (Ballot → Type 0) → Claim
of_ballots idle led told = record { idle = idle; preparing = λ x ps. led x; leading = led; asked = led; told = told }

ballots_kept : (idle : Type 0) (led told : Ballot → Type 0) (me : ℕ) (members : List ℕ) → IsKept me members (of_ballots idle led told)
ballots_kept idle led told me members = record { asks = λ b ps k. k; asks_leading = λ b k. k; grows = λ b ps j k _. k; leads = λ b ps j k _. k }

-- a node prepares and leads ballots of its own, and none above this one
abbrev pub up_to : ℕ → Ballot → Claim
up_to me b = of_ballots (Unit {0}) (λ x. AtMost x b × (x.pid ≡ me)) (λ x. AtMost x b)

pub up_to_kept : (pid : ℕ) (b : Ballot) (me : ℕ) (members : List ℕ) → IsKept me members (up_to pid b)
up_to_kept pid b me members = ballots_kept (Unit {0}) (λ x. AtMost x b × (x.pid ≡ pid)) (λ x. AtMost x b) me members

-- it leads or prepares this ballot
abbrev pub only : Ballot → Claim
only b = of_ballots ⊥ (λ x. x ≡ b) (λ x. Unit {0})

pub only_kept : (b : Ballot) (me : ℕ) (members : List ℕ) → IsKept me members (only b)
only_kept b me members = ballots_kept ⊥ (λ x. x ≡ b) (λ x. Unit {0}) me members

-- while it prepares, no majority has promised
abbrev pub waiting : ℕ → List ℕ → Claim
waiting me members = record { idle = Unit {0}; preparing = λ x ps. has_quorum me members ps ≡ false; leading = λ x. Unit {0}; asked = λ x. Unit {0}; told = λ x. Unit {0} }

pub waiting_kept : (me : ℕ) (members : List ℕ) → IsKept me members (waiting me members)
waiting_kept me members = record { asks = λ b ps k. tt; asks_leading = λ b k. tt; grows = λ b ps j k no. no; leads = λ b ps j k _. tt }

-- what follows of messages from one claim to another, and of roles
pub record Implies (P Q : Claim) : Type 0 where
  pub idle : P.idle → Q.idle
  pub preparing : (b : Ballot) (ps : List Promised) → P.preparing b ps → Q.preparing b ps
  pub leading : (b : Ballot) → P.leading b → Q.leading b
  pub asked : (b : Ballot) → P.asked b → Q.asked b
  pub told : (b : Ballot) → P.told b → Q.told b

pub up_to_more : (me : ℕ) (a b : Ballot) → AtMost a b → Implies (up_to me a) (up_to me b)
up_to_more me a b m =
    let led : (x : Ballot) → AtMost x a × (x.pid ≡ me) → AtMost x b × (x.pid ≡ me) = λ x k. (at_most_then x a b k.0 m, k.1) in
    record { idle = λ i. i; preparing = λ x ps k. led x k; leading = led; asked = led; told = λ x k. at_most_then x a b k m }

-- changes that promise nothing
abbrev pub IsFree : Change → Type 0
IsFree (change.Promise n) = ⊥
IsFree _ = Unit {0}

pub record RowIn (P : Claim) (e : Effects) : Type 0 where
  pub batch : Each IsFree e.batch
  pub role : RoleIn P e.role
  pub sends : Each (SendIn P) e.sends

pub role_more : (P Q : Claim) → Implies P Q → (r : Role) → RoleIn P r → RoleIn Q r
role_more P Q h role.Idle k = h.idle k
role_more P Q h (role.Preparing r) k = h.preparing r.ballot r.promises k
role_more P Q h (role.Leading l) k = h.leading l.ballot k

pub body_more : (P Q : Claim) → Implies P Q → (b : Body) → BodyIn P b → BodyIn Q b
body_more P Q h (body.Prepare n na nl nd) k = h.asked n k
body_more P Q h (body.Refuse n b) k = h.told b k
body_more P Q h _ k = tt

free_with : (p : Part) (c : Change) → IsFree c → (part_with p c).promised ≡ p.promised
free_with p (change.Promise n) f = absurd f
free_with p _ f = refl

pub free_after : (p : Part) (batch : List Change) → Each IsFree batch → (part_after p batch).promised ≡ p.promised
free_after p [] f = refl
free_after p (c ∷ batch) f = by (free_after (part_with p c) batch f.1) (free_with p c f.0)
  where
    by : {a b c : Ballot} → a ≡ b → b ≡ c → a ≡ c
    by x y = cc

module _ (P : Claim) where
  -- ---- small rows
  pub saying_in : (r : Role) (sends : List (ℕ × Msg)) → RoleIn P r → Each (SendIn P) sends → RowIn P (saying r sends)
  saying_in r sends k s = record { batch = tt; role = k; sends = s }

  first_in : (batch : List Change) (sends : List (ℕ × Msg)) (replies : List Reply) (e : Effects) → Each IsFree batch → Each (SendIn P) sends → RowIn P e → RowIn P (first batch sends replies e)
  first_in batch sends replies e b s c = record { batch = Each-append IsFree batch e.batch b c.batch; role = c.role; sends = Each-append (SendIn P) sends e.sends s c.sends }

  answered_in : (o : Outcome) (e : Effects) → RowIn P e → RowIn P (answered o e)
  answered_in o e c = record { batch = c.batch; role = c.role; sends = c.sends }

  pub to_each_in : (conf : ℕ) (qs : List ℕ) (b : Body) → BodyIn P b → Each (SendIn P) (to_each conf qs b)
  to_each_in conf [] b c = tt
  to_each_in conf (q ∷ qs) b c = (c, to_each_in conf qs b c)

  messages_in : (conf q : ℕ) (bodies : List Body) → Each (BodyIn P) bodies → Each (SendIn P) (messages conf q bodies)
  messages_in conf q [] c = tt
  messages_in conf q (b ∷ bodies) c = (c.0, messages_in conf q bodies c.1)

  runs_in : (part : ℕ → List Entry → Body) → ((at : ℕ) (run : List Entry) → BodyIn P (part at run)) → (at : ℕ) (runs : List (List Entry)) → Each (BodyIn P) (parts_from part at runs)
  runs_in part f at [] = tt
  runs_in part f at (run ∷ runs) = (f at run, runs_in part f (at + length run) runs)

  parts_in : (whole : Body) (part : ℕ → List Entry → Body) (at : ℕ) (es : List Entry) → BodyIn P whole → ((at : ℕ) (run : List Entry) → BodyIn P (part at run)) → Each (BodyIn P) (whole_or_parts whole part at es)
  parts_in whole part at es w f =
      cond_both (leb (entries_size es) most_part_bytes) (whole ∷ []) (parts_from part at (cut es)) (Each (BodyIn P)) (λ _. (w, tt)) (λ _. runs_in part f at (cut es))

  cutting_in : (p : Part) (x : ℕ) → Each IsFree (cutting p x)
  cutting_in p x = cond_both (ltb x (len_of p)) (change.CutTo x ∷ []) [] (Each IsFree) (λ _. (tt, tt)) (λ _. tt)

  appending_in : (es : List Entry) → Each IsFree (appending es)
  appending_in [] = tt
  appending_in (e ∷ es) = (tt, tt)

  -- ---- a leader
  count_in : (me : ℕ) (p : Part) (len : ℕ) (l : Leading) (otherwise : List (ℕ × Msg)) → P.leading l.ballot → Each (SendIn P) otherwise → RowIn P (count me p len l otherwise)
  count_in me p len l otherwise k c =
      cond_both (ltb p.decided (counted me p.members len l.acknowledged)) _ _ (RowIn P)
      (λ _. record { batch = (tt, tt); role = k; sends = to_each_in p.conf (synced_others me p.members l) (body.Decide l.ballot (counted me p.members len l.acknowledged)) tt })
      (λ _. saying_in (role.Leading l) otherwise k c)

  sync_in : (p : Part) (l : Leading) (k : Promised) → P.asked l.ballot → Each (SendIn P) (sync_sends p l k)
  sync_in p l k c =
      let at : ℕ = sync_start l k in
      let es : List Entry = log_from p at in
      cond_both (ltb at p.trimmed) _ _ (Each (SendIn P)) (λ _. (c, tt))
      (λ _. cond_both (leb at (len_of p)) _ _ (Each (SendIn P))
      (λ _. messages_in p.conf k.from (sync_bodies l.ballot at es) (parts_in (body.AcceptSync l.ballot at es) (λ pos run. body.AcceptSyncPart l.ballot (sync_run at es pos run)) at es tt (λ pos run. tt)))
      (λ _. tt))

  sends_in : (p : Part) (l : Leading) (o : Option Promised) → P.asked l.ballot → Each (SendIn P) (sends_by p l o)
  sends_in p l None c = tt
  sends_in p l (Some k) c = sync_in p l k c

  begin_in : (me : ℕ) (p : Part) (l : Leading) (promises : List Promised) → P.leading l.ballot → P.asked l.ballot → RowIn P (begin_leading me p l promises)
  begin_in me p l promises c a =
      first_in [] (flat_map (λ q. sends_by p l (promise_of promises q)) p.members) [] (count me p (len_of p) (leading_with p l promises) []) tt
      (Each-flat_map (SendIn P) (λ q. sends_by p l (promise_of promises q)) p.members (λ q _. sends_in p l (promise_of promises q) a))
      (count_in me p (len_of p) (leading_with p l promises) [] c tt)

  adopt_in : (me : ℕ) (p : Part) (r : Preparing) → P.leading r.ballot → P.asked r.ballot → RowIn P (adopt me p r)
  adopt_in me p r k a =
      let x : Choice = best p r.promises p.members (own_choice p) in
      let more : List Entry = fitting (chosen_stop p x) (chosen_len p x) r.buffer in
      let q : Part = part_in_round p r.ballot (chosen_log p x ++ more) in
      first_in (choice_changes p x ++ appending more ++ change.Accept r.ballot ∷ []) [] (left_over (chosen_stop p x) (chosen_len p x) r.buffer)
      (begin_leading me q (first_leading r.ballot x) r.promises)
      (Each-append IsFree (choice_changes p x ++ appending more) (change.Accept r.ballot ∷ [])
      (Each-append IsFree (choice_changes p x) (appending more) (Each-append IsFree (cutting p x.start) (appending x.entries) (cutting_in p x.start) (appending_in x.entries)) (appending_in more)) (tt, tt))
      tt (begin_in me q (first_leading r.ballot x) r.promises k a)

  pub prepares_in : (me : ℕ) (p : Part) (r : Preparing) → P.asked r.ballot → (has_quorum me p.members r.promises ≡ true → P.leading r.ballot) → (has_quorum me p.members r.promises ≡ false → P.preparing r.ballot r.promises) → RowIn P (prepares me p r)
  prepares_in me p r a lead stay = cond_both (has_quorum me p.members r.promises) _ _ (RowIn P) (λ q. adopt_in me p r (lead q) a) (λ q. saying_in (role.Preparing r) [] (stay q) tt)

  pub promise_in : (me : ℕ) (p : Part) (r : Role) (n : Ballot) (j : Promised) → IsKept me p.members P → RoleIn P r → RowIn P (on_promise me p r n j)
  promise_in me p role.Idle n j kept k = saying_in role.Idle [] k tt
  promise_in me p (role.Preparing r) n j kept k =
      cond_both (is_same_ballot n r.ballot && is_usable p j) _ _ (RowIn P)
      (λ _. prepares_in me p (with_promise r j) (kept.asks r.ballot r.promises k) (λ q. kept.leads r.ballot r.promises j k q) (λ q. kept.grows r.ballot r.promises j k q))
      (λ _. saying_in (role.Preparing r) [] k tt)
  promise_in me p (role.Leading l) n j kept k =
      cond_both (is_same_ballot n l.ballot) _ _ (RowIn P)
      (λ _. saying_in (role.Leading (cond (is_synced p l j) (with_synced l j.from) l)) (sync_sends p l j)
      (cond_both (is_synced p l j) (with_synced l j.from) l (λ (x : Leading). P.leading x.ballot) (λ _. synced j.from) (λ _. k)) (sync_in p l j (kept.asks_leading l.ballot k)))
      (λ _. saying_in (role.Leading l) [] k tt)
    where
      synced : (q : ℕ) → P.leading (with_synced l q).ballot
      synced q = cond_both (is_member nat_eq l.synced q) l _ (λ (x : Leading). P.leading x.ballot) (λ _. k) (λ _. k)

  once_in : (me : ℕ) (p : Part) (r : Preparing) (q : ℕ) (part : PromisedRun) (held : Held) (o : Option (List Entry)) → IsKept me p.members P → P.preparing r.ballot r.promises → RowIn P (promised_once me p r q part held o)
  once_in me p r q part held None kept k = saying_in (role.Preparing (with_stage r q held)) [] k tt
  once_in me p r q part held (Some es) kept k = promise_in me p (role.Preparing (without_stage r q)) r.ballot (told_by q part es) kept k

  promise_part_in : (me : ℕ) (p : Part) (r : Role) (q : ℕ) (n : Ballot) (part : PromisedRun) → IsKept me p.members P → RoleIn P r → RowIn P (on_promise_part me p r q n part)
  promise_part_in me p role.Idle q n part kept k = saying_in role.Idle [] k tt
  promise_part_in me p (role.Preparing r) q n part kept k =
      cond_both (is_same_ballot n r.ballot && (leb part.start part.at && is_run_to part.len part.at part.run)) (promised_once me p r q part (staged_with r q part) (promised_entries part (staged_with r q part))) (nothing (role.Preparing r)) (RowIn P)
      (λ _. once_in me p r q part (staged_with r q part) (promised_entries part (staged_with r q part)) kept k) (λ _. saying_in (role.Preparing r) [] k tt)
  promise_part_in me p (role.Leading l) q n part kept k =
      cond_both (eqb (part.at + length part.run) part.len) (on_promise me p (role.Leading l) n (told_by q part [])) (nothing (role.Leading l)) (RowIn P)
      (λ _. promise_in me p (role.Leading l) n (told_by q part []) kept k) (λ _. saying_in (role.Leading l) [] k tt)

  again_in : (p : Part) (q : ℕ) (n : Ballot) → Each (SendIn P) (decided_again p q n)
  again_in p q n = cond_both (ltb 0 p.decided) _ _ (Each (SendIn P)) (λ _. (tt, tt)) (λ _. tt)

  accepted_in : (me : ℕ) (p : Part) (r : Role) (q : ℕ) (n : Ballot) (x : ℕ) → RoleIn P r → RowIn P (on_accepted me p r q n x)
  accepted_in me p role.Idle q n x k = saying_in role.Idle [] k tt
  accepted_in me p (role.Preparing r) q n x k = saying_in (role.Preparing r) [] k tt
  accepted_in me p (role.Leading l) q n x k =
      cond_both (is_same_ballot n l.ballot && leb x (len_of p)) _ _ (RowIn P)
      (λ _. count_in me p (len_of p) (with_acknowledged l (record { from = q; len = x })) (decided_again p q l.ballot) k (again_in p q l.ballot)) (λ _. saying_in (role.Leading l) [] k tt)

  prepare_req_in : (me : ℕ) (p : Part) (r : Role) (q : ℕ) → IsKept me p.members P → RoleIn P r → RowIn P (on_prepare_req p r q)
  prepare_req_in me p role.Idle q kept k = saying_in role.Idle [] k tt
  prepare_req_in me p (role.Preparing r) q kept k = saying_in (role.Preparing r) (message p.conf q (prepare_body p r.ballot) ∷ []) k (kept.asks r.ballot r.promises k, tt)
  prepare_req_in me p (role.Leading l) q kept k = saying_in (role.Leading l) (message p.conf q (prepare_body p l.ballot) ∷ []) k (kept.asks_leading l.ballot k, tt)

  extends_in : (me : ℕ) (p : Part) (l : Leading) (es : List Entry) → P.leading l.ballot → RowIn P (extends me p l es)
  extends_in me p l es k =
      first_in (change.Append es ∷ []) (to_each p.conf (synced_others me p.members l) (body.Accept l.ballot (len_of p) es)) [] (count me p (len_of p + length es) l [])
      (tt, tt) (to_each_in p.conf (synced_others me p.members l) (body.Accept l.ballot (len_of p) es) tt) (count_in me p (len_of p + length es) l [] k tt)

  forward_in : (es : List Entry) → BodyIn P (forward_body es)
  forward_in [] = tt
  forward_in (e ∷ []) = tt
  forward_in (e ∷ (d ∷ es)) = tt

  pub propose_in : (me : ℕ) (p : Part) (r : Role) (es : List Entry) → RoleIn P r → RowIn P (propose me p r es)
  propose_in me p role.Idle es k = record { batch = tt; role = k; sends = (forward_in es, tt) }
  propose_in me p (role.Preparing r) es k = record { batch = tt; role = k; sends = tt }
  propose_in me p (role.Leading l) es k = answered_in (outcome.Appended p.conf (len_of p)) (extends me p l es) (extends_in me p l es k)

  leading_forward_in : (me : ℕ) (p : Part) (l : Leading) (es : List Entry) (o : Option ℕ) → P.leading l.ballot → RowIn P (on_forward_leading me p l es o)
  leading_forward_in me p l es (Some pos) k = saying_in (role.Leading l) [] k tt
  leading_forward_in me p l es None k = cond_both (leb (len_of p + length es) positions_end) _ _ (RowIn P) (λ _. extends_in me p l es k) (λ _. saying_in (role.Leading l) [] k tt)

  on_forward_in : (me : ℕ) (p : Part) (r : Role) (es : List Entry) → RoleIn P r → RowIn P (on_forward me p r es)
  on_forward_in me p role.Idle es k = saying_in role.Idle [] k tt
  on_forward_in me p (role.Preparing r) es k = record { batch = tt; role = k; sends = tt }
  on_forward_in me p (role.Leading l) es k = leading_forward_in me p l es (pending p) k

  pub down_in : (r : Role) (q : ℕ) → RoleIn P r → RowIn P (session_down r q)
  down_in role.Idle q k = saying_in role.Idle [] k tt
  down_in (role.Preparing r) q k = saying_in (role.Preparing r) [] k tt
  down_in (role.Leading l) q k = saying_in (role.Leading (without_synced l q)) [] k tt

  pub up_in : (me : ℕ) (p : Part) (r : Role) (q : ℕ) → RoleIn P r → RowIn P (session_up me p r q)
  up_in me p r q k =
      cond_both (is_member nat_eq (others me p.members) q) _ _ (RowIn P) (λ _. saying_in r (message p.conf q body.PrepareReq ∷ []) k (tt, tt)) (λ _. saying_in r [] k tt)

  -- ---- a follower
  accepts_in : (p : Part) (r : Role) (q : ℕ) (n : Ballot) (batch : List Change) → RoleIn P r → Each IsFree batch → RowIn P (accepts p r q n batch)
  accepts_in p r q n batch k c = first_in batch (message p.conf q (body.Accepted n (len_of (part_after p batch))) ∷ []) [] (nothing r) c (tt, tt) (saying_in r [] k tt)

  entries_in : (p : Part) (r : Role) (q : ℕ) (n : Ballot) (at : ℕ) (es : List Entry) → RoleIn P r → RowIn P (accept_entries p r q n at es)
  entries_in p r q n at es k =
      cond_both (ltb (len_of p) at) _ _ (RowIn P) (λ _. saying_in r (message p.conf q body.PrepareReq ∷ []) k (tt, tt))
      (λ _. accepts_in p r q n (added_changes p at es) k (appending_in (drop (len_of p - at) es)))

  accept_in : (p : Part) (r : Role) (q : ℕ) (n : Ballot) (at : ℕ) (es : List Entry) → RoleIn P r → RowIn P (on_accept p r q n at es)
  accept_in p r q n at es k =
      cond_both (is_same_ballot p.promised n && is_same_ballot p.accepted n) _ _ (RowIn P) (λ _. entries_in p r q n at es k) (λ _. saying_in r [] k tt)

  sync_entries_in : (p : Part) (r : Role) (q : ℕ) (n : Ballot) (x : ℕ) (es : List Entry) → RoleIn P r → RowIn P (sync_entries p r q n x es)
  sync_entries_in p r q n x es k =
      cond_both (leb p.decided x && leb x (len_of p)) _ _ (RowIn P)
      (λ _. accepts_in p r q n (synced_changes p n x es) k
      (Each-append IsFree (cutting p x ++ appending es) (change.Accept n ∷ []) (Each-append IsFree (cutting p x) (appending es) (cutting_in p x) (appending_in es)) (tt, tt)))
      (λ _. saying_in r [] k tt)

  accept_sync_in : (p : Part) (r : Role) (q : ℕ) (n : Ballot) (x : ℕ) (es : List Entry) → RoleIn P r → RowIn P (on_accept_sync p r q n x es)
  accept_sync_in p r q n x es k =
      cond_both (is_same_ballot p.promised n && is_below p.accepted n) _ _ (RowIn P) (λ _. sync_entries_in p r q n x es k) (λ _. accept_in p r q n x es k)

  front_in : (p : Part) (r : Role) (q : ℕ) (n : Ballot) (at : ℕ) (es : List Entry) → RoleIn P r → RowIn P (accept_front p r q n at es)
  front_in p r q n at es k =
      let len : ℕ = len_of (part_after p (appending es)) in
      first_in (appending es) (message p.conf q (cond (ltb len at) body.PrepareReq (body.Accepted n len)) ∷ []) [] (nothing r) (appending_in es)
      (cond_both (ltb len at) body.PrepareReq (body.Accepted n len) (λ (b : Body). Each (SendIn P) (message p.conf q b ∷ [])) (λ _. (tt, tt)) (λ _. (tt, tt))) (saying_in r [] k tt)

  decide_in : (p : Part) (r : Role) (n : Ballot) (x : ℕ) → RoleIn P r → RowIn P (on_decide p r n x)
  decide_in p r n x k =
      cond_both (is_same_ballot p.promised n && (is_same_ballot p.accepted n && ltb p.decided (min x (len_of p)))) _ _ (RowIn P)
      (λ _. record { batch = (tt, tt); role = k; sends = tt }) (λ _. saying_in r [] k tt)

  -- ---- trimming and reads
  trims_in : (me : ℕ) (p : Part) (l : Leading) (x : ℕ) → P.leading l.ballot → RowIn P (trims me p l x)
  trims_in me p l x k =
      cond_both (ltb p.trimmed x) _ _ (RowIn P)
      (λ _. first_in (change.Trim x [] ∷ []) (to_each p.conf (others me p.members) (body.Trim x)) [] (nothing (role.Leading l)) (tt, tt) (to_each_in p.conf (others me p.members) (body.Trim x) tt) (saying_in (role.Leading l) [] k tt))
      (λ _. saying_in (role.Leading l) [] k tt)

  reported_in : (me : ℕ) (p : Part) (l : Leading) (o : Option ℕ) → P.leading l.ballot → RowIn P (trims_reported me p l o)
  reported_in me p l None k = saying_in (role.Leading l) [] k tt
  reported_in me p l (Some x) k = trims_in me p (without_reports l) x k

  all_in : (me : ℕ) (p : Part) (l : Leading) → P.leading l.ballot → RowIn P (trims_if_all me p l)
  all_in me p l k = reported_in me p l (least_reported l.reports (others me p.members) p.decided) k

  pub trim_now_in : (me : ℕ) (p : Part) (r : Role) → RoleIn P r → RowIn P (trim_now me p r)
  trim_now_in me p role.Idle k = record { batch = tt; role = k; sends = tt }
  trim_now_in me p (role.Preparing r) k = record { batch = tt; role = k; sends = tt }
  trim_now_in me p (role.Leading l) k =
      answered_in outcome.Asked (first [] (to_each p.conf (others me p.members) (body.TrimAsk l.ballot)) [] (trims_if_all me p (without_reports l)))
      (first_in [] (to_each p.conf (others me p.members) (body.TrimAsk l.ballot)) [] (trims_if_all me p (without_reports l)) tt (to_each_in p.conf (others me p.members) (body.TrimAsk l.ballot) tt) (all_in me p (without_reports l) k))

  progress_in : (me : ℕ) (p : Part) (r : Role) (q : ℕ) (n : Ballot) (x : ℕ) → RoleIn P r → RowIn P (on_progress me p r q n x)
  progress_in me p role.Idle q n x k = saying_in role.Idle [] k tt
  progress_in me p (role.Preparing r) q n x k = saying_in (role.Preparing r) [] k tt
  progress_in me p (role.Leading l) q n x k =
      cond_both (is_same_ballot n l.ballot) _ _ (RowIn P) (λ _. all_in me p (with_report l (record { from = q; decided = x })) k) (λ _. saying_in (role.Leading l) [] k tt)

  trim_ask_in : (p : Part) (r : Role) (q : ℕ) (n : Ballot) → RoleIn P r → RowIn P (on_trim_ask p r q n)
  trim_ask_in p r q n k = cond_both (is_same_ballot p.promised n) _ _ (RowIn P) (λ _. saying_in r (message p.conf q (body.Progress n p.decided) ∷ []) k (tt, tt)) (λ _. saying_in r [] k tt)

  trim_in : (p : Part) (r : Role) (x : ℕ) → RoleIn P r → RowIn P (on_trim p r x)
  trim_in p r x k =
      cond_both (ltb p.trimmed x && leb x p.decided) _ _ (RowIn P) (λ _. first_in (change.Trim x [] ∷ []) [] [] (nothing r) (tt, tt) tt (saying_in r [] k tt)) (λ _. saying_in r [] k tt)

  confirm_in : (p : Part) (r : Role) (q : ℕ) (n : Ballot) (number : ℕ) → RoleIn P r → RowIn P (on_confirm p r q n number)
  confirm_in p r q n number k = cond_both (is_same_ballot p.promised n) _ _ (RowIn P) (λ _. saying_in r (message p.conf q (body.Confirmed n number) ∷ []) k (tt, tt)) (λ _. saying_in r [] k tt)

-- ---- steps at a part
-- what a message brings: a ballot to promise, and one that was promised elsewhere
abbrev pub prepared_in : Body → Option Ballot
prepared_in (body.Prepare n na nl nd) = Some n
prepared_in _ = None

abbrev pub refused_in : Body → Option Ballot
refused_in (body.Refuse n b) = Some b
refused_in _ = None

-- a batch promises this ballot, if it is above the promise, or nothing
abbrev pub Promises : Option Ballot → Part → List Change → Type 0
Promises None p batch = Each IsFree batch
Promises (Some n) p batch = Each IsFree batch ⊎ ((batch ≡ change.Promise n ∷ []) × (is_below p.promised n ≡ true))

-- elections begin where they did, or at this ballot, if there is one
abbrev pub BeginsAt : Option Ballot → Ballot → Ballot → Type 0
BeginsAt None old new = new ≡ old
BeginsAt (Some b) old new = (new ≡ old) ⊎ (new ≡ greater old b)

-- that place rises
pub floor_rises : (o : Option Ballot) (old new : Ballot) → BeginsAt o old new → AtMost old new
floor_rises None old new e = same_at_most old new (sym e)
floor_rises (Some b) old new (inl e) = same_at_most old new (sym e)
floor_rises (Some b) old new (inr e) = subst (AtMost old) (sym e) (first_at_most old b)

-- a step at this part, and what was kept in memory, by what was brought
pub record StepIn (P : Claim) (p : Part) (v : Volatile) (prepared refused : Option Ballot) (replied : Bool) (y : PartStep) : Type 0 where
  pub promises : Promises prepared p y.batch
  -- a role is given up where a ballot is promised
  pub role : P.idle ⊎ Each IsFree y.batch → RoleIn P y.volatile.role
  pub sends : Each (SendIn P) y.sends
  pub own : y.volatile.own ≡ v.own
  pub leader : y.volatile.leader ≡ v.leader
  pub flag : y.volatile.flag ≡ v.flag
  pub floor : BeginsAt refused v.floor y.volatile.floor
  pub heard : replied ≡ false → y.volatile.heard ≡ v.heard

pub no_promise : (o : Option Ballot) (p : Part) (batch : List Change) → Each IsFree batch → Promises o p batch
no_promise None p batch f = f
no_promise (Some n) p batch f = inl f

pub same_floor : (o : Option Ballot) (b : Ballot) → BeginsAt o b b
same_floor None b = refl
same_floor (Some x) b = inl refl

module _ (P : Claim) (p : Part) (v : Volatile) (prepared refused : Option Ballot) (replied : Bool) (k : RoleIn P v.role) where
  abbrev IsStep : PartStep → Type 0
  IsStep y = StepIn P p v prepared refused replied y

  pub remembers : (y : PartStep) → y.volatile ≡ v → Each IsFree y.batch → Each (SendIn P) y.sends → IsStep y
  remembers y e f s =
      record {
        promises = no_promise prepared p y.batch f;
        role = λ _. subst (λ (u : Volatile). RoleIn P u.role) (sym e) k;
        sends = s;
        own = ap (λ (u : Volatile). u.own) e;
        leader = ap (λ (u : Volatile). u.leader) e;
        flag = ap (λ (u : Volatile). u.flag) e;
        floor = subst (λ (u : Volatile). BeginsAt refused v.floor u.floor) (sym e) (same_floor refused v.floor);
        heard = λ _. ap (λ (u : Volatile). u.heard) e;
      }

  pub does : (u : Volatile) (e : Effects) → u.own ≡ v.own → u.leader ≡ v.leader → u.flag ≡ v.flag → u.floor ≡ v.floor → u.heard ≡ v.heard → RowIn P e → IsStep (with_effects u e)
  does u e o l f g t c =
      record {
        promises = no_promise prepared p e.batch c.batch;
        role = λ _. c.role;
        sends = c.sends;
        own = o;
        leader = l;
        flag = f;
        floor = subst (BeginsAt refused v.floor) (sym g) (same_floor refused v.floor);
        heard = λ _. t;
      }

  pub does_row : (e : Effects) → RowIn P e → IsStep (with_effects v e)
  does_row e c = does v e refl refl refl refl refl c

  -- parts of a leader's log
  unstaged_in : (held : Held) (e : Effects) → RowIn P e → IsStep (unstaged p v held e)
  unstaged_in held e c = does (record v { staged = staged_from held (len_of (part_after p e.batch)) }) e refl refl refl refl refl c

  synced_in : (q : ℕ) (n : Ballot) (start : ℕ) (held : Held) (o : Option (List Entry)) → IsStep (synced_once p v q n start held o)
  synced_in q n start held None = does (record v { staged = held }) (nothing v.role) refl refl refl refl refl (saying_in P v.role [] k tt)
  synced_in q n start held (Some es) = unstaged_in held (sync_entries p v.role q n start es) (sync_entries_in P p v.role q n start es k)

  pub sync_part_in : (q : ℕ) (n : Ballot) (part : SyncRun) → IsStep (on_accept_sync_part p v q n part)
  sync_part_in q n part =
      let held : Held = held_with v.staged part.at part.run in
      let whole : Option (List Entry) = held_run held part.start (part.end - part.start) in
      let front : List Entry = front_from held (len_of p) in
      let still : IsStep (with_effects v (nothing v.role)) = does_row (nothing v.role) (saying_in P v.role [] k tt) in
      cond_both (is_same_ballot p.promised n && is_below p.accepted n) (on_first_part p v q n part) (on_later_part p v q n part) IsStep
      (λ _. cond_both ((leb p.decided part.start && leb part.start (len_of p)) && (leb part.start part.at && is_run_to part.end part.at part.run)) (synced_once p v q n part.start held whole) (with_effects v (nothing v.role)) IsStep
      (λ _. synced_in q n part.start held whole) (λ _. still))
      (λ _. cond_both (is_same_ballot p.promised n && (is_same_ballot p.accepted n && is_run_to part.end part.at part.run)) (appended_staged p v q n part.at held) (with_effects v (nothing v.role)) IsStep
      (λ _. unstaged_in held (accept_front p v.role q n part.at front) (front_in P p v.role q n part.at front k)) (λ _. still))

-- a Prepare: a higher ballot is promised, and the role given up
prepare_step : (P : Claim) (p : Part) (v : Volatile) (q : ℕ) (n na : Ballot) (nl nd : ℕ) → P.told p.promised → RoleIn P v.role → StepIn P p v (Some n) None false (with_effects v (on_prepare p v.role q n na nl nd))
prepare_step P p v q n na nl nd h k =
    let s : ℕ = suffix_start p na nl nd in
    let IsStep : Effects → Type 0 = λ (e : Effects). StepIn P p v (Some n) None false (with_effects v e) in
    cond_both (is_below n p.promised) _ _ IsStep (λ _. does_row P p v (Some n) None false k (saying v.role (message p.conf q (body.Refuse n p.promised) ∷ [])) (saying_in P v.role (message p.conf q (body.Refuse n p.promised) ∷ []) k (h, tt)))
    (λ _. cond_both (ltb s p.trimmed) _ _ IsStep (λ _. does_row P p v (Some n) None false k (nothing v.role) (saying_in P v.role [] k tt))
    (λ _. cond_both (is_below p.promised n) _ _ (λ (e : Effects). IsStep (first [] (messages p.conf q (promise_bodies p n s)) [] e))
    (λ above. record { promises = inr (refl, above); role = λ o. ⊎_elim (λ (i : P.idle). i) (λ (f : Each IsFree (change.Promise n ∷ [])). absurd f.0) o; sends = Each-append (SendIn P) (messages p.conf q (promise_bodies p n s)) [] (told s) tt; own = refl; leader = refl; flag = refl; floor = refl; heard = λ _. refl })
    (λ _. does_row P p v (Some n) None false k (first [] (messages p.conf q (promise_bodies p n s)) [] (nothing v.role))
    (first_in P [] (messages p.conf q (promise_bodies p n s)) [] (nothing v.role) tt (told s) (saying_in P v.role [] k tt)))))
  where
    told : (s : ℕ) → Each (SendIn P) (messages p.conf q (promise_bodies p n s))
    told s =
        let es : List Entry = log_from p s in
        messages_in P p.conf q (promise_bodies p n s) (parts_in P (body.Promise n p.accepted (len_of p) p.decided s es) (λ at run. body.PromisePart n (promised_run p s at run)) s es tt (λ at run. tt))

-- whatever a message says
pub body_step : (P : Claim) (me : ℕ) (p : Part) (v : Volatile) (q : ℕ) (b : Body) → IsKept me p.members P → P.told p.promised → RoleIn P v.role → StepIn P p v (prepared_in b) (refused_in b) (is_reply b) (on_body me p v q b)
body_step P me p v q (body.HeartbeatRequest round) kept h k = remembers P p v None None false k (remembering v (message p.conf q (body.HeartbeatReply round v.own v.flag) ∷ [])) refl tt (tt, tt)
body_step P me p v q (body.HeartbeatReply round b flag) kept h k = record { promises = tt; role = λ _. k; sends = tt; own = refl; leader = refl; flag = refl; floor = refl; heard = λ e. absurd (true≢false e) }
body_step P me p v q (body.Prepare n na nl nd) kept h k = prepare_step P p v q n na nl nd h k
body_step P me p v q (body.Promise n fa fl fd s es) kept h k =
    let j : Promised = record { from = q; accepted = fa; len = fl; decided = fd; start = s; entries = es } in
    does_row P p v None None false k (on_promise me p v.role n j) (promise_in P me p v.role n j kept k)
body_step P me p v q (body.AcceptSync n at es) kept h k = does_row P p v None None false k (on_accept_sync p v.role q n at es) (accept_sync_in P p v.role q n at es k)
body_step P me p v q (body.PromisePart n part) kept h k = does_row P p v None None false k (on_promise_part me p v.role q n part) (promise_part_in P me p v.role q n part kept k)
body_step P me p v q (body.AcceptSyncPart n part) kept h k = sync_part_in P p v None None false k q n part
body_step P me p v q (body.Accept n at es) kept h k = does_row P p v None None false k (on_accept p v.role q n at es) (accept_in P p v.role q n at es k)
body_step P me p v q (body.Accepted n at) kept h k = does_row P p v None None false k (on_accepted me p v.role q n at) (accepted_in P me p v.role q n at k)
body_step P me p v q (body.Decide n at) kept h k = does_row P p v None None false k (on_decide p v.role n at) (decide_in P p v.role n at k)
body_step P me p v q body.PrepareReq kept h k = does_row P p v None None false k (on_prepare_req p v.role q) (prepare_req_in P me p v.role q kept k)
body_step P me p v q (body.Refuse n b) kept h k = record { promises = tt; role = λ _. k; sends = tt; own = refl; leader = refl; flag = refl; floor = inr refl; heard = λ _. refl }
body_step P me p v q (body.Forward e) kept h k = does_row P p v None None false k (on_forward me p v.role (e ∷ [])) (on_forward_in P me p v.role (e ∷ []) k)
body_step P me p v q (body.Forwards es) kept h k = does_row P p v None None false k (on_forward me p v.role es) (on_forward_in P me p v.role es k)
body_step P me p v q (body.TrimAsk n) kept h k = does_row P p v None None false k (on_trim_ask p v.role q n) (trim_ask_in P p v.role q n k)
body_step P me p v q (body.Progress n at) kept h k = does_row P p v None None false k (on_progress me p v.role q n at) (progress_in P me p v.role q n at k)
body_step P me p v q (body.Trim at) kept h k = does_row P p v None None false k (on_trim p v.role at) (trim_in P p v.role at k)
body_step P me p v q (body.Confirm n number) kept h k = does_row P p v None None false k (on_confirm p v.role q n number) (confirm_in P p v.role q n number k)
body_step P me p v q _ kept h k = remembers P p v None None false k (remembering v []) refl tt tt
