-- Where such servers alone are elected, each ballot that is promised is one's of them.
use Rattle.std.proofs.Common.{◌≡◌, ℕ, ◌⊎◌, inl, inr, ⊎_elim, List, [], ◌∷◌, ◌++◌, length, Bool, true, ◌&&◌, ◌==◌, ◌+◌, drop, refl, sym, subst, Option, Some, None}
use Rattle.std.specs.Prelude.{nat_lt, nat_le, min, slice_get}
use Rattle.std.proofs.lemmas.Bool.{cond_both, and_parts, eqb-true}
use Rattle.op_types.specs.declared.log.Entry.{Entry}
use Rattle.op_types.specs.Joinings.{Held, held_with}
use Rattle.op_types.specs.Stages.{front_from}
use Rattle.op_spec.specs.Machine.{IsAmong, with_at}
use Rattle.op_paxos.specs.Parts.{is_run_to, told_by}
use Rattle.op_paxos.specs.Logs.{overflows}
use Rattle.op_paxos.specs.Nodes.{owner, Promised, PreparingState, LeadingState, Role, Idle, Preparing, Leading, Node}
use Rattle.op_paxos.specs.Messages.{PromisedRun, SyncRun, Msg, Prepare, Promise, PromisePart, AcceptSync, AcceptSyncPart, Accept, Accepted, Decide, PrepareReq, Refuse, Forward, TrimAsk, Progress, Trim, Packet, Effect, packet, broadcast}
use Rattle.op_paxos.specs.Follower.{suffix_at, promise_of, on_prepare, appended, on_accept, synced_to, on_accept_sync, unstaged, synced_once, on_first_part, appended_staged, on_later_part, on_accept_sync_part, on_decide}
use Rattle.op_paxos.specs.Leader.{is_usable, own_candidate, best, sync_at, sync_sends, all_sends, majority_length, recount, adopted_node, new_leading, adopt_with, adopt, has_quorum, prepared, on_elected, on_promise_in, promised_once, on_promise_part_in, on_accepted_in, extended, on_propose_in, on_forward_in, on_prepare_req_in, without}
use Rattle.op_paxos.specs.Trimming.{on_trim_ask, on_trim, trim_all, on_progress_in, on_trim_now_in}
use Rattle.op_paxos.specs.Worlds.{on_msg, Input, Elected, Proposal, Comes, Up, CutOff, Down, Starts, TrimNow, step, World, Event, Leads, Proposes, Delivers, Restarts, Trims, Links, Asks, Unlinks, Stops, stepped, taken_by, input_of, fate_of, applied, happens, run, start}
use Rattle.op_paxos.proofs.Membership.{single, in_append, in_from_get}
use Rattle.op_paxos.proofs.LeaderSteps.{in_spread}
use Rattle.op_paxos.proofs.SentParts.{promise_packets, sync_packets}
use Rattle.op_paxos.proofs.Updates.{upd_both}

-- who is elected by an event is such a one
abbrev pub LedAmong : (ℕ → Type 0) → Event → Type 0
LedAmong O (Leads p n) = O p
LedAmong O (Stops e) = LedAmong O e
LedAmong O _ = Unit {0}

-- the same of each of them
abbrev pub AllLed : (ℕ → Type 0) → List Event → Type 0
AllLed O [] = Unit {0}
AllLed O (e ∷ es) = LedAmong O e × AllLed O es

-- no ballot, or one of such a server
abbrev pub IsOurs : (ℕ → Type 0) → ℕ → Type 0
IsOurs O n = (n ≡ 0) ⊎ O (owner n)

abbrev RoleOurs : (ℕ → Type 0) → Role → Type 0
RoleOurs O Idle = Unit {0}
RoleOurs O (Preparing r) = IsOurs O r.ballot
RoleOurs O (Leading l) = IsOurs O l.ballot

abbrev MsgOurs : (ℕ → Type 0) → Msg → Type 0
MsgOurs O (Prepare n na nl nd) = IsOurs O n
MsgOurs O _ = Unit {0}

abbrev AllOurs : (ℕ → Type 0) → List Packet → Type 0
AllOurs O sends = (m : Packet) → IsAmong sends m → MsgOurs O m.msg

-- a node's ballots
pub record NodeOurs (O : ℕ → Type 0) (nd : Node) : Type 0 where
  pub promised : IsOurs O nd.promised
  role : RoleOurs O nd.role

record Out (O : ℕ → Type 0) (o : Effect) : Type 0 where
  node : NodeOurs O o.node
  sends : AllOurs O o.sends

-- all ballots of a world
pub record WorldOurs (O : ℕ → Type 0) (w : World) : Type 0 where
  pub nodes : (p : ℕ) → NodeOurs O (w.nodes p)
  packets : AllOurs O w.packets

abbrev InputOurs : (ℕ → Type 0) → ℕ → Input → Type 0
InputOurs O p (Elected n) = O p
InputOurs O p (Comes q m) = MsgOurs O m
InputOurs O p _ = Unit {0}

module _ (O : ℕ → Type 0) (ms : List ℕ) (p : ℕ) where
  one_ours : (q : ℕ) (b : Msg) → MsgOurs O b → AllOurs O (packet p q b ∷ [])
  one_ours q b h = single (λ m. MsgOurs O m.msg) (packet p q b) h

  spread_ours : (f : ℕ → Bool) (b : Msg) → MsgOurs O b → AllOurs O (broadcast p f b ms)
  spread_ours f b h = in_spread (λ m. MsgOurs O m.msg) p f b (λ q. h) ms

  both_ours : (xs ys : List Packet) → AllOurs O xs → AllOurs O ys → AllOurs O (xs ++ ys)
  both_ours xs ys a b m i = ⊎_elim (λ (x : IsAmong xs m). a m x) (λ (x : IsAmong ys m). b m x) (in_append m xs ys i)

  none_ours : AllOurs O []
  none_ours m i = absurd i

  gives : (nd : Node) (sends : List Packet) → IsOurs O nd.promised → RoleOurs O nd.role → AllOurs O sends → Out O (record { node = nd; sends = sends })
  gives nd sends a r s = record { node = record { promised = a; role = r }; sends = s }

  -- ---- the leader
  sync_ours : (nd : Node) (l : LeadingState) → IsOurs O l.ballot → (q : ℕ) (k : Option Promised) → AllOurs O (sync_sends p nd l q k)
  sync_ours nd l b q None = none_ours
  sync_ours nd l b q (Some pm) =
      cond_both (nat_lt (sync_at l pm) nd.trimmed) _ _ (AllOurs O) (λ e. one_ours q (Prepare l.ballot nd.accepted (length nd.log) nd.decided) b)
      (λ c. cond_both (nat_le (sync_at l pm) (length nd.log)) _ _ (AllOurs O) (λ e. sync_packets (λ m. MsgOurs O m.msg) p q l.ballot (sync_at l pm) (drop (sync_at l pm) nd.log) tt (λ at run r. tt)) (λ e. none_ours))

  all_sync_ours : (nd : Node) (l : LeadingState) → IsOurs O l.ballot → (kept : ℕ → Option Promised) (qs : List ℕ) → AllOurs O (all_sends p nd l kept qs)
  all_sync_ours nd l b kept [] = none_ours
  all_sync_ours nd l b kept (q ∷ qs) = both_ours (sync_sends p nd l q (kept q)) (all_sends p nd l kept qs) (sync_ours nd l b q (kept q)) (all_sync_ours nd l b kept qs)

  recount_ours : (nd : Node) (l : LeadingState) (a b : List Packet) → IsOurs O nd.promised → IsOurs O l.ballot → AllOurs O a → AllOurs O b → Out O (recount ms p nd l a b)
  unfolding recount
  recount_ours nd l a b u v x y = cond_both (nat_lt nd.decided (majority_length ms p nd l)) _ _ (Out O)
      (λ e. gives _ _ u v (both_ours a (broadcast p l.synced (Decide l.ballot (majority_length ms p nd l)) ms) x (spread_ours l.synced (Decide l.ballot (majority_length ms p nd l)) tt)))
      (λ e. gives _ _ u v (both_ours a b x y))

  prepared_ours : (nd : Node) (r : PreparingState) → IsOurs O nd.promised → IsOurs O r.ballot → Out O (prepared ms p nd r)
  unfolding prepared adopt adopt_with adopted_node new_leading
  prepared_ours nd r u v =
      let c = best nd r.kept ms (own_candidate nd) in
      cond_both (has_quorum ms p r) _ _ (Out O)
      (λ e. recount_ours (adopted_node nd r c) _ _ [] u v (all_sync_ours (adopted_node nd r c) (new_leading nd r c) v r.kept ms) none_ours)
      (λ e. gives _ [] u v none_ours)

  first_ours : (pre : List Packet) (o : Effect) → AllOurs O pre → Out O o → Out O (record { node = o.node; sends = pre ++ o.sends })
  first_ours pre o h k = record { node = k.node; sends = both_ours pre o.sends h k.sends }

  promise_ours : (nd : Node) → NodeOurs O nd → (r : Role) → RoleOurs O r → (q n : ℕ) (pm : Promised) → Out O (on_promise_in ms p nd r q n pm)
  unfolding on_promise_in
  promise_ours nd h Idle k q n pm = record { node = h; sends = none_ours }
  promise_ours nd h (Preparing r) k q n pm = cond_both ((n == r.ballot) && is_usable nd pm) _ _ (Out O) (λ e. prepared_ours nd _ h.promised k) (λ e. record { node = h; sends = none_ours })
  promise_ours nd h (Leading l) k q n pm = cond_both (n == l.ballot) _ _ (Out O) (λ e. gives _ (sync_sends p nd l q (Some pm)) h.promised k (sync_ours nd l k q (Some pm))) (λ e. record { node = h; sends = none_ours })

  -- one that comes in parts
  once_ours : (nd : Node) → NodeOurs O nd → (r : PreparingState) → IsOurs O r.ballot → (q : ℕ) (part : PromisedRun) (held : Held) (o : Option (List Entry)) → Out O (promised_once ms p nd r q part held o)
  unfolding promised_once
  once_ours nd h r k q part held None = gives _ [] h.promised k none_ours
  once_ours nd h r k q part held (Some es) =
      promise_ours (record nd { role = Preparing (record r { parts = with_at q [] r.parts }) }) (record { promised = h.promised; role = k }) (Preparing (record r { parts = with_at q [] r.parts })) k q r.ballot (told_by part es)

  module _ (nd : Node) (ours : NodeOurs O nd) where
    stays : Out O (record { node = nd; sends = [] })
    stays = record { node = ours; sends = none_ours }

    says : (q : ℕ) (b : Msg) → MsgOurs O b → Out O (record { node = nd; sends = packet p q b ∷ [] })
    says q b h = record { node = ours; sends = one_ours q b h }

    elected_ours : (n : ℕ) → O p → Out O (on_elected ms p nd n)
    unfolding on_elected
    elected_ours n mine = cond_both (nat_lt nd.promised n && (owner n == p)) _ _ (Out O)
        (λ e. let own : owner n ≡ p = eqb-true (owner n) p (and_parts (nat_lt nd.promised n) (owner n == p) e).1 in
        let b : IsOurs O n = inr (subst O (sym own) mine) in
        first_ours (broadcast p (λ q. true) (Prepare n nd.accepted (length nd.log) nd.decided) ms) _
        (spread_ours (λ q. true) (Prepare n nd.accepted (length nd.log) nd.decided) b)
        (prepared_ours (record nd { promised = n; staged = []; role = Idle }) (record { ballot = n; kept = λ q. None; parts = λ q. []; buffer = [] }) b b))
        (λ e. stays)

    promise_part_ours : (r : Role) → RoleOurs O r → (q n : ℕ) (part : PromisedRun) → Out O (on_promise_part_in ms p nd r q n part)
    unfolding on_promise_part_in
    promise_part_ours Idle k q n part = stays
    promise_part_ours (Preparing r) k q n part = cond_both ((n == r.ballot) && (nat_le part.start part.at && is_run_to part.size part.at part.run)) _ _ (Out O) (λ e. once_ours nd ours r k q part _ _) (λ e. stays)
    promise_part_ours (Leading l) k q n part = cond_both (part.at + length part.run == part.size) _ _ (Out O) (λ e. promise_ours nd ours (Leading l) k q n (told_by part [])) (λ e. stays)

    accepted_ours : (r : Role) → RoleOurs O r → (q n x : ℕ) → Out O (on_accepted_in ms p nd r q n x)
    unfolding on_accepted_in
    accepted_ours Idle k q n x = stays
    accepted_ours (Preparing r) k q n x = stays
    accepted_ours (Leading l) k q n x = cond_both ((n == l.ballot) && nat_le x (length nd.log)) _ _ (Out O)
        (λ e. recount_ours nd _ [] _ ours.promised k none_ours (cond_both (nat_lt 0 nd.decided) (packet p q (Decide l.ballot nd.decided) ∷ []) [] (AllOurs O) (λ d. one_ours q (Decide l.ballot nd.decided) tt) (λ d. none_ours)))
        (λ e. stays)

    propose_ours : (r : Role) → RoleOurs O r → (es : List Entry) → Out O (on_propose_in ms p nd r es)
    unfolding on_propose_in extended
    propose_ours Idle k es = says (owner nd.promised) (Forward es) tt
    propose_ours (Preparing r) k es = gives _ [] ours.promised k none_ours
    propose_ours (Leading l) k es = cond_both (overflows nd.log es) _ _ (Out O) (λ d. stays)
        (λ d. recount_ours (record nd { log = nd.log ++ es }) l _ [] ours.promised k (spread_ours l.synced (Accept l.ballot (length nd.log) es) tt) none_ours)

    forward_ours : (r : Role) → RoleOurs O r → (es : List Entry) → Out O (on_forward_in ms p nd r es)
    unfolding on_forward_in
    forward_ours Idle k es = stays
    forward_ours (Preparing r) k es = propose_ours (Preparing r) k es
    forward_ours (Leading l) k es = propose_ours (Leading l) k es

    asked_ours : (r : Role) → RoleOurs O r → (q : ℕ) → Out O (on_prepare_req_in p nd r q)
    unfolding on_prepare_req_in
    asked_ours Idle k q = stays
    asked_ours (Preparing r) k q = says q (Prepare r.ballot nd.accepted (length nd.log) nd.decided) k
    asked_ours (Leading l) k q = says q (Prepare l.ballot nd.accepted (length nd.log) nd.decided) k

    down_ours : (r : Role) → RoleOurs O r → (q : ℕ) → RoleOurs O (without r q)
    down_ours Idle k q = tt
    down_ours (Preparing r) k q = k
    down_ours (Leading l) k q = k

    -- ---- the follower
    prepare_ours : (q n na nl d : ℕ) → IsOurs O n → Out O (on_prepare p nd q n na nl d)
    unfolding on_prepare
    prepare_ours q n na nl d b = cond_both (nat_lt n nd.promised) _ _ (Out O) (λ e. says q (Refuse n nd.promised) tt)
        (λ e. cond_both (nat_lt (suffix_at nd na nl d) nd.trimmed) _ _ (Out O) (λ c. stays)
        (λ c. gives _ _ b (cond_both (nat_lt nd.promised n) Idle nd.role (RoleOurs O) (λ x. tt) (λ x. ours.role)) (promise_packets (λ m. MsgOurs O m.msg) p q n (promise_of nd (suffix_at nd na nl d)) tt (λ at run r. tt))))

    accept_ours : (q n a : ℕ) (es : List Entry) → Out O (on_accept p nd q n a es)
    unfolding on_accept appended
    accept_ours q n a es = cond_both ((nd.promised == n) && (nd.accepted == n)) _ _ (Out O)
        (λ e. cond_both (nat_lt (length nd.log) a) _ _ (Out O) (λ c. says q PrepareReq tt) (λ c. gives _ _ ours.promised ours.role (one_ours q _ tt))) (λ e. stays)

    take_ours : (q n x : ℕ) (es : List Entry) → Out O (on_accept_sync p nd q n x es)
    unfolding on_accept_sync synced_to
    take_ours q n x es = cond_both ((nd.promised == n) && nat_lt nd.accepted n) _ _ (Out O)
        (λ e. cond_both (nat_le nd.decided x && nat_le x (length nd.log)) _ _ (Out O) (λ c. gives _ _ ours.promised ours.role (one_ours q _ tt)) (λ c. stays))
        (λ e. accept_ours q n x es)

    synced_ours : (q n x : ℕ) (s : Held) (o : Option (List Entry)) → Out O (synced_once p (record nd { staged = s }) q n x o)
    unfolding synced_once synced_to
    synced_ours q n x s None = gives _ [] ours.promised ours.role none_ours
    synced_ours q n x s (Some es) = cond_both (nat_le nd.decided x && nat_le x (length nd.log)) _ _ (λ o. Out O (unstaged o)) (λ c. gives _ _ ours.promised ours.role (one_ours q _ tt)) (λ c. gives _ [] ours.promised ours.role none_ours)

    sync_part_ours : (q n : ℕ) (part : SyncRun) → Out O (on_accept_sync_part p nd q n part)
    unfolding on_accept_sync_part on_first_part on_later_part appended_staged
    sync_part_ours q n part = cond_both ((nd.promised == n) && nat_lt nd.accepted n) _ _ (Out O)
        (λ e. cond_both ((nat_le nd.decided part.start && nat_le part.start (length nd.log)) && (nat_le part.start part.at && is_run_to part.end part.at part.run)) _ _ (Out O) (λ c. synced_ours q n part.start _ _) (λ c. stays))
        (λ e. cond_both ((nd.promised == n) && ((nd.accepted == n) && is_run_to part.end part.at part.run)) _ _ (Out O)
        (λ c. gives _ _ ours.promised ours.role (cond_both (nat_lt (length (nd.log ++ front_from (held_with nd.staged part.at part.run) (length nd.log))) part.at) _ _ (λ b. AllOurs O (packet p q b ∷ [])) (λ d. one_ours q PrepareReq tt) (λ d. one_ours q _ tt)))
        (λ c. stays))

    decide_ours : (n x : ℕ) → Out O (on_decide nd n x)
    unfolding on_decide
    decide_ours n x = cond_both ((nd.promised == n) && ((nd.accepted == n) && nat_lt nd.decided (min x (length nd.log)))) _ _ (Out O)
        (λ e. gives _ [] ours.promised ours.role none_ours) (λ e. stays)

    -- ---- trimming
    ask_ours : (q n : ℕ) → Out O (on_trim_ask p nd q n)
    unfolding on_trim_ask
    ask_ours q n = cond_both (nd.promised == n) _ _ (Out O) (λ e. says q (Progress n nd.decided) tt) (λ e. stays)

    trim_ours : (x : ℕ) → Out O (on_trim nd x)
    unfolding on_trim
    trim_ours x = cond_both (nat_lt nd.trimmed x && nat_le x nd.decided) _ _ (Out O) (λ e. gives _ [] ours.promised ours.role none_ours) (λ e. stays)

    all_trim_ours : (l : LeadingState) → IsOurs O l.ballot → (r : ℕ → Option ℕ) (o : Option ℕ) → Out O (trim_all ms p nd l r o)
    unfolding trim_all
    all_trim_ours l k r None = gives _ [] ours.promised k none_ours
    all_trim_ours l k r (Some x) = cond_both (nat_lt nd.trimmed x) _ _ (Out O)
        (λ e. gives _ _ ours.promised k (spread_ours (λ q. true) (Trim x) tt)) (λ e. gives _ [] ours.promised k none_ours)

    progress_ours : (r : Role) → RoleOurs O r → (q n d : ℕ) → Out O (on_progress_in ms p nd r q n d)
    unfolding on_progress_in
    progress_ours Idle k q n d = stays
    progress_ours (Preparing r) k q n d = stays
    progress_ours (Leading l) k q n d = cond_both (n == l.ballot) _ _ (Out O) (λ e. all_trim_ours l k _ _) (λ e. stays)

    now_ours : (r : Role) → RoleOurs O r → Out O (on_trim_now_in ms p nd r)
    unfolding on_trim_now_in
    now_ours Idle k = stays
    now_ours (Preparing r) k = stays
    now_ours (Leading l) k = first_ours (broadcast p (λ q. true) (TrimAsk l.ballot) ms) _ (spread_ours (λ q. true) (TrimAsk l.ballot) tt) (all_trim_ours l k _ _)

    -- ---- every step
    msg_ours : (q : ℕ) (m : Msg) → MsgOurs O m → Out O (on_msg ms p nd q m)
    unfolding on_msg
    msg_ours q (Prepare n na nl d) k = prepare_ours q n na nl d k
    msg_ours q (Promise n pm) k = promise_ours nd ours nd.role ours.role q n pm
    msg_ours q (PromisePart n part) k = promise_part_ours nd.role ours.role q n part
    msg_ours q (AcceptSync n x es) k = take_ours q n x es
    msg_ours q (AcceptSyncPart n part) k = sync_part_ours q n part
    msg_ours q (Accept n a es) k = accept_ours q n a es
    msg_ours q (Accepted n x) k = accepted_ours nd.role ours.role q n x
    msg_ours q (Decide n x) k = decide_ours n x
    msg_ours q PrepareReq k = asked_ours nd.role ours.role q
    msg_ours q (Refuse n b) k = stays
    msg_ours q (Forward e) k = forward_ours nd.role ours.role e
    msg_ours q (TrimAsk n) k = ask_ours q n
    msg_ours q (Progress n d) k = progress_ours nd.role ours.role q n d
    msg_ours q (Trim x) k = trim_ours x

    step_ours : (i : Input) → InputOurs O p i → Out O (step ms p nd i)
    unfolding step
    step_ours (Elected n) k = elected_ours n k
    step_ours (Proposal es) k = propose_ours nd.role ours.role es
    step_ours (Comes q m) k = msg_ours q m k
    step_ours (Up q) k = says q PrepareReq tt
    step_ours (CutOff heard) k = gives _ _ ours.promised ours.role (spread_ours heard PrepareReq tt)
    step_ours (Down q) k = gives _ [] ours.promised (down_ours nd.role ours.role q) none_ours
    step_ours TrimNow k = now_ours nd.role ours.role
    step_ours Starts k = gives _ _ ours.promised tt (spread_ours (λ q. true) PrepareReq tt)

-- ---- events

module _ (O : ℕ → Type 0) (ms : List ℕ) (w : World) (ours : WorldOurs O w) where
  abbrev IfInput : Option (ℕ × Input) → Type 0
  IfInput None = Unit {0}
  IfInput (Some x) = InputOurs O x.0 x.1

  taken_ours : (e : Event) (o : Option Packet) → ((m : Packet) → o ≡ Some m → MsgOurs O m.msg) → IfInput (taken_by w e o)
  taken_ours e None h = tt
  taken_ours e (Some m) h = h m refl

  input_ours : (e : Event) → LedAmong O e → IfInput (input_of w e)
  unfolding input_of
  input_ours (Leads p n) k = k
  input_ours (Proposes p es) k = tt
  input_ours (Delivers i) k = taken_ours (Delivers i) (slice_get w.packets i) (λ m e. ours.packets m (in_from_get w.packets i m e))
  input_ours (Restarts p) k = tt
  input_ours (Trims p) k = tt
  input_ours (Links p q) k = tt
  input_ours (Asks p heard) k = tt
  input_ours (Unlinks p q) k = tt
  input_ours (Stops e) k = input_ours e k

  fated_ours : (e : Event) (o : Effect) → Out O o → Out O (fate_of e o)
  fated_ours (Stops e) o k = record { node = record { promised = (k.node).promised; role = tt }; sends = λ m i. absurd i }
  fated_ours (Leads p n) o k = k
  fated_ours (Proposes p es) o k = k
  fated_ours (Delivers i) o k = k
  fated_ours (Restarts p) o k = k
  fated_ours (Trims p) o k = k
  fated_ours (Links p q) o k = k
  fated_ours (Asks p heard) o k = k
  fated_ours (Unlinks p q) o k = k

  stepped_ours : (p : ℕ) (o : Effect) → Out O o → WorldOurs O (stepped w p o)
  stepped_ours p o k = record {
    nodes = λ q. upd_both (NodeOurs O) w.nodes p q o.node (λ e. k.node) (λ n. ours.nodes q);
    packets = both_ours O ms p w.packets o.sends ours.packets k.sends;
  }

  applied_ours : (e : Event) (o : Option (ℕ × Input)) → IfInput o → WorldOurs O (applied ms w (fate_of e) o)
  applied_ours e None k = ours
  applied_ours e (Some x) k = stepped_ours x.0 (fate_of e (step ms x.0 (w.nodes x.0) x.1)) (fated_ours e (step ms x.0 (w.nodes x.0) x.1) (step_ours O ms x.0 (w.nodes x.0) (ours.nodes x.0) x.1 k))

  happens_ours : (e : Event) → LedAmong O e → WorldOurs O (happens ms w e)
  unfolding happens
  happens_ours e k = applied_ours e (input_of w e) (input_ours e k)

run_ours : (O : ℕ → Type 0) (ms : List ℕ) (es : List Event) (w : World) → WorldOurs O w → AllLed O es → WorldOurs O (run ms es w)
unfolding run
run_ours O ms [] w ours k = ours
run_ours O ms (e ∷ es) w ours k = run_ours O ms es (happens ms w e) (happens_ours O ms w ours e k.0) k.1

-- so it is after every run
pub ballots_are_ours : (O : ℕ → Type 0) (ms : List ℕ) (es : List Event) → AllLed O es → WorldOurs O (run ms es start)
unfolding start
ballots_are_ours O ms es k = run_ours O ms es start (record { nodes = λ p. record { promised = inl refl; role = tt }; packets = λ m i. absurd i }) k
