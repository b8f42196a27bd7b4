-- Every entry anywhere was proposed.
use Rattle.std.proofs.Common.{◌≡◌, ℕ, zero, suc, ◌+◌, ◌-◌, inl, inr, ⊎_elim, List, [], ◌∷◌, ◌++◌, length, Bool, true, false, take, drop, refl, subst, Option, Some, None, ◌==◌, ◌&&◌}
use Rattle.std.specs.Prelude.{nat_lt, nat_le, slice_get, min}
use Rattle.std.proofs.lemmas.Bool.{cond_both}
use Rattle.op_types.specs.declared.log.Entry.{Entry}
use Rattle.op_types.specs.Limits.{positions_end}
use Rattle.op_spec.specs.Machine.{IsAmong, with_at}
use Rattle.op_paxos.specs.Logs.{is_stop, has_stop, up_to_stop, overflows, fitting}
use Rattle.op_paxos.specs.Nodes.{owner, Promised, PreparingState, LeadingState, Role, Idle, Preparing, Leading, Node}
use Rattle.op_types.specs.Joinings.{Held, held_with, held_run}
use Rattle.op_types.specs.Stages.{front_from}
use Rattle.op_paxos.specs.Parts.{is_run_to, told_by}
use Rattle.op_paxos.specs.Messages.{PromisedRun, SyncRun, Msg, Prepare, Promise, PromisePart, AcceptSync, AcceptSyncPart, Accept, Accepted, Decide, PrepareReq, Refuse, Forward, TrimAsk, Progress, Trim, Packet, Effect, packet, broadcast, silent}
use Rattle.op_paxos.specs.Follower.{suffix_at, promise_of, on_prepare, appended, on_accept, synced_to, on_accept_sync, unstaged, synced_once, on_first_part, appended_staged, on_later_part, on_accept_sync_part, on_decide}
use Rattle.op_paxos.specs.Leader.{is_above, is_usable, CandidateLog, own_candidate, candidate_of, better, best, sync_at, sync_sends, all_sends, majority_length, recount, adopted_node, new_leading, adopt_with, adopt, has_quorum, prepared, on_elected, on_promise_in, promised_once, on_promise_part_in, on_accepted_in, extended, on_propose_in, on_forward_in, on_prepare_req_in, without}
use Rattle.op_paxos.specs.Trimming.{on_trim_ask, on_trim, least_report, trim_all, on_progress_in, on_trim_now_in}
use Rattle.op_paxos.specs.Worlds.{on_msg, Input, Elected, Proposal, Comes, Up, CutOff, Down, Starts, TrimNow, step, World, Event, Leads, Proposes, Delivers, Restarts, Trims, Links, Asks, Unlinks, Stops, taken_by, input_of, fate_of, applied, happens, run, start}
use Rattle.op_paxos.specs.Ledger.{refuses_as, refuses}
use Rattle.op_paxos.proofs.Updates.{upd_both}
use Rattle.op_paxos.proofs.LeaderSteps.{in_spread}
use Rattle.op_paxos.proofs.Elements.{in_get}
use Rattle.op_types.proofs.Stages.{EachHeld, with_each, run_each, front_each, left_each}
use Rattle.op_types.proofs.Cuts.{RunOf, run_get}
use Rattle.op_paxos.proofs.SentParts.{promise_packets, sync_packets}
use Rattle.op_paxos.proofs.Membership.{none_some, some_is, single, in_append, in_from_get}

module _ (P : Entry → Type 0) where
  -- every entry of a list passes
  abbrev pub Each : List Entry → Type 0
  Each l = (e : Entry) → IsAmong l e → P e

  -- so does every entry of its prefixes
  pub each_take : (k : ℕ) (l : List Entry) → Each l → Each (take k l)
  each_take zero l h e i = absurd i
  each_take (suc k) [] h e i = absurd i
  each_take (suc k) (x ∷ l) h e (inl i) = h e (inl i)
  each_take (suc k) (x ∷ l) h e (inr i) = each_take k l (λ y j. h y (inr j)) e i

  each_drop : (k : ℕ) (l : List Entry) → Each l → Each (drop k l)
  each_drop zero l h = h
  each_drop (suc k) [] h = λ e i. absurd i
  each_drop (suc k) (x ∷ l) h = each_drop k l (λ y j. h y (inr j))

  each_upto : (b : Bool) (l : List Entry) → Each l → Each (up_to_stop b l)
  each_upto true l h e i = absurd i
  each_upto false [] h e i = absurd i
  each_upto false (x ∷ l) h e (inl i) = h e (inl i)
  each_upto false (x ∷ l) h e (inr i) = each_upto (is_stop x) l (λ y j. h y (inr j)) e i

  each_append : (a b : List Entry) → Each a → Each b → Each (a ++ b)
  each_append a b ha hb e i = ⊎_elim (λ (x : IsAmong a e). ha e x) (λ (x : IsAmong b e). hb e x) (in_append e a b i)

  -- and every entry of its runs, and of what is staged of these
  each_run : (es : List Entry) (at : ℕ) (run : List Entry) → RunOf es at run → Each es → Each run
  each_run es at run r h e i = let k = in_get e run i in h e (in_from_get es (at + k.0) e (run_get es at run r k.0 e k.2))

  with_v : (s : Held) (at : ℕ) (es : List Entry) → EachHeld (λ i e. P e) s → Each es → EachHeld (λ i e. P e) (held_with s at es)
  with_v s at es hs h = with_each (λ i e. P e) s at es hs (λ j e is. h e (in_from_get es j e is))

  run_v_of : (s : Held) (at count : ℕ) (es : List Entry) → EachHeld (λ i e. P e) s → held_run s at count ≡ Some es → Each es
  run_v_of s at count es hs is e i = let k = in_get e es i in (run_each (λ i e. P e) s at count es hs is).1 k.0 e k.2

  front_v : (s : Held) (at : ℕ) → EachHeld (λ i e. P e) s → Each (front_from s at)
  front_v s at hs e i = let k = in_get e (front_from s at) i in front_each (λ i e. P e) s (length s) at hs k.0 e k.2

  -- every entry that a node which prepares has passes
  pub record PrepV (r : PreparingState) : Type 0 where
    pub kept : (q : ℕ) (pm : Promised) → r.kept q ≡ Some pm → Each pm.rest
    pub parts : (q : ℕ) → EachHeld (λ i e. P e) (r.parts q)
    pub buffer : Each r.buffer

  -- every entry of a role
  abbrev pub RoleV : Role → Type 0
  RoleV Idle = Unit {0}
  RoleV (Preparing r) = PrepV r
  RoleV (Leading l) = Unit {0}

  -- every entry of a message
  abbrev pub MsgV : Msg → Type 0
  MsgV (Promise n pm) = Each pm.rest
  MsgV (PromisePart n part) = Each part.run
  MsgV (AcceptSync n x es) = Each es
  MsgV (AcceptSyncPart n part) = Each part.run
  MsgV (Accept n a es) = Each es
  MsgV (Forward es) = Each es
  MsgV _ = Unit {0}

  -- every entry of a node
  pub record NodeV (nd : Node) : Type 0 where
    pub log : Each nd.log
    pub staged : EachHeld (λ i e. P e) nd.staged
    pub role : RoleV nd.role

  record OutV (o : Effect) : Type 0 where
    node : NodeV o.node
    sends : (m : Packet) → IsAmong o.sends m → MsgV m.msg

  abbrev one : (x : Packet) → MsgV x.msg → (m : Packet) → IsAmong (x ∷ []) m → MsgV m.msg
  one x h = single (λ m. MsgV m.msg) x h

  both_in : (xs ys : List Packet) → ((m : Packet) → IsAmong xs m → MsgV m.msg) → ((m : Packet) → IsAmong ys m → MsgV m.msg) → (m : Packet) → IsAmong (xs ++ ys) m → MsgV m.msg
  both_in xs ys a b m i = ⊎_elim (λ (x : IsAmong xs m). a m x) (λ (x : IsAmong ys m). b m x) (in_append m xs ys i)

  module _ (ms : List ℕ) (p : ℕ) where
    spread_v : (f : ℕ → Bool) (b : Msg) → MsgV b → (m : Packet) → IsAmong (broadcast p f b ms) m → MsgV m.msg
    spread_v f b h = in_spread (λ m. MsgV m.msg) p f b (λ q. h) ms

    syncs_v : (nd : Node) (l : LeadingState) (q : ℕ) (k : Option Promised) → Each nd.log → (m : Packet) → IsAmong (sync_sends p nd l q k) m → MsgV m.msg
    syncs_v nd l q None h m = λ i. absurd i
    syncs_v nd l q (Some pm) h m =
        cond_both (nat_lt (sync_at l pm) nd.trimmed) _ _ (λ ps. IsAmong ps m → MsgV m.msg) (λ e i. one (packet p q (Prepare l.ballot nd.accepted (length nd.log) nd.decided)) tt m i)
        (λ c. cond_both (nat_le (sync_at l pm) (length nd.log)) _ _ (λ ps. IsAmong ps m → MsgV m.msg)
        (λ e i. sync_packets (λ m. MsgV m.msg) p q l.ballot (sync_at l pm) (drop (sync_at l pm) nd.log) (each_drop (sync_at l pm) nd.log h) (λ at run r. each_run (drop (sync_at l pm) nd.log) at run r (each_drop (sync_at l pm) nd.log h)) m i) (λ e i. absurd i))

    all_v : (nd : Node) (l : LeadingState) (kept : ℕ → Option Promised) → Each nd.log → (qs : List ℕ) (m : Packet) → IsAmong (all_sends p nd l kept qs) m → MsgV m.msg
    all_v nd l kept h [] m i = absurd i
    all_v nd l kept h (q ∷ qs) m i = both_in (sync_sends p nd l q (kept q)) (all_sends p nd l kept qs) (syncs_v nd l q (kept q) h) (all_v nd l kept h qs) m i

    count_v : (nd : Node) (l : LeadingState) (a b : List Packet) → Each nd.log → EachHeld (λ i e. P e) nd.staged → ((m : Packet) → IsAmong a m → MsgV m.msg) → ((m : Packet) → IsAmong b m → MsgV m.msg) → OutV (recount ms p nd l a b)
    unfolding recount
    count_v nd l a b h hs ha hb = cond_both (nat_lt nd.decided (majority_length ms p nd l)) _ _ OutV
        (λ e. record { node = record { log = h; staged = hs; role = tt }; sends = both_in a (broadcast p l.synced (Decide l.ballot (majority_length ms p nd l)) ms) ha (spread_v l.synced (Decide l.ballot (majority_length ms p nd l)) tt) })
        (λ e. record { node = record { log = h; staged = hs; role = tt }; sends = both_in a b ha hb })

    better_v : (nd : Node) (k : Option Promised) (c : CandidateLog) → Each nd.log → ((pm : Promised) → k ≡ Some pm → Each pm.rest) → Each c.log → Each (better nd k c).log
    better_v nd None c h f hc = hc
    better_v nd (Some pm) c h f hc = cond_both (is_usable nd pm && is_above pm.round pm.size c.round c.size) (candidate_of nd pm) c (λ d. Each d.log) (λ e. each_append (take pm.start nd.log) pm.rest (each_take pm.start nd.log h) (f pm refl)) (λ e. hc)

    best_v : (nd : Node) (kept : ℕ → Option Promised) (qs : List ℕ) (c : CandidateLog) → Each nd.log → ((q : ℕ) (pm : Promised) → kept q ≡ Some pm → Each pm.rest) → Each c.log → Each (best nd kept qs c).log
    best_v nd kept [] c h f hc = hc
    best_v nd kept (q ∷ qs) c h f hc = best_v nd kept qs (better nd (kept q) c) h f (better_v nd (kept q) c h (f q) hc)

    prepared_v : (nd : Node) (r : PreparingState) → Each nd.log → EachHeld (λ i e. P e) nd.staged → PrepV r → OutV (prepared ms p nd r)
    unfolding prepared adopt adopt_with adopted_node new_leading
    prepared_v nd r h hs o =
        let c = best nd r.kept ms (own_candidate nd) in
        let l = each_append c.log (fitting c.log r.buffer) (best_v nd r.kept ms (own_candidate nd) h o.kept h) (each_take (positions_end - length c.log) (up_to_stop (has_stop c.log) r.buffer) (each_upto (has_stop c.log) r.buffer o.buffer)) in
        cond_both (has_quorum ms p r) _ _ OutV
        (λ e. count_v (adopted_node nd r c) _ _ [] l hs (all_v (adopted_node nd r c) (new_leading nd r c) r.kept l ms) (λ m i. absurd i))
        (λ e. record { node = record { log = h; staged = hs; role = o }; sends = λ m i. absurd i })

    still_v : (nd : Node) → NodeV nd → OutV (silent nd)
    still_v nd h = record { node = h; sends = λ m i. absurd i }

    lead_v : (nd : Node) (n : ℕ) → NodeV nd → OutV (on_elected ms p nd n)
    unfolding on_elected
    lead_v nd n h = cond_both (nat_lt nd.promised n && (owner n == p)) _ _ OutV
        (λ e. let o = prepared_v (record nd { promised = n; staged = []; role = Idle }) (record { ballot = n; kept = λ q. None; parts = λ q. []; buffer = [] }) h.log (λ i e k. none_some e k) (record { kept = λ q pm d. absurd (none_some pm d); parts = λ q i e k. none_some e k; buffer = λ x i. absurd i }) in
        record { node = o.node; sends = both_in (broadcast p (λ q. true) (Prepare n nd.accepted (length nd.log) nd.decided) ms) _ (spread_v (λ q. true) (Prepare n nd.accepted (length nd.log) nd.decided) tt) o.sends })
        (λ e. still_v nd h)

    promise_v : (nd : Node) (r : Role) (q n : ℕ) (pm : Promised) → NodeV nd → RoleV r → Each pm.rest → OutV (on_promise_in ms p nd r q n pm)
    unfolding on_promise_in
    promise_v nd Idle q n pm h o k = still_v nd h
    promise_v nd (Preparing r) q n pm h o k = cond_both ((n == r.ballot) && is_usable nd pm) _ _ OutV
        (λ e. prepared_v nd (record r { kept = with_at q (Some pm) r.kept }) h.log h.staged (record { parts = o.parts; kept = λ t pm'. upd_both (λ x. x ≡ Some pm' → Each pm'.rest) r.kept q t (Some pm) (λ d c. subst (λ y. Each y.rest) (some_is pm pm' c) k) (λ d c. o.kept t pm' c); buffer = o.buffer }))
        (λ e. still_v nd h)
    promise_v nd (Leading l) q n pm h o k = cond_both (n == l.ballot) _ _ OutV
        (λ e. record { node = record { log = h.log; staged = h.staged; role = tt }; sends = syncs_v nd l q (Some pm) h.log }) (λ e. still_v nd h)

    promised_once_v : (nd : Node) (r : PreparingState) (q : ℕ) (part : PromisedRun) (s : Held) (o : Option (List Entry)) → NodeV nd → PrepV r → EachHeld (λ i e. P e) s → ((es : List Entry) → o ≡ Some es → Each es) → OutV (promised_once ms p nd r q part s o)
    unfolding promised_once
    promised_once_v nd r q part s None h o hs f = still_v _ (record { log = h.log; staged = h.staged; role = record { kept = o.kept; parts = λ t. upd_both (λ (y : Held). EachHeld (λ i e. P e) y) r.parts q t s (λ d. hs) (λ d. o.parts t); buffer = o.buffer } })
    promised_once_v nd r q part s (Some es) h o hs f =
        let k : PrepV (record r { parts = with_at q [] r.parts }) = record { kept = o.kept; parts = λ t. upd_both (λ (y : Held). EachHeld (λ i e. P e) y) r.parts q t [] (λ d i e k. none_some e k) (λ d. o.parts t); buffer = o.buffer } in
        promise_v (record nd { role = Preparing (record r { parts = with_at q [] r.parts }) }) (Preparing (record r { parts = with_at q [] r.parts })) q r.ballot (told_by part es) (record { log = h.log; staged = h.staged; role = k }) k (f es refl)

    promise_part_v : (nd : Node) (r : Role) (q n : ℕ) (part : PromisedRun) → NodeV nd → RoleV r → Each part.run → OutV (on_promise_part_in ms p nd r q n part)
    unfolding on_promise_part_in
    promise_part_v nd Idle q n part h o k = still_v nd h
    promise_part_v nd (Preparing r) q n part h o k = cond_both ((n == r.ballot) && (nat_le part.start part.at && is_run_to part.size part.at part.run)) _ _ OutV
        (λ e. let hs = with_v (r.parts q) part.at part.run (o.parts q) k in
        promised_once_v nd r q part (held_with (r.parts q) part.at part.run) _ h o hs (λ es is. run_v_of (held_with (r.parts q) part.at part.run) part.start (part.size - part.start) es hs is))
        (λ e. still_v nd h)
    promise_part_v nd (Leading l) q n part h o k = cond_both (part.at + length part.run == part.size) _ _ OutV
        (λ e. promise_v nd (Leading l) q n (told_by part []) h o (λ e i. absurd i)) (λ e. still_v nd h)

    accepted_v : (nd : Node) (r : Role) (q n x : ℕ) → NodeV nd → OutV (on_accepted_in ms p nd r q n x)
    unfolding on_accepted_in
    accepted_v nd Idle q n x h = still_v nd h
    accepted_v nd (Preparing r) q n x h = still_v nd h
    accepted_v nd (Leading l) q n x h = cond_both ((n == l.ballot) && nat_le x (length nd.log)) _ _ OutV
        (λ e. count_v nd _ [] _ h.log h.staged (λ m i. absurd i) (λ m. cond_both (nat_lt 0 nd.decided) (packet p q (Decide l.ballot nd.decided) ∷ []) [] (λ ps. IsAmong ps m → MsgV m.msg) (λ d i. one (packet p q (Decide l.ballot nd.decided)) tt m i) (λ d i. absurd i)))
        (λ e. still_v nd h)

    extended_v : (nd : Node) (l : LeadingState) (es : List Entry) → NodeV nd → Each es → OutV (extended ms p nd l es)
    unfolding extended
    extended_v nd l es h k = count_v (record nd { log = nd.log ++ es }) l _ [] (each_append nd.log es h.log k) h.staged (spread_v l.synced (Accept l.ballot (length nd.log) es) k) (λ m i. absurd i)

    propose_v : (nd : Node) (r : Role) (es : List Entry) → NodeV nd → RoleV r → (refuses_as r nd.log es ≡ false → Each es) → OutV (on_propose_in ms p nd r es)
    unfolding on_propose_in
    propose_v nd Idle es h o k = record { node = h; sends = one (packet p (owner nd.promised) (Forward es)) (k refl) }
    propose_v nd (Preparing r) es h o k = still_v _ (record { log = h.log; staged = h.staged; role = record { kept = o.kept; parts = o.parts; buffer = each_append r.buffer es o.buffer (k refl) } })
    propose_v nd (Leading l) es h o k = cond_both (overflows nd.log es) _ _ OutV (λ d. still_v nd h) (λ d. extended_v nd l es h (k d))

    forward_v : (nd : Node) (r : Role) (es : List Entry) → NodeV nd → RoleV r → Each es → OutV (on_forward_in ms p nd r es)
    unfolding on_forward_in
    forward_v nd Idle es h o k = still_v nd h
    forward_v nd (Preparing r) es h o k = propose_v nd (Preparing r) es h o (λ d. k)
    forward_v nd (Leading l) es h o k = propose_v nd (Leading l) es h o (λ d. k)

    asked_v : (nd : Node) (r : Role) (q : ℕ) → NodeV nd → OutV (on_prepare_req_in p nd r q)
    unfolding on_prepare_req_in
    asked_v nd Idle q h = still_v nd h
    asked_v nd (Preparing r) q h = record { node = h; sends = one (packet p q (Prepare r.ballot nd.accepted (length nd.log) nd.decided)) tt }
    asked_v nd (Leading l) q h = record { node = h; sends = one (packet p q (Prepare l.ballot nd.accepted (length nd.log) nd.decided)) tt }

    prepare_v : (nd : Node) (q n na nl d : ℕ) → NodeV nd → OutV (on_prepare p nd q n na nl d)
    unfolding on_prepare
    prepare_v nd q n na nl d h = cond_both (nat_lt n nd.promised) _ _ OutV
        (λ e. record { node = h; sends = one (packet p q (Refuse n nd.promised)) tt })
        (λ e. cond_both (nat_lt (suffix_at nd na nl d) nd.trimmed) _ _ OutV (λ c. still_v nd h)
        (λ c. record {
          node = record { log = h.log; staged = cond_both (nat_lt nd.promised n) [] nd.staged (λ s. EachHeld (λ i e. P e) s) (λ c i e k. none_some e k) (λ c. h.staged); role = cond_both (nat_lt nd.promised n) Idle nd.role RoleV (λ c. tt) (λ c. h.role) };
          sends = promise_packets (λ m. MsgV m.msg) p q n (promise_of nd (suffix_at nd na nl d)) (each_drop (suffix_at nd na nl d) nd.log h.log) (λ at run r. each_run (drop (suffix_at nd na nl d) nd.log) at run r (each_drop (suffix_at nd na nl d) nd.log h.log));
        }))

    trim_ask_v : (nd : Node) (q n : ℕ) → NodeV nd → OutV (on_trim_ask p nd q n)
    unfolding on_trim_ask
    trim_ask_v nd q n h = cond_both (nd.promised == n) _ _ OutV (λ e. record { node = h; sends = one (packet p q (Progress n nd.decided)) tt }) (λ e. still_v nd h)

    trim_v : (nd : Node) (x : ℕ) → NodeV nd → OutV (on_trim nd x)
    unfolding on_trim
    trim_v nd x h = cond_both (nat_lt nd.trimmed x && nat_le x nd.decided) _ _ OutV (λ e. still_v _ (record { log = h.log; staged = h.staged; role = h.role })) (λ e. still_v nd h)

    trim_all_v : (nd : Node) (l : LeadingState) (r : ℕ → Option ℕ) (x : Option ℕ) → NodeV nd → OutV (trim_all ms p nd l r x)
    unfolding trim_all
    trim_all_v nd l r None h = still_v _ (record { log = h.log; staged = h.staged; role = tt })
    trim_all_v nd l r (Some x) h = cond_both (nat_lt nd.trimmed x) _ _ OutV (λ e. record { node = record { log = h.log; staged = h.staged; role = tt }; sends = spread_v (λ q. true) (Trim x) tt }) (λ e. still_v _ (record { log = h.log; staged = h.staged; role = tt }))

    progress_v : (nd : Node) (r : Role) (q n d : ℕ) → NodeV nd → OutV (on_progress_in ms p nd r q n d)
    unfolding on_progress_in
    progress_v nd Idle q n d h = still_v nd h
    progress_v nd (Preparing r) q n d h = still_v nd h
    progress_v nd (Leading l) q n d h = cond_both (n == l.ballot) _ _ OutV (λ e. trim_all_v nd l _ _ h) (λ e. still_v nd h)

    trim_now_v : (nd : Node) (r : Role) → NodeV nd → OutV (on_trim_now_in ms p nd r)
    unfolding on_trim_now_in
    trim_now_v nd Idle h = still_v nd h
    trim_now_v nd (Preparing r) h = still_v nd h
    trim_now_v nd (Leading l) h = let o = trim_all_v nd l (λ q. None) (least_report p (λ q. None) ms (Some nd.decided)) h in record { node = o.node; sends = both_in (broadcast p (λ q. true) (TrimAsk l.ballot) ms) _ (spread_v (λ q. true) (TrimAsk l.ballot) tt) o.sends }

    accept_v : (nd : Node) (q n a : ℕ) (es : List Entry) → NodeV nd → Each es → OutV (on_accept p nd q n a es)
    unfolding on_accept appended
    accept_v nd q n a es h k = cond_both ((nd.promised == n) && (nd.accepted == n)) _ _ OutV
        (λ e. cond_both (nat_lt (length nd.log) a) _ _ OutV (λ c. record { node = h; sends = one (packet p q PrepareReq) tt })
        (λ c. record { node = record { log = each_append nd.log (drop (length nd.log - a) es) h.log (each_drop (length nd.log - a) es k); staged = h.staged; role = h.role }; sends = one _ tt }))
        (λ e. still_v nd h)

    sync_v : (nd : Node) (q n x : ℕ) (es : List Entry) → NodeV nd → Each es → OutV (on_accept_sync p nd q n x es)
    unfolding on_accept_sync synced_to
    sync_v nd q n x es h k = cond_both ((nd.promised == n) && nat_lt nd.accepted n) _ _ OutV
        (λ e. cond_both (nat_le nd.decided x && nat_le x (length nd.log)) _ _ OutV
        (λ c. record { node = record { log = each_append (take x nd.log) es (each_take x nd.log h.log) k; staged = h.staged; role = h.role }; sends = one _ tt }) (λ c. still_v nd h))
        (λ e. accept_v nd q n x es h k)

    once_v : (nd : Node) (q n x : ℕ) (s : Held) (o : Option (List Entry)) → NodeV nd → EachHeld (λ i e. P e) s → ((es : List Entry) → o ≡ Some es → Each es) → OutV (synced_once p (record nd { staged = s }) q n x o)
    unfolding synced_once synced_to
    once_v nd q n x s None h hs f = still_v _ (record { log = h.log; staged = hs; role = h.role })
    once_v nd q n x s (Some es) h hs f =
        cond_both (nat_le nd.decided x && nat_le x (length nd.log)) _ _ (λ o. OutV (unstaged o))
        (λ c. record { node = record { log = each_append (take x nd.log) es (each_take x nd.log h.log) (f es refl); staged = left_each (λ i e. P e) s _ hs; role = h.role }; sends = one _ tt })
        (λ c. still_v _ (record { log = h.log; staged = left_each (λ i e. P e) s _ hs; role = h.role }))

    sync_part_v : (nd : Node) (q n : ℕ) (part : SyncRun) → NodeV nd → Each part.run → OutV (on_accept_sync_part p nd q n part)
    unfolding on_accept_sync_part on_first_part on_later_part appended_staged
    sync_part_v nd q n part h k =
        let held = held_with nd.staged part.at part.run in
        let hs = with_v nd.staged part.at part.run h.staged k in
        cond_both ((nd.promised == n) && nat_lt nd.accepted n) _ _ OutV
        (λ e. cond_both ((nat_le nd.decided part.start && nat_le part.start (length nd.log)) && (nat_le part.start part.at && is_run_to part.end part.at part.run)) _ _ OutV
        (λ c. once_v nd q n part.start held (held_run held part.start (part.end - part.start)) h hs (λ es is. run_v_of held part.start (part.end - part.start) es hs is))
        (λ c. still_v nd h))
        (λ e. cond_both ((nd.promised == n) && ((nd.accepted == n) && is_run_to part.end part.at part.run)) _ _ OutV
        (λ c. record {
          node = record { log = each_append nd.log (front_from held (length nd.log)) h.log (front_v held (length nd.log) hs); staged = left_each (λ i e. P e) held _ hs; role = h.role };
          sends = cond_both (nat_lt (length (nd.log ++ front_from held (length nd.log))) part.at) PrepareReq (Accepted n (length (nd.log ++ front_from held (length nd.log)))) (λ b. (m : Packet) → IsAmong (packet p q b ∷ []) m → MsgV m.msg) (λ d. one (packet p q PrepareReq) tt) (λ d. one _ tt);
        })
        (λ c. still_v nd h))

    decide_v : (nd : Node) (n x : ℕ) → NodeV nd → OutV (on_decide nd n x)
    unfolding on_decide
    decide_v nd n x h = cond_both ((nd.promised == n) && ((nd.accepted == n) && nat_lt nd.decided (min x (length nd.log)))) _ _ OutV (λ e. still_v _ (record { log = h.log; staged = h.staged; role = h.role })) (λ e. still_v nd h)

    msg_v : (nd : Node) (q : ℕ) (m : Msg) → NodeV nd → MsgV m → OutV (on_msg ms p nd q m)
    unfolding on_msg
    msg_v nd q (Prepare n na nl d) h k = prepare_v nd q n na nl d h
    msg_v nd q (Promise n pm) h k = promise_v nd nd.role q n pm h h.role k
    msg_v nd q (PromisePart n part) h k = promise_part_v nd nd.role q n part h h.role k
    msg_v nd q (AcceptSync n x es) h k = sync_v nd q n x es h k
    msg_v nd q (AcceptSyncPart n part) h k = sync_part_v nd q n part h k
    msg_v nd q (Accept n a es) h k = accept_v nd q n a es h k
    msg_v nd q (Accepted n x) h k = accepted_v nd nd.role q n x h
    msg_v nd q (Decide n x) h k = decide_v nd n x h
    msg_v nd q PrepareReq h k = asked_v nd nd.role q h
    msg_v nd q (Refuse n b) h k = still_v nd h
    msg_v nd q (Forward es) h k = forward_v nd nd.role es h h.role k
    msg_v nd q (TrimAsk n) h k = trim_ask_v nd q n h
    msg_v nd q (Progress n d) h k = progress_v nd nd.role q n d h
    msg_v nd q (Trim x) h k = trim_v nd x h

    -- what it takes in passes, if it isn't refused
    abbrev InputV : Node → Input → Type 0
    InputV nd (Comes q m) = MsgV m
    InputV nd (Proposal es) = refuses nd es ≡ false → Each es
    InputV nd _ = Unit {0}

    without_v : (q : ℕ) (r : Role) → RoleV r → RoleV (without r q)
    without_v q Idle o = tt
    without_v q (Preparing r) o = o
    without_v q (Leading l) o = tt

    step_v : (nd : Node) (i : Input) → NodeV nd → InputV nd i → OutV (step ms p nd i)
    unfolding step
    step_v nd (Elected n) h k = lead_v nd n h
    step_v nd (Proposal es) h k = propose_v nd nd.role es h h.role k
    step_v nd (Comes q m) h k = msg_v nd q m h k
    step_v nd (Up q) h k = record { node = h; sends = one (packet p q PrepareReq) tt }
    step_v nd (CutOff heard) h k = record { node = h; sends = spread_v heard PrepareReq tt }
    step_v nd (Down q) h k = still_v _ (record { log = h.log; staged = h.staged; role = without_v q nd.role h.role })
    step_v nd TrimNow h k = trim_now_v nd nd.role h
    step_v nd Starts h k = record { node = record { log = h.log; staged = λ i e k. none_some e k; role = tt }; sends = spread_v (λ q. true) PrepareReq tt }

    fate_v : (e : Event) (o : Effect) → OutV o → OutV (fate_of e o)
    fate_v (Stops e) o h = record { node = record { log = (h.node).log; staged = λ i e k. none_some e k; role = tt }; sends = λ m i. absurd i }
    fate_v (Leads a b) o h = h
    fate_v (Proposes a b) o h = h
    fate_v (Delivers a) o h = h
    fate_v (Restarts a) o h = h
    fate_v (Trims a) o h = h
    fate_v (Links a b) o h = h
    fate_v (Asks a heard) o h = h
    fate_v (Unlinks a b) o h = h

  -- every entry of a world
  pub record WorldV (w : World) : Type 0 where
    pub nodes : (q : ℕ) → NodeV (w.nodes q)
    pub packets : (m : Packet) → IsAmong w.packets m → MsgV m.msg

  -- what an event proposes passes, if it isn't refused
  abbrev pub TakenV : World → Event → Type 0
  TakenV w (Proposes p es) = refuses (w.nodes p) es ≡ false → Each es
  TakenV w (Stops e) = TakenV w e
  TakenV w _ = Unit {0}

  -- what an event proposes passes
  abbrev pub EventV : Event → Type 0
  EventV (Proposes p es) = Each es
  EventV (Stops e) = EventV e
  EventV _ = Unit {0}

  module _ (ms : List ℕ) (w : World) (h : WorldV w) where
    abbrev InputsV : Option (ℕ × Input) → Type 0
    InputsV None = Unit {0}
    InputsV (Some x) = InputV ms x.0 (w.nodes x.0) x.1

    taken_v : (e : Event) (k : Option Packet) → ((m : Packet) → k ≡ Some m → IsAmong w.packets m) → InputsV (taken_by w e k)
    taken_v e None f = tt
    taken_v e (Some m) f = h.packets m (f m refl)

    inputs_v : (e : Event) → TakenV w e → InputsV (input_of w e)
    unfolding input_of
    inputs_v (Leads p n) k = tt
    inputs_v (Proposes p n) k = k
    inputs_v (Delivers n) k = taken_v (Delivers n) (slice_get w.packets n) (λ m e. in_from_get w.packets n m e)
    inputs_v (Restarts p) k = tt
    inputs_v (Trims p) k = tt
    inputs_v (Links p q) k = tt
    inputs_v (Asks p heard) k = tt
    inputs_v (Unlinks p q) k = tt
    inputs_v (Stops e) k = inputs_v e k

    applied_v : (e : Event) (k : Option (ℕ × Input)) → InputsV k → WorldV (applied ms w (fate_of e) k)
    applied_v e None k = h
    applied_v e (Some x) k =
        let o = fate_v ms x.0 e (step ms x.0 (w.nodes x.0) x.1) (step_v ms x.0 (w.nodes x.0) x.1 (h.nodes x.0) k) in
        record { nodes = λ q. upd_both NodeV w.nodes x.0 q _ (λ d. o.node) (λ d. h.nodes q); packets = both_in w.packets _ h.packets o.sends }

    -- an event keeps it, if what it proposes passes
    pub happens_v : (e : Event) → TakenV w e → WorldV (happens ms w e)
    unfolding happens
    happens_v e k = applied_v e (input_of w e) (inputs_v e k)

  all_taken : (w : World) (e : Event) → EventV e → TakenV w e
  all_taken w (Proposes p x) k = λ d. k
  all_taken w (Stops e) k = all_taken w e k
  all_taken w (Leads a b) k = tt
  all_taken w (Delivers a) k = tt
  all_taken w (Restarts a) k = tt
  all_taken w (Trims a) k = tt
  all_taken w (Links a b) k = tt
  all_taken w (Asks a heard) k = tt
  all_taken w (Unlinks a b) k = tt

  pub run_v : (ms : List ℕ) (es : List Event) (w : World) → ((e : Event) → IsAmong es e → EventV e) → WorldV w → WorldV (run ms es w)
  unfolding run
  run_v ms [] w f h = h
  run_v ms (e ∷ es) w f h = run_v ms es (happens ms w e) (λ d i. f d (inr i)) (happens_v ms w h e (all_taken w e (f e (inl refl))))

  -- nothing is there at the start
  pub start_v : WorldV start
  unfolding start
  start_v = record { nodes = λ q. record { log = λ e i. absurd i; staged = λ i e k. none_some e k; role = tt }; packets = λ m i. absurd i }

  -- so every entry of a log passes
  pub in_world : (w : World) → WorldV w → (p : ℕ) (e : Entry) → IsAmong (w.nodes p).log e → P e
  in_world w h p = (h.nodes p).log

  -- in every run, if every event's proposals pass
  pub valid : (ms : List ℕ) (es : List Event) → ((e : Event) → IsAmong es e → EventV e) → (p : ℕ) (e : Entry) → IsAmong ((run ms es start).nodes p).log e → P e
  valid ms es f p = ((run_v ms es start f start_v).nodes p).log
