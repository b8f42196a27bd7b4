-- Requests and replies of a heartbeat round are delivered: what the members then know, and what was sent.
use Rattle.std.proofs.Common.{◌≡◌, ℕ, ◌+◌, Bool, true, false, cond, not, ◌&&◌, eqb, ltb, nat_eq, is_some, List, [], ◌∷◌, ◌++◌, length, map, filter, Option, Some, refl, sym, ap, ◌∙◌, subst, append-nil, append_assoc, length-append, slice_get, arith}
use Rattle.std.proofs.lemmas.Bool.{eqb-true, eqb-false, eq-eqb, and_from, le-ltb}
use Rattle.std.specs.Set.{is_member}
use Rattle.op_types.specs.Stops.{stop_at_end}
use Rattle.op_types.specs.declared.durable.Durable.{Durable}
use Rattle.op_types.specs.declared.durable.Joining.{Joining}
use Rattle.op_types.specs.declared.durable.Part.{Part}
use Rattle.op_types.specs.declared.log.Entry.{Entry}
use Rattle.op_runs.specs.declared.events.Event.{Event}
use Rattle.op_types.specs.declared.events.Input.TheVariants as input
use Rattle.op_runs.specs.declared.events.What.TheVariants as what
use Rattle.op_types.specs.declared.messages.Body.{Body}
use Rattle.op_types.specs.declared.messages.Body.TheVariants as body
use Rattle.op_types.specs.declared.messages.Heard.{Heard}
use Rattle.op_types.specs.declared.messages.Msg.{Msg}
use Rattle.op_protocol.specs.State.{Volatile, PartStep}
use Rattle.op_protocol.specs.Heartbeats.{is_other, heard_with}
use Rattle.op_protocol.specs.Parts.{is_admitted_body, message, decided_since}
use Rattle.op_protocol.specs.Rows.{on_body, message_at, is_of_joining, may_be_above, on_older, on_newer, on_latest, member_step}
use Rattle.op_protocol.specs.Watched.{is_watching, watch_answers}
use Rattle.op_protocol.specs.Configurations.{latest_in, latest_of}
use Rattle.op_protocol.specs.Tick.{remembering}
use Rattle.op_runs.specs.World.{World, Node, Sent, Steps, node_at, delivery, world_after, done_event}
use Rattle.op_lockstep.specs.Lockstep.{event_of, after_events, numbers_of, is_reply}
use Rattle.op_lockstep.proofs.Lists.{Each, by_test}
use Rattle.op_lockstep.proofs.Counting.{told, kept}
use Rattle.op_lockstep.proofs.Seats.{Sits, AllSit, After, IsRow, stepped}
use Rattle.op_lockstep.proofs.Batches.{decides_nothing}

-- the events that deliver messages of these numbers_of
abbrev pub delivered : List ℕ → List Event
delivered ns = map (λ i. event_of (what.Deliver i)) ns

-- what stands behind a prefix
pub get_behind : {A : Type 0} (pre : List A) (x : A) (rest : List A) (n : ℕ) → length pre ≡ n → slice_get (pre ++ x ∷ rest) n ≡ Some x
get_behind [] x rest n e = subst (λ (k : ℕ). slice_get (x ∷ rest) k ≡ Some x) e refl
get_behind (y ∷ pre) x rest n e = subst (λ (k : ℕ). slice_get (y ∷ pre ++ x ∷ rest) k ≡ Some x) e (get_behind pre x rest (length pre) refl)

longer : {A : Type 0} (pre : List A) (x : A) (n : ℕ) → length pre ≡ n → length (pre ++ x ∷ []) ≡ n + 1
longer pre x n e = length-append pre (x ∷ []) ∙ ap (λ (k : ℕ). k + 1) e

-- a message of the part's configuration, which is always admitted, comes to the part
pub admitted : (me : ℕ) (p : Part) (v : Volatile) (q : ℕ) (m : Msg) (b : Body) → m.conf ≡ p.conf → m.body ≡ b → is_watching b ≡ false → is_admitted_body p b ≡ true
    → ((d : Durable) (c : ℕ) → on_latest me d v q c b ≡ message_at me d.part v q (record { conf = c; body = b })) → IsRow me p v (input.Deliver q m) (on_body me p v q b)
admitted me p v q m b same is unwatched ok plain d has stays =
    let c : ℕ = m.conf in
    let latest : latest_of d ≡ c = ap (λ (o : Option Part). latest_in o d.closed) has ∙ sym same in
    let level : ltb c (latest_of d) ≡ false = ap (ltb c) latest ∙ le-ltb c c (omega arith) in
    let low : ltb (latest_of d) c ≡ false = ap (λ (k : ℕ). ltb k c) latest ∙ le-ltb c c (omega arith) in
    let kept : PartStep = remembering v [] in
    let older : PartStep = remembering v (on_older d d.closed q) in
    let newer : PartStep = remembering v (on_newer d q m.body) in
    let last : PartStep = on_latest me d v q c m.body in
    ap (λ (t : Bool). cond t (remembering v (watch_answers d q c m.body)) (member_step me d v q m)) (ap is_watching is ∙ unwatched)
    ∙ ap (λ (o : Option Joining). cond (is_some o && not (is_of_joining m.body)) kept (cond (ltb c (latest_of d)) older (cond (ltb (latest_of d) c && not (may_be_above m.body)) newer last))) stays
    ∙ ap (λ (t : Bool). cond t older (cond (ltb (latest_of d) c && not (may_be_above m.body)) newer last)) level
    ∙ ap (λ (t : Bool). cond (t && not (may_be_above m.body)) newer last) low
    ∙ ap (λ (x : Body). on_latest me d v q c x) is
    ∙ plain d c
    ∙ ap (λ (o : Option Part). message_at me o v q (record { conf = c; body = b })) has
    ∙ ap (λ (t : Bool). cond t (on_body me p v q b) (remembering v [])) (and_from (eqb c p.conf) (is_admitted_body p b) (eq-eqb c p.conf same) ok)

-- nothing is decided by it
unended : (a : Part) → is_some (stop_at_end (decided_since a a)) ≡ false
unended a = ap (λ (es : List Entry). is_some (stop_at_end es)) (decides_nothing a a refl)

module _ (conf : ℕ) (group : List ℕ) (a : ℕ → Part) (v : ℕ → Volatile) (confs : (p : ℕ) → is_member nat_eq group p ≡ true → (a p).conf ≡ conf) where
  -- a request of its sender's round, to one of them
  pub record IsRequest (m : Sent) : Type 0 where
    pub conf_is : m.message.conf ≡ conf
    pub to : is_member nat_eq group m.to ≡ true
    pub body_is : m.message.body ≡ body.HeartbeatRequest (v m.from).round

  -- the reply to it
  abbrev pub reply_to : Sent → Sent
  reply_to m = record { from = m.to; to = m.from; message = record { conf = conf; body = body.HeartbeatReply (v m.from).round (v m.to).own (v m.to).flag } }

  -- ---- requests
  -- what they know stays, and replies are sent
  pub record Asked (w u : World) (ms : List Sent) : Type 0 where
    pub sit : AllSit u a v group
    pub messages : u.messages ≡ w.messages ++ map reply_to ms

  request_step : (m : Sent) → IsRequest m → IsRow m.to (a m.to) (v m.to) (input.Deliver m.from m.message) (remembering (v m.to) (message conf m.from (body.HeartbeatReply (v m.from).round (v m.to).own (v m.to).flag) ∷ []))
  request_step m k d has stays =
      let there : (a m.to).conf ≡ conf = confs m.to k.to in
      admitted m.to (a m.to) (v m.to) m.from m.message (body.HeartbeatRequest (v m.from).round) (k.conf_is ∙ sym there) k.body_is refl refl (λ _ _. refl) d has stays
      ∙ ap (λ (c : ℕ). remembering (v m.to) (message c m.from (body.HeartbeatReply (v m.from).round (v m.to).own (v m.to).flag) ∷ [])) there

  same_seats : (w u : World) (p : ℕ) (sends : List (ℕ × Msg)) → AllSit w a v group → After w u p (a p) (v p) sends → AllSit u a v group
  same_seats w u p sends sit x q m = by_id (eqb q p) refl
    where
      by_id : (b : Bool) → eqb q p ≡ b → Sits (node_at u.nodes q) q (a q) (v q)
      by_id true e = subst (λ (k : ℕ). Sits (node_at u.nodes k) k (a k) (v k)) (sym (eqb-true q p e)) x.here
      by_id false e = subst (λ (o : Option Node). Sits o q (a q) (v q)) (sym (x.others q (eqb-false q p e))) (sit q m)

  -- one message is at its place among all
  deed_is : (w : World) (pre : List Sent) (m : Sent) (more : List Sent) (n : ℕ) → length pre ≡ n → w.messages ≡ pre ++ m ∷ more → delivery (slice_get w.messages n) ≡ Some (record { pid = m.to; doing = Steps (input.Deliver m.from m.message) })
  deed_is w pre m more n at is = ap delivery (ap (λ (ms : List Sent). slice_get ms n) is ∙ get_behind pre m more n at)

  asked_one : (w : World) (pre : List Sent) (m : Sent) (more : List Sent) (n : ℕ) → length pre ≡ n → w.messages ≡ pre ++ m ∷ more → AllSit w a v group → IsRequest m
      → Asked w (world_after w (done_event (event_of (what.Deliver n)))) (m ∷ [])
  asked_one w pre m more n at is sit k =
      let y : PartStep = remembering (v m.to) (message conf m.from (body.HeartbeatReply (v m.from).round (v m.to).own (v m.to).flag) ∷ []) in
      let x = stepped w (what.Deliver n) m.to (input.Deliver m.from m.message) (a m.to) (v m.to) y (deed_is w pre m more n at is) (λ me s. refl) (request_step m k) tt (unended (a m.to)) (sit m.to k.to) in
      record { sit = same_seats w (world_after w (done_event (event_of (what.Deliver n)))) m.to y.sends sit x; messages = x.messages }

  asked_then : (w u t : World) (m : Sent) (ms : List Sent) → Asked w u (m ∷ []) → Asked u t ms → Asked w t (m ∷ ms)
  asked_then w u t m ms x y =
      record { sit = y.sit; messages = y.messages ∙ ap (λ (l : List Sent). l ++ map reply_to ms) x.messages ∙ append_assoc w.messages (reply_to m ∷ []) (map reply_to ms) }

  -- the requests of a list of messages that pass a test are delivered
  pub asked_run : (test : Sent → Bool) (ms pre rest : List Sent) (n : ℕ) → length pre ≡ n → (w : World) → AllSit w a v group → w.messages ≡ pre ++ (ms ++ rest) → Each (λ m. test m ≡ true → IsRequest m) ms
      → Asked w (after_events w (delivered (numbers_of test n ms))) (filter test ms)
  asked_run test [] pre rest n at w sit is k = record { sit = sit; messages = sym (append-nil w.messages) }
  asked_run test (m ∷ ms) pre rest n at w sit is k =
      by_test (test m) (λ (b : Bool). Asked w (after_events w (delivered (cond b (n ∷ numbers_of test (n + 1) ms) (numbers_of test (n + 1) ms)))) (cond b (m ∷ filter test ms) (filter test ms)))
      (λ e. let x = asked_one w pre m (ms ++ rest) n at is sit (k.0 e) in
      let u : World = world_after w (done_event (event_of (what.Deliver n))) in
      asked_then w u (after_events u (delivered (numbers_of test (n + 1) ms))) m (filter test ms) x
      (asked_run test ms (pre ++ m ∷ []) (rest ++ (reply_to m ∷ [])) (n + 1) (longer pre m n at) u x.sit
      (x.messages ∙ ap (λ (l : List Sent). l ++ reply_to m ∷ []) is ∙ append_assoc pre (m ∷ (ms ++ rest)) (reply_to m ∷ []) ∙ ap (λ (l : List Sent). pre ++ m ∷ l) (append_assoc ms rest (reply_to m ∷ [])) ∙ sym (append_assoc pre (m ∷ []) (ms ++ (rest ++ reply_to m ∷ [])))) k.1))
      (λ e. asked_run test ms (pre ++ m ∷ []) rest (n + 1) (longer pre m n at) w sit (is ∙ sym (append_assoc pre (m ∷ []) (ms ++ rest))) k.1)

  -- ---- replies
  -- a member that keeps these replies
  abbrev pub hearing : Volatile → List Heard → Volatile
  hearing u hs = record u { heard = hs }

  -- they keep these replies
  abbrev pub AllHear : World → (ℕ → List Heard) → Type 0
  AllHear w hs = AllSit w a (λ p. hearing (v p) (hs p)) group

  -- with one more
  abbrev more_heard : (ℕ → List Heard) → Sent → ℕ → List Heard
  more_heard hs m p = cond (eqb p m.from) (heard_with (hs p) (told v m.to)) (hs p)

  module _ (members : List ℕ) (named : (p : ℕ) → is_member nat_eq group p ≡ true → (a p).members ≡ members) where
    -- a request of one of them to another member
    pub record IsBetween (m : Sent) : Type 0 where
      pub from : is_member nat_eq group m.from ≡ true
      pub other : is_other m.from members m.to ≡ true

    reply_step : (m : Sent) (hs : List Heard) → IsBetween m → IsRow m.from (a m.from) (hearing (v m.from) hs) (input.Deliver m.to (reply_to m).message) (remembering (hearing (v m.from) (heard_with hs (told v m.to))) [])
    reply_step m hs k d has stays =
        let p : ℕ = m.from in
        let r : ℕ = (v p).round in
        admitted p (a p) (hearing (v p) hs) m.to (reply_to m).message (body.HeartbeatReply r (v m.to).own (v m.to).flag) (sym (confs p k.from)) refl refl refl (λ _ _. refl) d has stays
        ∙ ap (λ (t : Bool). remembering (hearing (v p) (cond t (heard_with hs (told v m.to)) hs)) [])
        (and_from (eqb r r) (is_other p (a p).members m.to) (eq-eqb r r refl) (ap (λ (l : List ℕ). is_other p l m.to) (named p k.from) ∙ k.other))

    reply_one : (w : World) (pre : List Sent) (m : Sent) (more : List Sent) (n : ℕ) → length pre ≡ n → w.messages ≡ pre ++ reply_to m ∷ more → (hs : ℕ → List Heard) → AllHear w hs → IsBetween m
        → AllHear (world_after w (done_event (event_of (what.Deliver n)))) (more_heard hs m) × ((world_after w (done_event (event_of (what.Deliver n)))).messages ≡ w.messages)
    reply_one w pre m more n at is hs sit k =
        let p : ℕ = m.from in
        let u : World = world_after w (done_event (event_of (what.Deliver n))) in
        let x = stepped w (what.Deliver n) p (input.Deliver m.to (reply_to m).message) (a p) (hearing (v p) (hs p)) (remembering (hearing (v p) (heard_with (hs p) (told v m.to))) []) (deed_is w pre (reply_to m) more n at is) (λ me s. refl) (reply_step m (hs p) k) tt (unended (a p)) (sit p k.from) in (
          λ q h. by_test (eqb q p) (λ (b : Bool). Sits (node_at u.nodes q) q (a q) (hearing (v q) (cond b (heard_with (hs q) (told v m.to)) (hs q))))
              (λ e. subst (λ (j : ℕ). Sits (node_at u.nodes j) j (a j) (hearing (v j) (heard_with (hs j) (told v m.to)))) (sym (eqb-true q p e)) x.here)
              (λ e. subst (λ (o : Option Node). Sits o q (a q) (hearing (v q) (hs q))) (sym (x.others q (eqb-false q p e))) (sit q h)),
          x.messages ∙ append-nil w.messages,
        )

    -- the replies to these requests are delivered
    pub heard_run : (ms pre rest : List Sent) (n : ℕ) → length pre ≡ n → (w : World) (hs : ℕ → List Heard) → AllHear w hs → w.messages ≡ pre ++ (map reply_to ms ++ rest) → Each IsBetween ms
        → AllHear (after_events w (delivered (numbers_of (λ m. is_reply m.message.body) n (map reply_to ms)))) (λ p. kept (told v) p ms (hs p))
    heard_run [] pre rest n at w hs sit is k = sit
    heard_run (m ∷ ms) pre rest n at w hs sit is k =
        let x = reply_one w pre m (map reply_to ms ++ rest) n at is hs sit k.0 in
        heard_run ms (pre ++ reply_to m ∷ []) rest (n + 1) (longer pre (reply_to m) n at) (world_after w (done_event (event_of (what.Deliver n)))) (more_heard hs m) x.0
        (x.1 ∙ is ∙ sym (append_assoc pre (reply_to m ∷ []) (map reply_to ms ++ rest))) k.1
