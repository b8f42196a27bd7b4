-- What one other member does in an exchange: it takes the leader's log, each entry after it, and the leader hears of that.
use Rattle.std.proofs.Common.{◌≡◌, ℕ, zero, suc, ◌+◌, ◌-◌, ◌<◌, ◌≤◌, ◌⊎◌, inl, inr, ⊎_elim, List, [], ◌∷◌, ◌++◌, length, true, ◌&&◌, take, drop, refl, sym, ap, ◌∙◌, arith, ◌==◌, Some, length-append}
use Rattle.std.specs.Prelude.{nat_lt, nat_le, if◌then◌else◌, slice_get}
use Rattle.std.proofs.lemmas.Bool.{cases_eq, cases_lt, cond_both, both_ways, eq-eqb, lt-ltb, le-leb, ltb-true, ltb-false}
use Rattle.std.proofs.lemmas.List.{length-take-le}
use Rattle.std.proofs.lemmas.Option.{slice_get_within}
use Rattle.op_types.specs.declared.log.Entry.{Entry}
use Rattle.op_spec.specs.Machine.{IsAmong, with_at}
use Rattle.op_paxos.specs.Nodes.{LeadingState, Leading, Node}
use Rattle.op_paxos.specs.Messages.{Msg, AcceptSync, Accept, Accepted, Packet, Effect, packet}
use Rattle.op_types.specs.Limits.{most_part_bytes}
use Rattle.op_types.specs.Cutting.{entries_size, cut, parts_from}
use Rattle.op_paxos.specs.Parts.{sync_messages}
use Rattle.op_paxos.specs.InParts.{after_each}
use Rattle.op_paxos.specs.Follower.{appended, on_accept, synced_to, on_accept_sync}
use Rattle.op_paxos.specs.Leader.{majority_length, recount, on_accepted_in}
use Rattle.op_paxos.specs.Worlds.{on_msg, Input, Comes, step, World, Event, Delivers, stepped, taken_by, input_of, applied, happens}
use Rattle.op_paxos.specs.Exchange.{Delivery, Sending, RestsBetween, InTurn, IsCalm, Proposed}
use Rattle.op_paxos.proofs.ExchangeNeeds.{Needs}
use Rattle.op_paxos.proofs.History.{History}
use Rattle.op_paxos.proofs.Updates.{upd_at, upd_here, upd_other}
use Rattle.op_paxos.proofs.OneStep.{Invariant}
use Rattle.op_paxos.proofs.StepMoves.{step_moves}
use Rattle.op_paxos.proofs.PromisesStand.{Good}
use Rattle.op_paxos.proofs.NumberedWorlds.{Next, next, stable, W, StepAt, view, sender, G, good_at, later_at}
use Rattle.op_paxos.proofs.Senders.{ack_by}
use Rattle.op_types.proofs.Cuts.{joined, cut_joined, cut_full, cut_some}
use Rattle.op_paxos.proofs.SentParts.{in_sync}
use Rattle.op_paxos.proofs.SyncInParts.{part_of, later_all, first_all}
use Rattle.op_paxos.proofs.PromiseFacts.{SyncFits}
use Rattle.op_paxos.proofs.Roles.{lead_is}
use Rattle.op_paxos.proofs.Streams.{Leads, lead_next, Stream, Starts, stream_begins, sent_before, stream_at, Reaching}
use Rattle.op_paxos.proofs.Membership.{none_some, some_is, in_from_get}

-- ---- the handlers, where their conditions hold
takes_accept : (q : ℕ) (nd : Node) (p b a : ℕ) (es : List Entry) → nd.promised ≡ b → nd.accepted ≡ b → a ≤ length nd.log → ((on_accept q nd p b a es).node.accepted ≡ b) × (a + length es ≤ length (on_accept q nd p b a es).node.log)
unfolding on_accept appended
takes_accept q nd p b a es e f le =
    let yes : ((nd.promised == b) && (nd.accepted == b)) ≡ true = ap (λ c. c && (nd.accepted == b)) (eq-eqb nd.promised b e) ∙ eq-eqb nd.accepted b f in
    cond_both ((nd.promised == b) && (nd.accepted == b)) _ _ (λ (o : Effect). ((o.node).accepted ≡ b) × (a + length es ≤ length (o.node).log))
    (λ c. cond_both (nat_lt (length nd.log) a) _ _ (λ (o : Effect). ((o.node).accepted ≡ b) × (a + length es ≤ length (o.node).log))
    (λ d. absurd (omega (arith, le, ltb-true (length nd.log) a d)))
    (λ d. (f, overlapped nd.log es a le)))
    (λ c. absurd (both_ways ((nd.promised == b) && (nd.accepted == b)) c yes))
  where
    overlapped : (log es : List Entry) (a : ℕ) → a ≤ length log → a + length es ≤ length (log ++ drop (length log - a) es)
    overlapped log es a le = omega (arith, length-append log (drop (length log - a) es), Rattle.std.proofs.lemmas.List.length-drop (length log - a) es, le)

takes_sync : (q : ℕ) (nd : Node) (p b x : ℕ) (es : List Entry) → nd.promised ≡ b → x ≤ length nd.log → ((nd.accepted ≡ b) ⊎ ((nd.accepted < b) × (nd.decided ≤ x))) → ((on_accept_sync q nd p b x es).node.accepted ≡ b) × (x + length es ≤ length (on_accept_sync q nd p b x es).node.log)
unfolding on_accept_sync synced_to
takes_sync q nd p b x es e le how =
    cond_both ((nd.promised == b) && nat_lt nd.accepted b) _ _ (λ (o : Effect). ((o.node).accepted ≡ b) × (x + length es ≤ length (o.node).log))
    (λ c. let lt = ltb-true nd.accepted b (Rattle.std.proofs.lemmas.Bool.and_parts (nd.promised == b) (nat_lt nd.accepted b) c).1 in
    let low : nd.decided ≤ x = ⊎_elim (λ (y : nd.accepted ≡ b). absurd (omega (arith, y, lt))) (λ (y : (nd.accepted < b) × (nd.decided ≤ x)). y.1) how in
    let yes : (nat_le nd.decided x && nat_le x (length nd.log)) ≡ true = ap (λ c. c && nat_le x (length nd.log)) (le-leb nd.decided x low) ∙ le-leb x (length nd.log) le in
    cond_both (nat_le nd.decided x && nat_le x (length nd.log)) _ _ (λ (o : Effect). ((o.node).accepted ≡ b) × (x + length es ≤ length (o.node).log))
    (λ d. (refl, omega (arith, length-append (take x nd.log) es, length-take-le x nd.log le)))
    (λ d. absurd (both_ways (nat_le nd.decided x && nat_le x (length nd.log)) d yes)))
    (λ c. let same : nd.accepted ≡ b = ⊎_elim (λ (y : nd.accepted ≡ b). y) (λ (y : (nd.accepted < b) × (nd.decided ≤ x)). absurd (both_ways ((nd.promised == b) && nat_lt nd.accepted b) c (ap (λ d. d && nat_lt nd.accepted b) (eq-eqb nd.promised b e) ∙ lt-ltb nd.accepted b y.0))) how in
    takes_accept q nd p b x es e same le)

-- all that brings an AcceptSync
takes_all : (ms : List ℕ) (q : ℕ) (nd : Node) (p b x : ℕ) (es : List Entry) → nd.promised ≡ b → x ≤ length nd.log → ((nd.accepted ≡ b) ⊎ ((nd.accepted < b) × (nd.decided ≤ x))) → ((after_each ms q nd p (sync_messages b x es)).accepted ≡ b) × (x + length es ≤ length (after_each ms q nd p (sync_messages b x es)).log)
unfolding step on_msg
takes_all ms q nd p b x es e le how =
    cond_both (nat_le (entries_size es) most_part_bytes) (AcceptSync b x es ∷ []) (parts_from (part_of ms q p b x es) x (cut es)) (λ (l : List Msg). ((after_each ms q nd p l).accepted ≡ b) × (x + length es ≤ length (after_each ms q nd p l).log))
    (λ c. takes_sync q nd p b x es e le how)
    (λ c. ⊎_elim
    (λ (f : nd.accepted ≡ b). let k = later_all ms q p b x es (cut es) nd x e f (cut_full es) (omega (arith, all)) in ((k.0).accepted, omega (arith, k.1 le, all)))
    (λ (f : (nd.accepted < b) × (nd.decided ≤ x)). let k = first_all ms q p b x es (cut es) nd x (cut_some es c) e f.0 f.1 le (omega arith) (cut_full es) (omega (arith, all)) (λ i l u. absurd (omega (arith, l, u))) in (k.accepted, k.long)) how)
  where
    all : length (joined (cut es)) ≡ length es
    all = ap (λ (l : List Entry). length l) (cut_joined es)

pub count_role : (ms : List ℕ) (p : ℕ) (nd : Node) (l : LeadingState) (a c : List Packet) → ((recount ms p nd l a c).node.role ≡ Leading l) × ((recount ms p nd l a c).node.log ≡ nd.log) × (majority_length ms p nd l ≤ (recount ms p nd l a c).node.decided)
unfolding recount
count_role ms p nd l a c =
    cond_both (nat_lt nd.decided (majority_length ms p nd l)) _ _ (λ (o : Effect). ((o.node).role ≡ Leading l) × ((o.node).log ≡ nd.log) × (majority_length ms p nd l ≤ (o.node).decided))
    (λ e. (refl, refl, omega arith)) (λ e. (refl, refl, ltb-false nd.decided (majority_length ms p nd l) e))

hears : (ms : List ℕ) (p : ℕ) (nd : Node) (l : LeadingState) (q n x : ℕ) → n ≡ l.ballot → x ≤ length nd.log → (next : LeadingState) × ((on_accepted_in ms p nd (Leading l) q n x).node.role ≡ Leading next) × (next.ballot ≡ l.ballot) × (x ≤ next.acked q)
unfolding on_accepted_in
hears ms p nd l q n x e le =
    let yes : ((n == l.ballot) && nat_le x (length nd.log)) ≡ true = ap (λ c. c && nat_le x (length nd.log)) (eq-eqb n l.ballot e) ∙ le-leb x (length nd.log) le in
    cond_both ((n == l.ballot) && nat_le x (length nd.log)) _ _ (λ (o : Effect). (next : LeadingState) × ((o.node).role ≡ Leading next) × (next.ballot ≡ l.ballot) × (x ≤ next.acked q))
    (λ c. (
      record l { acked = if nat_lt (l.acked q) x then with_at q x l.acked else l.acked },
      (count_role ms p nd (record l { acked = if nat_lt (l.acked q) x then with_at q x l.acked else l.acked }) _ _).0,
      refl,
      cond_both (nat_lt (l.acked q) x) (with_at q x l.acked) l.acked (λ f. x ≤ f q) (λ d. omega (arith, upd_at l.acked q x)) (λ d. ltb-false (l.acked q) x d),
    ))
    (λ c. absurd (both_ways ((n == l.ballot) && nat_le x (length nd.log)) c yes))

-- ---- a delivery
module _ (ms : List ℕ) (w : World) (es : List Event) where
  pub delivered : (i p q : ℕ) (m : Msg) → Delivery ms w es i p q m → W ms w es (suc i) ≡ stepped (W ms w es i) q (step ms q ((W ms w es i).nodes q) (Comes p m))
  unfolding happens input_of
  delivered i p q m d = by (next ms w es i)
    where
      by : Next ms w es i → W ms w es (suc i) ≡ stepped (W ms w es i) q (step ms q ((W ms w es i).nodes q) (Comes p m))
      by (inl x) = absurd (none_some (Delivers d.number) (sym x.0 ∙ d.event))
      by (inr x) =
          x.2 ∙ ap (λ e. happens ms (W ms w es i) e) (some_is x.0 (Delivers d.number) (sym x.1 ∙ d.event))
          ∙ ap (λ o. applied ms (W ms w es i) (λ o. o) (taken_by (W ms w es i) (Delivers d.number) o)) d.is

  after_one : (i p q : ℕ) (m : Msg) → Delivery ms w es i p q m → (W ms w es (suc i)).nodes q ≡ (step ms q ((W ms w es i).nodes q) (Comes p m)).node
  after_one i p q m d = ap (λ (y : World). y.nodes q) (delivered i p q m d) ∙ upd_here (W ms w es i).nodes q q _ refl

  pub within : (i p q : ℕ) (m : Msg) → Delivery ms w es i p q m → i < length es
  within i p q m d = slice_get_within es i (Delivers d.number) d.event

  -- ---- messages that are delivered in turn
  -- a node that takes no step stays
  rests : (x i : ℕ) (j : ℕ) → i < j → RestsBetween ms w es x i j → (W ms w es j).nodes x ≡ (W ms w es (suc i)).nodes x
  rests x i j lt f = stable (λ k. k ≤ j → (W ms w es k).nodes x ≡ (W ms w es (suc i)).nodes x) (suc i) (λ le. refl)
      (λ k le h low. one k (λ e input is at. f k e input (omega (arith, le)) (omega (arith, low)) is at) ∙ h (omega (arith, low))) j (omega (arith, lt)) (omega arith)
    where
      one : (k : ℕ) → ((e : Event) (input : Input) → slice_get es k ≡ Some e → input_of (W ms w es k) e ≡ Some (x, input) → ⊥) → (W ms w es (suc k)).nodes x ≡ (W ms w es k).nodes x
      one k none = by (view ms w es k)
        where
          by : (W ms w es (suc k) ≡ W ms w es k) ⊎ StepAt ms w es k → (W ms w es (suc k)).nodes x ≡ (W ms w es k).nodes x
          by (inl e) = ap (λ (y : World). y.nodes x) e
          by (inr s) = ap (λ (y : World). y.nodes x) s.now ∙ upd_other (W ms w es k).nodes (s.acts).node x _ (λ d. none s.event (s.acts).input s.is ((s.acts).is ∙ ap (λ y. Some (y, (s.acts).input)) (sym d)))

  -- where the first of them, and the last, is delivered
  pub turn_first : (i j p q : ℕ) (bs : List Msg) → InTurn ms w es i j p q bs → (m : Msg) × IsAmong bs m × Delivery ms w es i p q m
  turn_first i j p q [] h = absurd h
  turn_first i j p q (m ∷ []) h = (m, inl refl, h.1)
  turn_first i j p q (m ∷ (k ∷ bs)) h = (m, inl refl, h.0)

  pub turn_last : (i j p q : ℕ) (bs : List Msg) → InTurn ms w es i j p q bs → (i ≤ j) × (j < length es)
  turn_last i j p q [] h = absurd h
  turn_last i j p q (m ∷ []) h = (omega (arith, h.0), omega (arith, h.0, within i p q m h.1))
  turn_last i j p q (m ∷ (k ∷ bs)) h = let r = turn_last (h.1).0 j p q (k ∷ bs) (h.1).3 in (omega (arith, r.0, (h.1).1), r.1)

  -- what the receiver then is
  pub in_turn : (i j p q : ℕ) (bs : List Msg) → InTurn ms w es i j p q bs → (W ms w es (suc j)).nodes q ≡ after_each ms q ((W ms w es i).nodes q) p bs
  in_turn i j p q [] h = absurd h
  in_turn i j p q (m ∷ []) h = ap (λ k. (W ms w es (suc k)).nodes q) (sym h.0) ∙ after_one i p q m h.1
  in_turn i j p q (m ∷ (k ∷ bs)) h =
      in_turn (h.1).0 j p q (k ∷ bs) (h.1).3
      ∙ ap (λ (n : Node). after_each ms q n p (k ∷ bs)) (rests q i (h.1).0 (h.1).1 (h.1).2 ∙ after_one i p q m h.0)

-- ---- one other
module _ (ms : List ℕ) (w : World) (g : History) (good : Good ms w g) (es : List Event) (p b : ℕ) (others : List ℕ) (members : (q : ℕ) → IsAmong others q → IsAmong ms q × (q ≡ p → ⊥)) (calm : IsCalm ms w es b others p 0 (length es))
    (q : ℕ) (mine : IsAmong others q) (come : Proposed) (s : Needs ms w es b p q come) (calm_q : IsCalm ms w es b (p ∷ []) q s.prepare_at (suc s.ack_sent)) where
  abbrev pub at : ℕ → World
  at i = W ms w es i

  abbrev here : ℕ → Node
  here i = (at i).nodes q

  abbrev pub hist : ℕ → History
  hist i = G ms w es g good i

  inv_at : (i : ℕ) → Invariant ms (at i) (hist i)
  inv_at i = (good_at ms w es g good i).inv

  -- q accepted this many entries in b
  abbrev pub Has : ℕ → ℕ → Type 0
  Has n i = n < (hist i).acc q b

  has_up : (n i j : ℕ) → i ≤ j → Has n i → Has n j
  has_up n i j le h = omega (arith, h, (later_at ms w es g good i j le).acc_up q b)

  -- and then has them in its log
  record Holds (n i : ℕ) : Type 0 where
    promised : (here i).promised ≡ b
    accepted : (here i).accepted ≡ b
    long : n ≤ length (here i).log

  holds : (n i : ℕ) → s.prepare_at ≤ i → i ≤ suc s.ack_sent → Has n i → Holds n i
  holds n i le up_to h =
      let o = (inv_at i).nodes q in
      let low = calm_q.promised i le up_to in
      let up = o.last b (omega (arith, h)) in
      let is : (here i).accepted ≡ b = omega (arith, up, low, o.within) in
      record { promised = omega (arith, up, low, o.within); accepted = is; long = omega (arith, h, o.vote, ap ((hist i).acc q) is) }

  has_from : (n i : ℕ) → (here i).accepted ≡ b → n ≤ length (here i).log → Has n i
  has_from n i is le = omega (arith, le, ((inv_at i).nodes q).vote, ap ((hist i).acc q) is)

  -- ---- the AcceptSync
  abbrev pub top : ℕ
  top = length ((at (suc s.sync_sent)).nodes p).log

  abbrev pub end : ℕ
  end = length es

  -- the first message that is delivered of those that bring it
  abbrev first_sync : (m : Msg) × IsAmong (sync_messages b s.start s.rest) m × Delivery ms w es s.sync_from p q m
  first_sync = turn_first ms w es s.sync_from s.sync_at p q (sync_messages b s.start s.rest) s.synced

  abbrev last_sync : (s.sync_from ≤ s.sync_at) × (s.sync_at < length es)
  last_sync = turn_last ms w es s.sync_from s.sync_at p q (sync_messages b s.start s.rest) s.synced

  begins : Starts ms w g good es p b others members calm q (suc s.sync_sent) top mine (suc s.sync_sent) s.start s.rest
  begins = stream_begins ms w g good es p b others members calm q s.sync_sent s.start s.rest mine first_sync.0 first_sync.1 (s.sent first_sync.0 first_sync.1)

  pub stream_to : (j : ℕ) → suc s.sync_sent ≤ j → Stream ms w g good es p b others members calm q (suc s.sync_sent) top j
  stream_to j le = stream_at ms w g good es p b others members calm q (suc s.sync_sent) top mine begins.stream j le

  -- q is asked to have promised, and to fit it
  record Meets : Type 0 where
    promised : b ≤ (here s.sync_from).promised
    fits : SyncFits (hist s.sync_from) q (here s.sync_from) b s.start

  meets : Meets
  meets = in_sync (λ m. IsAmong (at s.sync_from).packets (packet p q m) → Meets) b s.start s.rest
      (λ i. record { promised = ((inv_at s.sync_from).packets (packet p q (AcceptSync b s.start s.rest)) i).promised; fits = ((good_at ms w es g good s.sync_from).tells).packets (packet p q (AcceptSync b s.start s.rest)) i })
      (λ k run r i. record { promised = (((inv_at s.sync_from).packets _ i).whole).promised; fits = ((good_at ms w es g good s.sync_from).tells).packets _ i })
      first_sync.0 first_sync.1 (in_from_get (at s.sync_from).packets (first_sync.2).number (packet p q first_sync.0) (first_sync.2).is)

  -- q takes it
  sync_now : (here (suc s.sync_at)) ≡ after_each ms q (here s.sync_from) p (sync_messages b s.start s.rest)
  sync_now = in_turn ms w es s.sync_from s.sync_at p q (sync_messages b s.start s.rest) s.synced

  promised_then : (here s.sync_from).promised ≡ b
  promised_then = omega (arith, meets.promised, calm_q.promised s.sync_from (omega (arith, s.after_one)) (omega (arith, last_sync.0, s.after_sync)))

  sync_fits : (s.start ≤ length (here s.sync_from).log) × (((here s.sync_from).accepted ≡ b) ⊎ (((here s.sync_from).accepted < b) × ((here s.sync_from).decided ≤ s.start)))
  sync_fits =
      let f = meets.fits in
      let o = (inv_at s.sync_from).nodes q in
      ⊎_elim
      (λ (same : (here s.sync_from).accepted ≡ b).
      let v : (hist s.sync_from).acc q b ≡ suc (length (here s.sync_from).log) = sym (ap ((hist s.sync_from).acc q) same) ∙ o.vote in
      let m = ((inv_at s.sync_from).hist).voted q b (omega (arith, v)) in
      (⊎_elim (λ (x : s.start < (hist s.sync_from).mark b). omega (arith, x, m.1, v)) (⊎_elim (λ (x : s.start ≤ (here s.sync_from).decided). omega (arith, x, o.fits)) (λ (x : s.start < (hist s.sync_from).acc q b). omega (arith, x, v))) f.low, inl same))
      (λ (apart : (here s.sync_from).accepted ≡ b → ⊥).
      ⊎_elim (λ (x : (here s.sync_from).accepted ≡ b). absurd (apart x))
      (λ (x : ((here s.sync_from).decided ≤ s.start) × (s.start ≤ length (here s.sync_from).log)). (x.1, inr (below apart o.within promised_then, x.0)))
      (f.now promised_then))
      (cases_eq (here s.sync_from).accepted b)
    where
      below : ((here s.sync_from).accepted ≡ b → ⊥) → (here s.sync_from).accepted ≤ (here s.sync_from).promised → (here s.sync_from).promised ≡ b → (here s.sync_from).accepted < b
      below n le e = ⊎_elim (λ (x : (here s.sync_from).accepted < b). x) (λ (x : b ≤ (here s.sync_from).accepted). absurd (n (omega (arith, x, le, e)))) (cases_lt (here s.sync_from).accepted b)

  -- the AcceptSync reaches to the length that the leader's log then had
  pub sync_covers : s.start + length s.rest ≡ top
  sync_covers = begins.covers

  -- the follower takes it
  pub has_top : Has top (suc s.sync_at)
  has_top =
      let t = takes_all ms q (here s.sync_from) p b s.start s.rest promised_then sync_fits.0 sync_fits.1 in
      has_from top (suc s.sync_at) (ap (λ (n : Node). n.accepted) sync_now ∙ t.0) (omega (arith, t.1, ap (λ (n : Node). length n.log) sync_now, begins.covers))

  -- ---- the Accepts
  sync_early : s.sync_at < end
  sync_early = last_sync.1

  -- the leader sends it each entry after that
  pub the_stream : Stream ms w g good es p b others members calm q (suc s.sync_sent) top end
  the_stream = stream_to end (omega (arith, s.after_sending, last_sync.0, sync_early))

  accept_now : (i a : ℕ) (es' : List Entry) → Delivery ms w es i p q (Accept b a es') → s.prepare_at ≤ i → i ≤ suc s.ack_sent → Has a i → Has (a + length es') (suc i)
  unfolding step on_msg
  accept_now i a es' d le up_to h =
      let o = holds a i le up_to h in
      let t = takes_accept q (here i) p b a es' o.promised o.accepted o.long in
      let now : here (suc i) ≡ (on_accept q (here i) p b a es').node = ap (λ (y : World). y.nodes q) (delivered ms w es i p q (Accept b a es') d) ∙ upd_here (at i).nodes q q _ refl in
      has_from (a + length es') (suc i) (ap (λ (n : Node). n.accepted) now ∙ t.0) (omega (arith, t.1, ap (λ (n : Node). length n.log) now))

  covered_below : (bound i a : ℕ) (es' : List Entry) → i < bound → s.sync_sent < i → i ≤ s.last → Sending ms w es i p q (Accept b a es') → Has (a + length es') (suc (s.accept_at i))
  covered_below zero i a es' lt first up h = absurd (omega arith)
  covered_below (suc bound) i a es' lt first up h =
      let d = s.accepted i a es' first up h in
      accept_now (s.accept_at i) a es' d.1 (omega (arith, s.after_one, last_sync.0, d.0)) (omega (arith, s.after_accepts i a es' first up h))
      (⊎_elim (λ (x : a ≤ top). low x d.0)
      (λ (x : (0 < a) × Reaching ms w g good es p b others members calm q (suc s.sync_sent) i (a - 1)).
      let z = x.1 in
      let r = covered_below bound z.number z.start z.entries (omega (arith, lt, z.early)) z.first (omega (arith, up, z.early)) z.sent in
      omega (arith, has_up (z.start + length z.entries) (suc (s.accept_at z.number)) (s.accept_at i) (s.in_order z.number i z.start a z.entries es' z.first z.early up z.sent h) r, x.0, z.high))
      (sent_before ms w g good es p b others members calm q (suc s.sync_sent) top mine i a es' (stream_to i first) h))
    where
      low : a ≤ top → s.sync_at < s.accept_at i → Has a (s.accept_at i)
      low x y = omega (arith, has_up top (suc s.sync_at) (s.accept_at i) y has_top, x)

  -- it takes each Accept
  pub covered : (i a : ℕ) (es' : List Entry) → s.sync_sent < i → i ≤ s.last → Sending ms w es i p q (Accept b a es') → Has (a + length es') (suc s.ack_sent)
  covered i a es' first up h = has_up (a + length es') (suc (s.accept_at i)) (suc s.ack_sent) (omega (arith, s.after_accepts i a es' first up h)) (covered_below (suc i) i a es' (omega arith) first up h)

  -- it has what the AcceptSync brought when it acknowledges last
  pub covered_top : Has top (suc s.ack_sent)
  covered_top = has_up top (suc s.sync_at) (suc s.ack_sent) (omega (arith, s.after_sync)) has_top

  -- ---- the Accepted
  -- it tells of all that q then had
  pub ack_tells : (n : ℕ) → Has n (suc s.ack_sent) → n ≤ s.size
  ack_tells n h =
      let k = sender ms w es s.ack_sent (s.acknowledged).number q p (Accepted b s.size) (s.acknowledged).new (s.acknowledged).is in
      let r = ack_by ms k.node ((at s.ack_sent).nodes k.node) k.input (step ms k.node ((at s.ack_sent).nodes k.node) k.input) (step_moves ms k.node ((at s.ack_sent).nodes k.node) k.input) q p b s.size k.sent in
      let now : here (suc s.ack_sent) ≡ (step ms k.node ((at s.ack_sent).nodes k.node) k.input).node = ap (λ y. (at (suc s.ack_sent)).nodes y) (sym r.from) ∙ k.here in
      let o = holds n (suc s.ack_sent) (omega (arith, s.after_one, last_sync.0, s.after_sync)) (omega arith) h in
      omega (arith, o.long, r.size, ap (λ (y : Node). length y.log) now)

  -- p notes it
  pub record Noted (n i : ℕ) : Type 0 where
    pub leads : Leads ms w g good es p b others members calm i
    pub enough : n ≤ (leads.lead).acked q

  ack_now : (l : LeadingState) → ((at s.ack_at).nodes p).role ≡ Leading l → (at (suc s.ack_at)).nodes p ≡ (on_accepted_in ms p ((at s.ack_at).nodes p) (Leading l) q b s.size).node
  unfolding step on_msg
  ack_now l is =
      ap (λ (y : World). y.nodes p) (delivered ms w es s.ack_at q p (Accepted b s.size) s.acked) ∙ upd_here (at s.ack_at).nodes p p _ refl
      ∙ ap (λ r. (on_accepted_in ms p ((at s.ack_at).nodes p) r q b s.size).node) is

  noted_by : (l : LeadingState) → ((at s.ack_at).nodes p).role ≡ Leading l → l.ballot ≡ b → s.size ≤ length ((at s.ack_at).nodes p).log → Noted s.size (suc s.ack_at)
  noted_by l role ballot le =
      let h = hears ms p ((at s.ack_at).nodes p) l q b s.size (sym ballot) le in
      record { leads = record { lead = h.0; role = ap (λ (n : Node). n.role) (ack_now l role) ∙ h.1; ballot = h.2 ∙ ballot }; enough = h.3 }

  noted_first : Noted s.size (suc s.ack_at)
  noted_first =
      let r = (stream_to s.ack_at (omega (arith, s.after_sending, last_sync.0, s.after_sync, s.after_ack))).leads in
      let i = inv_at s.ack_at in
      let told : s.size < (hist s.ack_at).acc q b = i.packets (packet q p (Accepted b s.size)) (in_from_get (at s.ack_at).packets (s.acked).number (packet q p (Accepted b s.size)) (s.acked).is) in
      let v = (i.hist).voted q b (omega (arith, told)) in
      let o = lead_is ms (at s.ack_at) (hist s.ack_at) i p r.lead r.role in
      noted_by r.lead r.role r.ballot (omega (arith, told, v.2, ap (λ (y : List Entry). length y) o.log_is, ap (λ n. length ((hist s.ack_at).full n)) r.ballot))

  -- the leader notes what it acknowledged
  pub noted : Noted s.size end
  noted = stable (λ i. Noted s.size i) (suc s.ack_at) noted_first
      (λ i le h. let n = lead_next ms w g good es p b others members calm i (h.leads).lead (h.leads).role (h.leads).ballot in record { leads = n.next; enough = omega (arith, h.enough, n.acked q) })
      end (within ms w es s.ack_at q p (Accepted b s.size) s.acked)
