-- A whole exchange in which the leader keeps to its ballot decides: what the pure machine says of it, said of a run's happenings.
use Rattle.std.proofs.Common.{◌≡◌, ◌<◌, ◌≤◌, ◌⊎◌, inl, inr, ⊎_elim, ℕ, suc, ◌||◌, ◌==◌, length, Bool, true, eqb, nat_eq, List, [], ◌∷◌, take, Some, refl, sym, ap, ◌∙◌, subst, arith}
use Rattle.std.proofs.lemmas.Bool.{eqb-true, ltb-true, or_cases}
use Rattle.std.specs.Set.{is_member}
use Rattle.op_types.specs.declared.ballot.Ballot.{Ballot}
use Rattle.op_types.specs.declared.log.Entry.{Entry}
use Rattle.op_types.specs.declared.messages.Body.{Body}
use Rattle.op_types.specs.declared.messages.Body.TheVariants as body
use Rattle.op_runs.specs.World.{World, Happening, node_at}
use Rattle.op_runs.specs.Run.{Execution}
use Rattle.op_paxos.specs.Worlds as paxos
use Rattle.op_paxos.specs.Worlds.{Event, Proposes}
use Rattle.op_paxos.specs.Nodes.{Node as Member, majority_passes}
use Rattle.op_paxos.specs.Exchange as px
use Rattle.op_paxos.proofs.ExchangeEnds as one
use Rattle.op_configurations.specs.Servers.{Part}
use Rattle.op_refinement.proofs.Pure as pure
use Rattle.op_refinement.proofs.View.{IsSmall, rank, is_below-rank, view_preparing, view_promise, view_body}
use Rattle.op_refinement.proofs.Worlds.{state_of}
use Rattle.op_refinement.proofs.Runs.{Track}
use Rattle.op_laws.specs.Led.{HasBelow, IsBelowAt}
use Rattle.op_laws.specs.Exchange as there
use Rattle.op_quorum.specs.Quorums.{is_majority, passing}
use Rattle.op_laws.specs.Exchange.{Term, Delivery, Sending, KeepsTo, IfKeepsTo, IsOne, IsCalm, node_before, node_role, part_members, members_at, IsPlaced, IsDropped, IsToldDropped, IsIn, SendsAll, InTurn, told_bodies, FiveSteps, Prepares, Takes, Exchange}
use Rattle.op_laws.proofs.Reached.{world_of_run}
use Rattle.op_laws.proofs.Slots.{double, double_is, half, half_odd}
use Rattle.op_laws.proofs.Lifting.{W, W_is, events, world_at, last_world, added, pad, two, got_two, Here, member_is, OwnStep, own_step, calm_here, mid_node, calm_there, rests_there}
use Rattle.op_laws.proofs.Lifting as lifting
use Rattle.op_paxos.specs.Parts.{promise_messages, sync_messages}
use Rattle.op_protocol.specs.Parts.{sync_bodies}
use Rattle.op_laws.proofs.Turns.{turn_order, IsViewed, AreViewed, promise_viewed, sync_viewed}
use Rattle.op_laws.proofs.Sendings.{sending_there, AcceptHere, accept_here, IsExchanged, AllAdmitted, delivery_there}
use Rattle.op_laws.proofs.AnsweredDrops.{dropped_told}
use Rattle.op_laws.proofs.Comings.{Arrival, Decides, one_in, in_one, cs, comes_here, proposed_there, taken_there, members_is, prepares_there, members_there, calm_then, early, known_here_too}
use Rattle.op_laws.proofs.Places.{here_at, placed_here, dropped_here}

-- the exchange, of an entry that comes at a leader that nothing disturbs
pub record Whole (w : World) (hs : List Happening) (x : Term) (others : List ℕ) (e : Entry) : Type 0 where
  pub arrival : Arrival w hs x others e
  pub majority : is_majority (passing (λ q. q == x.leader || is_member nat_eq others q) (members_at (node_at w.nodes x.leader))) (length (members_at (node_at w.nodes x.leader))) ≡ true
  pub steps : (q : ℕ) → IsOne others q → FiveSteps w hs x q arrival.proposed_at
  pub calm_other : (q : ℕ) (i : IsOne others q) → IsCalm w hs x (x.leader ∷ []) q (steps q i).prepare_at (suc (steps q i).ack_sent)

-- ballots in range with one number are one
rank-same : (a b : Ballot) → IsSmall a → IsSmall b → rank a ≡ rank b → a ≡ b
rank-same a b sa sb e =
    let n : a.number ≡ b.number = omega arith in
    let p : a.pid ≡ b.pid = omega arith in
    λ i. record { number = n i; pid = p i }

no_accept : (n a : ℕ) (xs : List Entry) → pure.Accept n a xs ≡ pure.PrepareReq → ⊥
no_accept n a xs e = cc

no_prepare : (n a b c : ℕ) → pure.Prepare n a b c ≡ pure.PrepareReq → ⊥
no_prepare n a b c e = cc

no_accepted : (n x : ℕ) → pure.Accepted n x ≡ pure.PrepareReq → ⊥
no_accepted n x e = cc

module _ (members : List ℕ) (t : Execution) (hs : List Happening) (k : Track members t hs) (x : Term) (sb : IsSmall x.ballot) (others : List ℕ) (e : Entry) (y : Whole t.world hs x others e)
    (pt : Part) (has : (state_of members (k.ks 0) x.leader).part ≡ Some pt) (same : x.conf ≡ pt.conf) (admits : AllAdmitted members t hs k x.leader pt has) where
  abbrev p : ℕ
  p = x.leader

  abbrev es : List Event
  es = events members t hs k p pt has

  abbrev ms : List ℕ
  ms = lifting.ms members t hs k p pt has

  abbrev W0 : paxos.World
  W0 = W members t hs k p pt has 0

  abbrev at_event : ℕ → paxos.World
  at_event i = world_at members t hs k p pt has i

  abbrev at : ℕ → ℕ
  at j = suc (double j)

  abbrev b : Ballot
  b = x.ballot

  abbrev leader_at : (j : ℕ) → Here members t hs k p pt has x j p
  leader_at j = here_at members t hs k p pt has x same sb others y.arrival.calm j

  abbrev y0 : Arrival t.world hs x others e
  y0 = y.arrival

  sends : (i a q : ℕ) (z : Body) (m : pure.Msg) → Sending t.world hs x.conf i a q z → view_body z ≡ Some m → (m ≡ pure.PrepareReq → ⊥) → px.Sending ms W0 es (at i) a q m
  sends i a q z m s v other = sending_there members t hs k p pt has i a q z m (subst (λ (c : ℕ). Sending t.world hs c i a q z) same s) v other

  to_leader : (i q : ℕ) (z : Body) (m : pure.Msg) → IsExchanged z → Delivery t.world hs x.conf i q p z → view_body z ≡ Some m → (m ≡ pure.PrepareReq → ⊥) → px.Delivery ms W0 es (at i) q p m
  to_leader i q z m kind d v other = delivery_there members t hs k p pt has admits x same i q p z m kind (subst (λ (c : ℕ). Delivery t.world hs c i q p z) same d) (leader_at i) (leader_at (suc i)) v other

  -- ---- messages in parts
  sends_all : (i a q : ℕ) (bs : List Body) (ms_ : List pure.Msg) → AreViewed bs ms_ → SendsAll t.world hs x.conf i a q bs → px.SendsAll ms W0 es (at i) a q ms_
  sends_all i a q [] [] v s m among = absurd among
  sends_all i a q [] (z ∷ zs) v s m among = absurd v
  sends_all i a q (b ∷ bs) [] v s m among = absurd v
  sends_all i a q (b ∷ bs) (z ∷ zs) v s m (inl e) = subst (λ (y : pure.Msg). px.Sending ms W0 es (at i) a q y) e (sends i a q b z (s b (inl refl)) (v.0).view (v.0).other)
  sends_all i a q (b ∷ bs) (z ∷ zs) v s m (inr among) = sends_all i a q bs zs v.1 (λ d inside. s d (inr inside)) m among

  -- in turn at a node that nothing disturbs
  module _ (with : List ℕ) (q i0 end : ℕ) (calm : IsCalm t.world hs x with q i0 end) where
    here_calm : (j : ℕ) → i0 ≤ j → j ≤ end → Here members t hs k p pt has x j q
    here_calm j le up_to = calm_here members t hs k p pt has x same sb with q i0 end calm j le up_to

    comes_calm : (i a : ℕ) (z : Body) (m : pure.Msg) → IsViewed z m → i0 ≤ i → i < end → Delivery t.world hs x.conf i a q z → px.Delivery ms W0 es (at i) a q m
    comes_calm i a z m v le up_to d =
        delivery_there members t hs k p pt has admits x same i a q z m v.kind (subst (λ (c : ℕ). Delivery t.world hs c i a q z) same d) (here_calm i le (omega (arith, up_to))) (here_calm (suc i) (omega (arith, le)) (omega (arith, up_to))) v.view v.other

    turn_calm : (i j a : ℕ) (bs : List Body) (zs : List pure.Msg) → AreViewed bs zs → i0 ≤ i → j < end → InTurn t.world hs x.conf i j a q bs → px.InTurn ms W0 es (at i) (at j) a q zs
    turn_calm i j a [] zs v le up_to d = absurd d
    turn_calm i j a (b ∷ bs) [] v le up_to d = absurd v
    turn_calm i j a (b ∷ []) (z ∷ []) v le up_to d = (ap at d.0, comes_calm i a b z v.0 le (omega (arith, d.0, up_to)) d.1)
    turn_calm i j a (b ∷ []) (z ∷ (y ∷ zs)) v le up_to d = absurd v.1
    turn_calm i j a (b ∷ (c ∷ bs)) (z ∷ []) v le up_to d = absurd v.1
    turn_calm i j a (b ∷ (c ∷ bs)) (z ∷ (y ∷ zs)) v le up_to d =
        let h : ℕ = (d.1).0 in
        let lt : i < h = (d.1).1 in
        let later : h ≤ j = turn_order t.world hs x.conf h j a q (c ∷ bs) (d.1).3 in (
          comes_calm i a b z v.0 le (omega (arith, lt, later, up_to)) d.0,
          (
            at h,
            omega (arith, lt, double_is i, double_is h),
            rests_there members t hs k p pt has x same sb with q i0 end calm i h le (omega (arith, later, up_to)) (d.1).2,
            turn_calm h j a (c ∷ bs) (y ∷ zs) v.1 (omega (arith, le, lt)) up_to (d.1).3,
          ),
        )

  turn_at_leader : (i j q : ℕ) (bs : List Body) (zs : List pure.Msg) → AreViewed bs zs → InTurn t.world hs x.conf i j q p bs → px.InTurn ms W0 es (at i) (at j) q p zs
  turn_at_leader i j q bs zs v d = turn_calm others p 0 (suc j) (y.arrival.calm (suc j)) i j q bs zs v (omega arith) (omega arith) d

  -- ---- the five steps with one other
  module _ (q : ℕ) (a0 : there.Proposed) (st : FiveSteps t.world hs x q a0) (cq : IsCalm t.world hs x (p ∷ []) q st.prepare_at (suc st.ack_sent)) where
    other_at : (j : ℕ) → st.prepare_at ≤ j → j ≤ suc st.ack_sent → Here members t hs k p pt has x j q
    other_at j le up_to = calm_here members t hs k p pt has x same sb (p ∷ []) q st.prepare_at (suc st.ack_sent) cq j le up_to

    to_other : (i : ℕ) (z : Body) (m : pure.Msg) → IsExchanged z → Delivery t.world hs x.conf i p q z → st.prepare_at ≤ i → i ≤ st.ack_sent → view_body z ≡ Some m → (m ≡ pure.PrepareReq → ⊥) → px.Delivery ms W0 es (at i) p q m
    to_other i z m kind d le up_to v other = delivery_there members t hs k p pt has admits x same i p q z m kind (subst (λ (c : ℕ). Delivery t.world hs c i p q z) same d) (other_at i le (omega (arith, up_to))) (other_at (suc i) (omega (arith, le)) (omega (arith, up_to))) v other

    turn_at_other : (i j : ℕ) (bs : List Body) (zs : List pure.Msg) → AreViewed bs zs → st.prepare_at ≤ i → j ≤ st.ack_sent → InTurn t.world hs x.conf i j p q bs → px.InTurn ms W0 es (at i) (at j) p q zs
    turn_at_other i j bs zs v le up_to d = turn_calm (p ∷ []) q st.prepare_at (suc st.ack_sent) cq i j p bs zs v le (omega (arith, up_to)) d

    synced_after : st.sync_from ≤ st.sync_at
    synced_after = turn_order t.world hs x.conf st.sync_from st.sync_at p q (sync_bodies b st.start st.rest) st.synced

    soon : st.prepare_at < suc st.ack_sent
    soon = omega (arith, st.after_prepare, st.on_promise, st.after_sending, synced_after, st.after_sync)

    below_there : ((at_event (at st.prepare_at)).nodes q).promised < rank b
    below_there =
        let u = other_at st.prepare_at (omega arith) (omega (arith, soon)) in
        let n : node_before t.world hs st.prepare_at q ≡ Some u.node = ap (λ (w : World). node_at w.nodes q) (sym (world_of_run t (take st.prepare_at hs))) ∙ u.at_place in
        let below : HasBelow b (Some (u.keeps).part) = subst (HasBelow b) (u.keeps).has (subst (IsBelowAt b) n st.below) in
        let is = mid_node members t hs k p pt has x same sb (p ∷ []) q st.prepare_at (suc st.ack_sent) cq st.prepare_at (omega arith) soon ∙ member_is members t hs k p pt has x same st.prepare_at q u in
        omega (arith, ltb-true (rank ((u.keeps).part).promised) (rank b) (sym (is_below-rank ((u.keeps).part).promised b ((u.part_rel).small).0 sb) ∙ below), ap (λ (v : Member). v.promised) is)

    -- an Accept of the ballot that the leader sends
    record AcceptBack (i a : ℕ) (xs : List Entry) : Type 0 where
      place : ℕ
      is : i ≡ at place
      sending : Sending t.world hs x.conf place p q (body.Accept b a xs)

    accept_back : (i a : ℕ) (xs : List Entry) → px.Sending ms W0 es i p q (pure.Accept (rank b) a xs) → AcceptBack i a xs
    accept_back i a xs s =
        let h : AcceptHere members t hs k p pt has i p q (rank b) a xs = accept_here members t hs k p pt has i p q (rank b) a xs s in
        record {
          place = h.place;
          is = h.is;
          sending = subst (λ (c : ℕ). Sending t.world hs c h.place p q (body.Accept b a xs)) (sym same) (subst (λ (z : Ballot). Sending t.world hs pt.conf h.place p q (body.Accept z a xs)) (rank-same h.ballot b h.small sb h.number) h.sending);
        }

    Carried : ℕ → ℕ → Type 0
    Carried place i = ((at st.sync_sent ≤ i) × px.IsIn place st.start st.rest) ⊎ ((j a : ℕ) × (xs : List Entry) × (at st.sync_sent < j) × (j ≤ at st.last) × (j ≤ i) × px.Sending ms W0 es j p q (pure.Accept (rank b) a xs) × px.IsIn place a xs)

    carried_at : (place i a : ℕ) (xs : List Entry) → px.IsPlaced ms W0 p es (at a0.0, a0.1) place → px.Sending ms W0 es i p q (pure.Accept (rank b) a xs) → px.IsIn place a xs → Carried place i
    unfolding Carried
    carried_at place i a xs pl s cr =
        let r = accept_back i a xs s in
        ⊎_elim
        (λ z. inl (omega (arith, z.0, r.is, double_is st.sync_sent, double_is r.place), z.1))
        (λ z. inr (at z.0, z.1, z.2, omega (arith, z.3, double_is st.sync_sent, double_is z.0), omega (arith, z.4, double_is st.last, double_is z.0), omega (arith, z.5, r.is, double_is z.0, double_is r.place), sends z.0 p q (body.Accept b z.1 z.2) (pure.Accept (rank b) z.1 z.2) z.6 refl (no_accept (rank b) z.1 z.2), z.7))
        (st.carried place r.place a xs (placed_here members t hs k p pt has x same sb others y0.calm a0 place pl) r.sending cr)

    accepted_at : (i a : ℕ) (xs : List Entry) → at st.sync_sent < i → i ≤ at st.last → px.Sending ms W0 es i p q (pure.Accept (rank b) a xs)
        → (at st.sync_at < at (st.accept_at (half i))) × px.Delivery ms W0 es (at (st.accept_at (half i))) p q (pure.Accept (rank b) a xs)
    accepted_at i a xs lo hi s =
        let r = accept_back i a xs s in
        let h : half i ≡ r.place = ap half r.is ∙ half_odd r.place in
        let z = st.accepted r.place a xs (omega (arith, lo, r.is, double_is st.sync_sent, double_is r.place)) (omega (arith, hi, r.is, double_is st.last, double_is r.place)) r.sending in
        subst (λ (n : ℕ). (at st.sync_at < at (st.accept_at n)) × px.Delivery ms W0 es (at (st.accept_at n)) p q (pure.Accept (rank b) a xs)) (sym h)
        (omega (arith, z.0, double_is st.sync_at, double_is (st.accept_at r.place)), to_other (st.accept_at r.place) (body.Accept b a xs) (pure.Accept (rank b) a xs) tt z.1 (omega (arith, z.0, st.after_sending, synced_after, st.on_promise, st.after_prepare)) (st.after_accepts r.place a xs (omega (arith, lo, r.is, double_is st.sync_sent, double_is r.place)) (omega (arith, hi, r.is, double_is st.last, double_is r.place)) r.sending) refl (no_accept (rank b) a xs))

    five : px.Steps ms W0 es (rank b) p q (at a0.0, a0.1)
    unfolding Carried
    five = record {
      prepare_at = at st.prepare_at;
      asked = (rank st.asked.0, st.asked.1, st.asked.2);
      prepared = to_other st.prepare_at (body.Prepare b st.asked.0 st.asked.1 st.asked.2) (pure.Prepare (rank b) (rank st.asked.0) st.asked.1 st.asked.2) tt st.prepared (omega arith) (omega (arith, st.after_prepare, st.on_promise, st.after_sending, synced_after, st.after_sync)) refl (no_prepare (rank b) (rank st.asked.0) st.asked.1 st.asked.2);
      below = below_there;
      promise_from = at st.promise_from;
      promise_at = at st.promise_at;
      told = view_promise st.told;
      answered = sends_all st.prepare_at q p (told_bodies b st.told) (promise_messages (rank b) (view_promise st.told)) (promise_viewed b st.told) st.answered;
      after_prepare = omega (arith, st.after_prepare, double_is st.prepare_at, double_is st.promise_from);
      promised = turn_at_leader st.promise_from st.promise_at q (told_bodies b st.told) (promise_messages (rank b) (view_promise st.told)) (promise_viewed b st.told) st.promised;
      sync_sent = at st.sync_sent;
      sync_from = at st.sync_from;
      sync_at = at st.sync_at;
      start = st.start;
      rest = st.rest;
      on_promise = omega (arith, st.on_promise, double_is st.promise_from, double_is st.sync_sent);
      sent = sends_all st.sync_sent p q (sync_bodies b st.start st.rest) (sync_messages (rank b) st.start st.rest) (sync_viewed b st.start st.rest) st.sent;
      after_sending = omega (arith, st.after_sending, double_is st.sync_sent, double_is st.sync_from);
      synced = turn_at_other st.sync_from st.sync_at (sync_bodies b st.start st.rest) (sync_messages (rank b) st.start st.rest) (sync_viewed b st.start st.rest) (omega (arith, st.after_sending, st.on_promise, st.after_prepare)) st.after_sync st.synced;
      last = at st.last;
      accept_at = λ i. at (st.accept_at (half i));
      accepted = accepted_at;
      in_order = λ i j a e xs ys lo lt hi s so.
          let u = accept_back i a xs s in
          let v = accept_back j e ys so in
          let r = st.in_order u.place v.place a e xs ys (omega (arith, lo, u.is, double_is st.sync_sent, double_is u.place)) (omega (arith, lt, u.is, v.is, double_is u.place, double_is v.place)) (omega (arith, hi, v.is, double_is st.last, double_is v.place)) u.sending v.sending in
          omega (arith, r, double_is (st.accept_at (half i)), double_is (st.accept_at (half j)), ap st.accept_at (ap half u.is ∙ half_odd u.place), ap st.accept_at (ap half v.is ∙ half_odd v.place));
      carried = carried_at;
      ack_sent = at st.ack_sent;
      ack_at = at st.ack_at;
      size = st.size;
      after_sync = omega (arith, st.after_sync, double_is st.sync_at, double_is st.ack_sent);
      after_accepts = λ i a xs lo hi s.
          let u = accept_back i a xs s in
          let r = st.after_accepts u.place a xs (omega (arith, lo, u.is, double_is st.sync_sent, double_is u.place)) (omega (arith, hi, u.is, double_is st.last, double_is u.place)) u.sending in
          omega (arith, r, double_is (st.accept_at (half i)), double_is st.ack_sent, ap st.accept_at (ap half u.is ∙ half_odd u.place));
      acknowledged = sends st.ack_sent q p (body.Accepted b st.size) (pure.Accepted (rank b) st.size) st.acknowledged refl (no_accepted (rank b) st.size);
      after_ack = omega (arith, st.after_ack, double_is st.ack_sent, double_is st.ack_at);
      acked = to_leader st.ack_at q (body.Accepted b st.size) (pure.Accepted (rank b) st.size) tt st.acked refl (no_accepted (rank b) st.size);
    }

  -- ---- the exchange there
  voters : ℕ → Bool
  voters q = eqb q p || is_member nat_eq others q

  lifted : px.Exchange ms W0 p (rank b) others es e
  unfolding five voters
  lifted =
      let r = prepares_there members t hs k x sb others e y0 pt has same in
      record {
        preparation = view_preparing r.0;
        preparing = r.1;
        ballot = ap rank r.2;
        are_members = members_there members t hs k x sb others e y0 pt has same;
        voters = voters;
        are_voters = λ q h. ⊎_elim (λ (e : eqb q p ≡ true). inl (eqb-true q p e)) (λ (e : is_member nat_eq others q ≡ true). inr (one_in others q e)) (or_cases (eqb q p) (is_member nat_eq others q) h);
        majority = subst (λ (l : List ℕ). majority_passes l voters ≡ true) (members_is members t hs k x sb others e y0 pt has same) y.majority;
        proposed_at = (at y0.proposed_at.0, y0.proposed_at.1);
        entries = cs members t hs k x sb others e y0 pt has same;
        proposed = proposed_there members t hs k x sb others e y0 pt has same;
        among = (comes_here members t hs k x sb others e y0 pt has same).1;
        taken = taken_there members t hs k x sb others e y0 pt has same;
        steps = λ q i. five q y0.proposed_at (y.steps q (in_one others q i)) (y.calm_other q (in_one others q i));
        calm = calm_then members t hs k x sb others e y0 pt has same;
        calm_other = λ q i.
            let s = y.steps q (in_one others q i) in
            calm_there members t hs k p pt has x same sb (p ∷ []) q s.prepare_at (suc s.ack_sent) (y.calm_other q (in_one others q i)) (at s.prepare_at) (suc (at s.ack_sent)) (omega arith) (omega (arith, double_is s.ack_sent, double_is (suc s.ack_sent)));
      }

  pub decides_there : Decides t hs x y0.proposed_at e
  unfolding lifted
  decides_there =
      ⊎_elim
      (λ z. inl (z.0, placed_here members t hs k p pt has x same sb others y0.calm y0.proposed_at z.0 z.1, known_here_too members t hs k x sb others e y0 pt has same z.0 z.2.0 z.2.1))
      (λ z. let d = dropped_here members t hs k p pt has x same sb others y0.calm y0.proposed_at e z in inr (d, dropped_told members t hs k x sb others y0.calm y0.preparing y0.proposed_at e y0.comes pt has same d))
      (one.exchange_decides ms pt.conf (early members t hs k x sb others e y0 pt has same) es p (rank b) others e lifted)
