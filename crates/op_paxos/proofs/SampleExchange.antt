-- An exchange, computed: node 1 leads three, and decides a command with node 2.
use Rattle.std.proofs.Common.{◌≡◌, ℕ, zero, suc, ◌<◌, ◌≤◌, ◌⊎◌, inl, inr, ⊎_elim, List, [], ◌∷◌, length, Bool, true, refl, sym, ap, subst, arith, Option, Some, None, ◌==◌}
use Rattle.std.specs.Prelude.{slice_get, ◌||◌}
use Rattle.std.proofs.lemmas.Bool.{eqb-true, or_cases}
use Rattle.op_types.specs.declared.log.Command.{Command}
use Rattle.op_types.specs.declared.log.Entry.{Entry}
use Rattle.op_types.specs.declared.log.Entry.TheVariants as entry
use Rattle.op_spec.specs.Machine.{IsAmong}
use Rattle.op_paxos.specs.Logs.{is_stop}
use Rattle.op_paxos.specs.Nodes.{owner, Promised, LeadingState, Leading}
use Rattle.op_paxos.specs.Messages.{Msg, Promise, AcceptSync, Accept, Packet, packet}
use Rattle.op_paxos.specs.Follower.{on_prepare, appended, on_accept, synced_to, on_accept_sync, on_decide}
use Rattle.op_paxos.specs.Leader.{majority_length, recount, adopted_node, new_leading, adopt_with, adopt, prepared, on_elected, on_promise_in, on_accepted_in, extended, on_propose_in}
use Rattle.op_paxos.specs.Worlds.{on_msg, Input, Proposal, Comes, step, World, Event, Leads, Proposes, Delivers, taken_by, input_of, happens, run, start}
use Rattle.op_paxos.specs.Exchange.{world_before, Delivery, Sending, Interrupts, LeavesAlone, IsPlaced, IsIn, Steps, Exchange}
use Rattle.op_paxos.proofs.Elements.{get_new}
use Rattle.op_paxos.proofs.NumberedWorlds.{last_is}
use Rattle.op_paxos.proofs.Roles.{roles_differ}
use Rattle.op_paxos.proofs.Membership.{none_some, some_is}

-- ---- what disturbs nobody
pub proposes_alone : (others : List ℕ) (x : ℕ) (w : World) (p : ℕ) (e : List Entry) → LeavesAlone others x w (Proposes p e)
unfolding input_of
proposes_alone others x w p e i is = (refl, λ h. harmless i (some_input (p, Proposal e) (x, i) is) h)
  where
    some_input : (a b : ℕ × Input) → Some a ≡ Some b → a.1 ≡ b.1
    some_input a b d = ap (λ (y : ℕ × Input). y.1) (same a b d)
      where
        same : (a b : ℕ × Input) → Some a ≡ Some b → a ≡ b
        same a b d = cc

    harmless : (i : Input) → Proposal e ≡ i → Interrupts others i → ⊥
    harmless i d h = subst (λ (y : Input). Interrupts others y) (sym d) h

pub delivers_alone : (others : List ℕ) (x : ℕ) (w : World) (k : ℕ) → LeavesAlone others x w (Delivers k)
unfolding input_of
delivers_alone others x w k i is = (refl, λ h. of_packet (slice_get w.packets k) is h)
  where
    some_input : (a b : ℕ × Input) → Some a ≡ Some b → a.1 ≡ b.1
    some_input a b d = ap (λ (y : ℕ × Input). y.1) (same a b d)
      where
        same : (a b : ℕ × Input) → Some a ≡ Some b → a ≡ b
        same a b d = cc

    of_packet : (m : Option Packet) → taken_by w (Delivers k) m ≡ Some (x, i) → Interrupts others i → ⊥
    of_packet None d h = none_some (x, i) d
    of_packet (Some m) d h = subst (λ (y : Input). Interrupts others y) (sym (some_input (m.to, Comes m.from m.msg) (x, i) d)) h

module _ (c : Command) where
  abbrev members : List ℕ
  members = 1 ∷ 2 ∷ 3 ∷ []

  abbrev first : World
  first = run members (Leads 1 1 ∷ []) start

  -- messages 0 and 1 are the Prepares, 2 the Promise of node 2, 3 the AcceptSync, 4 the Accept, 5 and 6 Accepted
  abbrev events : List Event
  events = Delivers 0 ∷ Delivers 2 ∷ Proposes 1 (entry.Command c ∷ []) ∷ Delivers 3 ∷ Delivers 4 ∷ Delivers 6 ∷ []

  abbrev at : ℕ → World
  at i = world_before members first events i

  one_most : (n : ℕ) → n ≡ 1 → n ≤ 1
  one_most n e = omega (arith, e)

  low_1 : (j : ℕ) → ((at j).nodes 1).promised ≤ 1
  unfolding run start happens input_of step is_stop owner majority_length recount adopted_node new_leading adopt_with adopt prepared on_elected on_promise_in on_accepted_in extended on_propose_in on_prepare appended on_accept synced_to on_accept_sync on_decide on_msg
  low_1 zero = one_most _ refl
  low_1 (suc zero) = one_most _ refl
  low_1 (suc (suc zero)) = one_most _ refl
  low_1 (suc (suc (suc zero))) = one_most _ refl
  low_1 (suc (suc (suc (suc zero)))) = one_most _ refl
  low_1 (suc (suc (suc (suc (suc zero))))) = one_most _ refl
  low_1 (suc (suc (suc (suc (suc (suc j)))))) = subst (λ (y : World). (y.nodes 1).promised ≤ 1) (sym (last_is members first events (suc (suc (suc (suc (suc (suc j)))))) (omega arith))) (one_most _ refl)

  low_2 : (j : ℕ) → ((at j).nodes 2).promised ≤ 1
  unfolding run start happens input_of step is_stop owner majority_length recount adopted_node new_leading adopt_with adopt prepared on_elected on_promise_in on_accepted_in extended on_propose_in on_prepare appended on_accept synced_to on_accept_sync on_decide on_msg
  low_2 zero = omega arith
  low_2 (suc zero) = one_most _ refl
  low_2 (suc (suc zero)) = one_most _ refl
  low_2 (suc (suc (suc zero))) = one_most _ refl
  low_2 (suc (suc (suc (suc zero)))) = one_most _ refl
  low_2 (suc (suc (suc (suc (suc zero))))) = one_most _ refl
  low_2 (suc (suc (suc (suc (suc (suc j)))))) = subst (λ (y : World). (y.nodes 2).promised ≤ 1) (sym (last_is members first events (suc (suc (suc (suc (suc (suc j)))))) (omega arith))) (one_most _ refl)

  all_alone : (others : List ℕ) (x j : ℕ) (e : Event) → slice_get events j ≡ Some e → LeavesAlone others x (at j) e
  all_alone others x zero e h = subst (λ (y : Event). LeavesAlone others x (at 0) y) (some_is (Delivers 0) e h) (delivers_alone others x (at 0) 0)
  all_alone others x (suc zero) e h = subst (λ (y : Event). LeavesAlone others x (at 1) y) (some_is (Delivers 2) e h) (delivers_alone others x (at 1) 2)
  all_alone others x (suc (suc zero)) e h = subst (λ (y : Event). LeavesAlone others x (at 2) y) (some_is (Proposes 1 (entry.Command c ∷ [])) e h) (proposes_alone others x (at 2) 1 (entry.Command c ∷ []))
  all_alone others x (suc (suc (suc zero))) e h = subst (λ (y : Event). LeavesAlone others x (at 3) y) (some_is (Delivers 3) e h) (delivers_alone others x (at 3) 3)
  all_alone others x (suc (suc (suc (suc zero)))) e h = subst (λ (y : Event). LeavesAlone others x (at 4) y) (some_is (Delivers 4) e h) (delivers_alone others x (at 4) 4)
  all_alone others x (suc (suc (suc (suc (suc zero))))) e h = subst (λ (y : Event). LeavesAlone others x (at 5) y) (some_is (Delivers 6) e h) (delivers_alone others x (at 5) 6)
  all_alone others x (suc (suc (suc (suc (suc (suc j)))))) e h = absurd (none_some e h)

  -- the one Accept, which the event of the proposal sends
  accept_is : (a : ℕ) (es : List Entry) → Sending members first events 2 1 2 (Accept 1 a es) → (0 ≡ a) × (entry.Command c ∷ [] ≡ es)
  unfolding run start happens input_of step is_stop owner majority_length recount adopted_node new_leading adopt_with adopt prepared on_elected on_promise_in on_accepted_in extended on_propose_in on_prepare appended on_accept synced_to on_accept_sync on_decide on_msg
  accept_is a es s = of (get_new (at 2).packets (packet 1 2 (Accept 1 0 (entry.Command c ∷ [])) ∷ []) s.number (packet 1 2 (Accept 1 a es)) s.new s.is)
    where
      parts : (b d : ℕ) (e f : List Entry) → Accept 1 b e ≡ Accept 1 d f → (d ≡ b) × (f ≡ e)
      parts b d e f h = (cc, cc)

      of : IsAmong (packet 1 2 (Accept 1 0 (entry.Command c ∷ [])) ∷ []) (packet 1 2 (Accept 1 a es)) → (0 ≡ a) × (entry.Command c ∷ [] ≡ es)
      of (inl e) = parts a 0 es (entry.Command c ∷ []) (ap (λ (y : Packet). y.msg) (sym e))
      of (inr e) = absurd e

  the_accept : Sending members first events 2 1 2 (Accept 1 0 (entry.Command c ∷ []))
  unfolding run start happens input_of step is_stop owner majority_length recount adopted_node new_leading adopt_with adopt prepared on_elected on_promise_in on_accepted_in extended on_propose_in on_prepare appended on_accept synced_to on_accept_sync on_decide on_msg
  the_accept = record { number = 4; new = omega arith; is = refl }

  -- before it nothing carries a first entry to node 2
  sooner_0 : (m : Msg) → Sending members first events 0 1 2 m → ⊥
  unfolding run start happens input_of step is_stop owner majority_length recount adopted_node new_leading adopt_with adopt prepared on_elected on_promise_in on_accepted_in extended on_propose_in on_prepare appended on_accept synced_to on_accept_sync on_decide on_msg
  sooner_0 m s = of (get_new (at 0).packets (packet 2 1 (Promise 1 (record { round = 0; size = 0; decided = 0; start = 0; rest = [] })) ∷ []) s.number (packet 1 2 m) s.new s.is)
    where
      numbers : (a b : ℕ) → a ≡ 1 → b ≡ 2 → a ≡ b → ⊥
      numbers a b x y e = omega (arith, x, y, e)

      of : IsAmong (packet 2 1 (Promise 1 (record { round = 0; size = 0; decided = 0; start = 0; rest = [] })) ∷ []) (packet 1 2 m) → ⊥
      of (inl e) = numbers _ _ refl refl (ap (λ (y : Packet). y.from) (sym e))
      of (inr e) = absurd e

  sooner_1 : (a : ℕ) (es : List Entry) → Sending members first events 1 1 2 (Accept 1 a es) → ⊥
  unfolding run start happens input_of step is_stop owner majority_length recount adopted_node new_leading adopt_with adopt prepared on_elected on_promise_in on_accepted_in extended on_propose_in on_prepare appended on_accept synced_to on_accept_sync on_decide on_msg
  sooner_1 a es s = of (get_new (at 1).packets (packet 1 2 (AcceptSync 1 0 []) ∷ []) s.number (packet 1 2 (Accept 1 a es)) s.new s.is)
    where
      differ : (a : ℕ) (e : List Entry) → Accept 1 a e ≡ AcceptSync 1 0 [] → ⊥
      differ a e h = cc

      of : IsAmong (packet 1 2 (AcceptSync 1 0 []) ∷ []) (packet 1 2 (Accept 1 a es)) → ⊥
      of (inl e) = differ a es (ap (λ (y : Packet). y.msg) (sym e))
      of (inr e) = absurd e

  the_lead : (l : LeadingState) × (((at 2).nodes 1).role ≡ Leading l)
  unfolding run start happens input_of step is_stop owner majority_length recount adopted_node new_leading adopt_with adopt prepared on_elected on_promise_in on_accepted_in extended on_propose_in on_prepare appended on_accept synced_to on_accept_sync on_decide on_msg
  the_lead = (_, refl)

  no_log : length ((at 2).nodes 1).log ≡ 0
  unfolding run start happens input_of step is_stop owner majority_length recount adopted_node new_leading adopt_with adopt prepared on_elected on_promise_in on_accepted_in extended on_propose_in on_prepare appended on_accept synced_to on_accept_sync on_decide on_msg
  no_log = refl

  at_first : (place : ℕ) → IsPlaced members first 1 events (2, 0) place → place ≡ 0
  at_first place (inl x) = (let e = x.2 in omega (arith, e, no_log))
  at_first place (inr x) = roles_differ (x.0).preparation the_lead.0 ((at 2).nodes 1).role (x.0).preparing the_lead.1

  carried_by : (place i a : ℕ) (es : List Entry) → IsPlaced members first 1 events (2, 0) place → Sending members first events i 1 2 (Accept 1 a es) → IsIn place a es
      → ((1 ≤ i) × IsIn place 0 []) ⊎ ((j a : ℕ) × (es' : List Entry) × (1 < j) × (j ≤ 2) × (j ≤ i) × Sending members first events j 1 2 (Accept 1 a es') × IsIn place a es')
  carried_by place zero a es p s h = absurd (sooner_0 (Accept 1 a es) s)
  carried_by place (suc zero) a es p s h = absurd (sooner_1 a es s)
  carried_by place (suc (suc i)) a es p s h = let e = at_first place p in inr (2, 0, entry.Command c ∷ [], omega arith, omega arith, omega arith, the_accept, (omega arith, omega (arith, e)))

  the_delivery : Delivery members first events 4 1 2 (Accept 1 0 (entry.Command c ∷ []))
  unfolding run start happens input_of step is_stop owner majority_length recount adopted_node new_leading adopt_with adopt prepared on_elected on_promise_in on_accepted_in extended on_propose_in on_prepare appended on_accept synced_to on_accept_sync on_decide on_msg
  the_delivery = record { number = 4; event = refl; is = refl }

  accepted_by : (i a : ℕ) (es' : List Entry) → 1 < i → i ≤ 2 → Sending members first events i 1 2 (Accept 1 a es') → (3 < 4) × Delivery members first events 4 1 2 (Accept 1 a es')
  accepted_by i a es' lt le s =
      let two : i ≡ 2 = omega arith in
      let k = accept_is a es' (subst (λ j. Sending members first events j 1 2 (Accept 1 a es')) two s) in
      (omega arith, subst (λ x. Delivery members first events 4 1 2 (Accept 1 x es')) k.0 (subst (λ y. Delivery members first events 4 1 2 (Accept 1 0 y)) k.1 the_delivery))

  abbrev none_told : Promised
  none_told = record { round = 0; size = 0; decided = 0; start = 0; rest = [] }

  the_steps : Steps members first events 1 1 2 (2, 0)
  unfolding run start happens input_of step is_stop owner majority_length recount adopted_node new_leading adopt_with adopt prepared on_elected on_promise_in on_accepted_in extended on_propose_in on_prepare appended on_accept synced_to on_accept_sync on_decide on_msg
  the_steps = record {
    prepare_at = 0;
    asked = (0, 0, 0);
    prepared = record { number = 0; event = refl; is = refl };
    below = omega arith;
    promise_from = 1;
    promise_at = 1;
    told = record { round = 0; size = 0; decided = 0; start = 0; rest = [] };
    answered = λ m i. ⊎_elim (λ (e : Promise 1 none_told ≡ m). subst (λ b. Sending members first events 0 2 1 b) e (record { number = 2; new = omega arith; is = refl })) (λ (x : ⊥). absurd x) i;
    after_prepare = omega arith;
    promised = (refl, record { number = 2; event = refl; is = refl });
    sync_sent = 1;
    sync_from = 3;
    sync_at = 3;
    start = 0;
    rest = [];
    on_promise = omega arith;
    sent = λ m i. ⊎_elim (λ (e : AcceptSync 1 0 [] ≡ m). subst (λ b. Sending members first events 1 1 2 b) e (record { number = 3; new = omega arith; is = refl })) (λ (x : ⊥). absurd x) i;
    after_sending = omega arith;
    synced = (refl, record { number = 3; event = refl; is = refl });
    last = 2;
    accept_at = λ i. 4;
    accepted = accepted_by;
    in_order = λ i j a d e f lt less le s t. absurd (omega arith);
    carried = carried_by;
    ack_sent = 4;
    ack_at = 5;
    size = 1;
    after_sync = omega arith;
    after_accepts = λ i a e lt le s. omega arith;
    acknowledged = record { number = 6; new = omega arith; is = refl };
    after_ack = omega arith;
    acked = record { number = 6; event = refl; is = refl };
  }

  abbrev both : ℕ → Bool
  both q = (q == 1) || (q == 2)

  -- so it is an exchange
  pub sample : Exchange members first 1 1 (2 ∷ []) events (entry.Command c)
  unfolding run start happens input_of step is_stop owner majority_length recount adopted_node new_leading adopt_with adopt prepared on_elected on_promise_in on_accepted_in extended on_propose_in on_prepare appended on_accept synced_to on_accept_sync on_decide on_msg
  sample = record {
    preparation = record { ballot = 1; kept = λ q. None; parts = λ q. []; buffer = [] };
    preparing = refl;
    ballot = refl;
    are_members = λ q i. ⊎_elim (λ (e : 2 ≡ q). (inr (inl e), λ d. omega (arith, d, e))) (λ (x : ⊥). absurd x) i;
    voters = both;
    are_voters = λ q h. ⊎_elim (λ (e : (q == 1) ≡ true). inl (eqb-true q 1 e)) (λ (e : (q == 2) ≡ true). inr (inl (sym (eqb-true q 2 e)))) (or_cases (q == 1) (q == 2) h);
    majority = refl;
    proposed_at = (2, 0);
    entries = entry.Command c ∷ [];
    proposed = refl;
    among = refl;
    taken = refl;
    steps = λ q i. ⊎_elim (λ (e : 2 ≡ q). subst (λ y. Steps members first events 1 1 y (2, 0)) e the_steps) (λ (x : ⊥). absurd x) i;
    calm = record { promised = λ j le up. low_1 j; alone = λ j e le up h. all_alone (2 ∷ []) 1 j e h };
    calm_other = λ q i. record { promised = λ j le up. ⊎_elim (λ (e : 2 ≡ q). subst (λ y. ((at j).nodes y).promised ≤ 1) e (low_2 j)) (λ (x : ⊥). absurd x) i; alone = λ j e le up h. all_alone (1 ∷ []) q j e h };
  }
