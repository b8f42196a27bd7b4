-- What stands in the front of a run, and what stands in the whole.
use Rattle.std.proofs.Common.{◌≡◌, ◌<◌, ◌≤◌, inl, inr, ⊎_elim, ℕ, zero, suc, ◌+◌, List, [], ◌∷◌, ◌++◌, length, take, Some, None, refl, sym, ap, ◌∙◌, subst, arith, slice_get}
use Rattle.std.proofs.lemmas.Bool.{cases_lt}
use Rattle.std.proofs.lemmas.Option.{slice_get_within}
use Rattle.op_types.specs.RoleStates.{Preparing, Leading}
use Rattle.op_types.specs.Roles.{Role}
use Rattle.op_types.specs.Roles as role
use Rattle.op_types.specs.declared.log.Entry.{Entry}
use Rattle.op_types.specs.declared.messages.Body.{Body}
use Rattle.op_protocol.specs.Parts.{sync_bodies}
use Rattle.op_runs.specs.World.{World, Happening, node_at, run_of, deed_of}
use Rattle.op_laws.specs.Exchange as there
use Rattle.op_laws.specs.Exchange.{Term, before, node_before, node_role, node_len, IsMessage, Delivery, Sending, SendsAll, LeavesAlone, RestsBetween, InTurn, SendsAccept, IfKeepsTo, KeepsSessionsOf, IsCalm, Begins, IsBuffered, IsPlaced, IsFullAt, IsDropped, IsToldDropped, IsIn, FiveSteps, Takes, Comes}
use Rattle.op_laws.specs.Led.{IsBelowAt}
use Rattle.op_laws.proofs.Turns.{turn_order}

take_less : (hs : List Happening) (j n : ℕ) → j ≤ n → take j (take n hs) ≡ take j hs
take_less hs zero n le = nothing (take n hs) ∙ sym (nothing hs)
  where
    nothing : (xs : List Happening) → take 0 xs ≡ []
    nothing xs = refl
take_less [] (suc j) zero le = absurd (omega (arith, le))
take_less [] (suc j) (suc n) le = refl
take_less (h ∷ hs) (suc j) zero le = absurd (omega (arith, le))
take_less (h ∷ hs) (suc j) (suc n) le = ap (λ (l : List Happening). h ∷ l) (take_less hs j n (omega (arith, le)))

take_more : (hs : List Happening) (j n : ℕ) → n ≤ j → take j (take n hs) ≡ take n hs
take_more hs zero n le = ap (λ (m : ℕ). take 0 (take m hs)) (let z : n ≡ 0 = omega (arith, le) in z) ∙ ap (λ (m : ℕ). take m hs) (let z : 0 ≡ n = omega (arith, le) in z)
take_more [] (suc j) zero le = refl
take_more [] (suc j) (suc n) le = refl
take_more (h ∷ hs) (suc j) zero le = refl
take_more (h ∷ hs) (suc j) (suc n) le = ap (λ (l : List Happening). h ∷ l) (take_more hs j n (omega (arith, le)))

none_some : {A : Type 0} (a : A) → None ≡ Some a → ⊥
none_some a e = cc

get_front : (hs : List Happening) (n j : ℕ) → j < n → slice_get (take n hs) j ≡ slice_get hs j
get_front hs zero j lt = absurd (omega (arith, lt))
get_front [] (suc n) j lt = refl
get_front (h ∷ hs) (suc n) zero lt = refl
get_front (h ∷ hs) (suc n) (suc j) lt = get_front hs n j (omega (arith, lt))

get_past : (hs : List Happening) (n j : ℕ) → n ≤ j → slice_get (take n hs) j ≡ None
get_past hs zero j le = refl
get_past [] (suc n) j le = refl
get_past (h ∷ hs) (suc n) zero le = absurd (omega (arith, le))
get_past (h ∷ hs) (suc n) (suc j) le = get_past hs n j (omega (arith, le))

prep_lead : {P : Type 0} (r : Preparing) (l : Leading) (x : Role) → x ≡ role.Preparing r → x ≡ role.Leading l → P
prep_lead r l x a b = absurd (differ r l (sym a ∙ b))
  where
    differ : (r : Preparing) (l : Leading) → role.Preparing r ≡ role.Leading l → ⊥
    differ r l h = cc

module _ (w : World) (hs : List Happening) (n : ℕ) where
  abbrev pub front : List Happening
  front = take n hs

  pub same : (j : ℕ) → j ≤ n → before w front j ≡ before w hs j
  same j le = ap (run_of w) (take_less hs j n le)

  past : (j : ℕ) → n ≤ j → before w front j ≡ before w hs n
  past j le = ap (run_of w) (take_more hs j n le)

  -- nothing happens behind the front
  rests : (j : ℕ) → n ≤ j → before w front (suc j) ≡ before w front j
  rests j le = past (suc j) (omega (arith, le)) ∙ sym (past j le)

  got : (j : ℕ) (h : Happening) → slice_get front j ≡ Some h → (j < n) × (slice_get hs j ≡ Some h)
  got j h e =
      ⊎_elim (λ (l : j < n). (l, sym (get_front hs n j l) ∙ e)) (λ (l : n ≤ j). absurd (none_some h (sym (get_past hs n j l) ∙ e))) (cases_lt j n)

  -- ---- from the whole run to its front
  pub delivery_front : (conf i p q : ℕ) (b : Body) → i < n → Delivery w hs conf i p q b → Delivery w front conf i p q b
  delivery_front conf i p q b lt d = record {
    happening = d.happening;
    is = get_front hs n i lt ∙ d.is;
    number = d.number;
    delivers = d.delivers;
    message = subst (λ (v : World). IsMessage v d.number conf p q b) (sym (same i (omega (arith, lt)))) d.message;
  }

  pub sending_front : (conf i p q : ℕ) (b : Body) → i < n → Sending w hs conf i p q b → Sending w front conf i p q b
  sending_front conf i p q b lt s = record {
    number = s.number;
    new = subst (λ (v : World). length v.messages ≤ s.number) (sym (same i (omega (arith, lt)))) s.new;
    message = subst (λ (v : World). IsMessage v s.number conf p q b) (sym (same (suc i) (omega (arith, lt)))) s.message;
  }

  pub sends_front : (conf i p q : ℕ) (bs : List Body) → i < n → SendsAll w hs conf i p q bs → SendsAll w front conf i p q bs
  sends_front conf i p q bs lt s b among = sending_front conf i p q b lt (s b among)

  rests_front : (q i j : ℕ) → j ≤ n → RestsBetween w hs q i j → RestsBetween w front q i j
  rests_front q i j short r k h lo hi is =
      let g = got k h is in
      subst (λ (v : World). LeavesAlone q (deed_of v.messages h.event.what)) (sym (same k (omega (arith, hi, short)))) (r k h lo hi g.1)

  pub turn_front : (conf i j p q : ℕ) (bs : List Body) → j < n → InTurn w hs conf i j p q bs → InTurn w front conf i j p q bs
  turn_front conf i j p q [] lt t = absurd t
  turn_front conf i j p q (b ∷ []) lt t = (t.0, delivery_front conf i p q b (omega (arith, lt, t.0)) t.1)
  turn_front conf i j p q (b ∷ (c ∷ bs)) lt t =
      let h : ℕ = (t.1).0 in
      let later : h ≤ j = turn_order w hs conf h j p q (c ∷ bs) (t.1).3 in
      (delivery_front conf i p q b (omega (arith, lt, (t.1).1, later)) t.0, (h, (t.1).1, rests_front q i h (omega (arith, lt, later)) (t.1).2, turn_front conf h j p q (c ∷ bs) lt (t.1).3))

  pub comes_front : (p : ℕ) (at : there.Proposed) (e : Entry) → at.0 < n → Comes w p hs at e → Comes w p front at e
  comes_front p at e lt c = record {
    happening = c.happening;
    is = get_front hs n at.0 lt ∙ c.is;
    proposal = c.proposal;
    proposes = c.proposes;
    taken = subst (λ (v : World). Takes c.proposal at.1 e (node_at v.nodes p)) (sym (same at.0 (omega (arith, lt)))) c.taken;
  }

  -- calm to the end of the front is calm on
  pub calm_on : (x : Term) (others : List ℕ) (q i end : ℕ) → i ≤ n → n ≤ end → IsCalm w hs x others q i end → (later : ℕ) → IsCalm w front x others q i later
  calm_on x others q i end early long c later = record {
    up = λ j le up_to. ⊎_elim
        (λ (l : j < n). subst (λ (v : World). IfKeepsTo x (node_at v.nodes q)) (sym (same j (omega (arith, l)))) (c.up j le (omega (arith, l, long))))
        (λ (l : n ≤ j). subst (λ (v : World). IfKeepsTo x (node_at v.nodes q)) (sym (past j l)) (c.up n early long)) (cases_lt j n);
    sessions = λ j h le up_to is.
        let g = got j h is in
        subst (λ (v : World). KeepsSessionsOf others q (deed_of v.messages h.event.what)) (sym (same j (omega (arith, g.0)))) (c.sessions j h le (omega (arith, g.0, long)) g.1);
  }

  -- so is calm to an earlier end
  pub calm_front : (x : Term) (others : List ℕ) (q i end : ℕ) → end ≤ n → IsCalm w hs x others q i end → IsCalm w front x others q i end
  calm_front x others q i end short c = record {
    up = λ j le up_to. subst (λ (v : World). IfKeepsTo x (node_at v.nodes q)) (sym (same j (omega (arith, up_to, short)))) (c.up j le up_to);
    sessions = λ j h le up_to is.
        let g = got j h is in
        subst (λ (v : World). KeepsSessionsOf others q (deed_of v.messages h.event.what)) (sym (same j (omega (arith, g.0)))) (c.sessions j h le up_to g.1);
  }

  -- ---- from the front to the whole run
  pub sending_back : (conf i p q : ℕ) (b : Body) → Sending w front conf i p q b → (i < n) × Sending w hs conf i p q b
  sending_back conf i p q b s = ⊎_elim inside outside (cases_lt i n)
    where
      inside : i < n → (i < n) × Sending w hs conf i p q b
      inside l = (
        l,
        record {
          number = s.number;
          new = subst (λ (v : World). length v.messages ≤ s.number) (same i (omega (arith, l))) s.new;
          message = subst (λ (v : World). IsMessage v s.number conf p q b) (same (suc i) (omega (arith, l))) s.message;
        },
      )

      outside : n ≤ i → (i < n) × Sending w hs conf i p q b
      outside l =
          let here : IsMessage (before w front i) s.number conf p q b = subst (λ (v : World). IsMessage v s.number conf p q b) (rests i l) s.message in
          absurd (omega (arith, s.new, slice_get_within (before w front i).messages s.number _ here))

  begins_back : (p i : ℕ) → (b : Begins w p front i) → (i < n) × ((c : Begins w p hs i) × (c.preparation ≡ b.preparation) × (c.leadership ≡ b.leadership))
  begins_back p i b = ⊎_elim inside outside (cases_lt i n)
    where
      inside : i < n → (i < n) × ((c : Begins w p hs i) × (c.preparation ≡ b.preparation) × (c.leadership ≡ b.leadership))
      inside l = (
        l,
        (
          record {
            preparation = b.preparation;
            leadership = b.leadership;
            preparing = ap (λ (v : World). node_role (node_at v.nodes p)) (sym (same i (omega (arith, l)))) ∙ b.preparing;
            leading = ap (λ (v : World). node_role (node_at v.nodes p)) (sym (same (suc i) (omega (arith, l)))) ∙ b.leading;
          },
          refl,
          refl,
        ),
      )

      outside : n ≤ i → (i < n) × ((c : Begins w p hs i) × (c.preparation ≡ b.preparation) × (c.leadership ≡ b.leadership))
      outside l = prep_lead b.preparation b.leadership (node_role (node_before w front i p)) b.preparing (ap (λ (v : World). node_role (node_at v.nodes p)) (sym (rests i l)) ∙ b.leading)

  -- what is buffered, where the happening by which it is added is the same
  record BufferedBack (p : ℕ) (at : there.Proposed) (place : ℕ) (b : IsBuffered w p front at place) : Type 0 where
    buffered : IsBuffered w p hs at place
    adds : buffered.adds_at ≡ b.adds_at
    early : b.adds_at < n
    first : buffered.preparation ≡ b.preparation
    prepared : buffered.begins.preparation ≡ b.begins.preparation

  buffered_back : (p : ℕ) (at : there.Proposed) (place : ℕ) → at.0 < n → (b : IsBuffered w p front at place) → BufferedBack p at place b
  buffered_back p at place lt b =
      let g = begins_back p b.adds_at b.begins in
      let c = g.1.0 in
      record {
        buffered = record {
          preparation = b.preparation;
          preparing = ap (λ (v : World). node_role (node_at v.nodes p)) (sym (same at.0 (omega (arith, lt)))) ∙ b.preparing;
          adds_at = b.adds_at;
          later = b.later;
          begins = c;
          is = b.is ∙ ap (λ (l : Leading). l.adopted_len + (length b.preparation.buffer + at.1)) (sym g.1.2);
        };
        adds = refl;
        early = g.0;
        first = refl;
        prepared = g.1.1;
      }

  pub placed_back : (p : ℕ) (at : there.Proposed) (place : ℕ) → at.0 < n → IsPlaced w p front at place → IsPlaced w p hs at place
  placed_back p at place lt (inl z) =
      inl (z.0, ap (λ (v : World). node_role (node_at v.nodes p)) (sym (same at.0 (omega (arith, lt)))) ∙ z.1, z.2 ∙ ap (λ (v : World). node_len (node_at v.nodes p) + at.1) (same at.0 (omega (arith, lt))))
  placed_back p at place lt (inr z) =
      let b = buffered_back p at place lt z.0 in
      inr (b.buffered, subst (λ (i : ℕ). place < node_len (node_before w hs (suc i) p)) (sym b.adds) (subst (λ (v : World). place < node_len (node_at v.nodes p)) (same (suc (z.0).adds_at) (omega (arith, b.early))) z.1))

  abbrev pub DropsTold : ℕ → List Happening → there.Proposed → Entry → Type 0
  DropsTold p run at e = (d : IsDropped w p run at e) × IsToldDropped w p run e (d.buffered).adds_at

  pub dropped_back : (p : ℕ) (at : there.Proposed) (e : Entry) → at.0 < n → DropsTold p front at e → DropsTold p hs at e
  dropped_back p at e lt z =
      let d = z.0 in
      let i : ℕ = (d.buffered).adds_at in
      let b = buffered_back p at d.place lt d.buffered in
      let now : before w front i ≡ before w hs i = same i (omega (arith, b.early)) in
      let then : before w front (suc i) ≡ before w hs (suc i) = same (suc i) (omega (arith, b.early)) in
      let told = z.1 in (
        record {
          place = d.place;
          buffered = b.buffered;
          held = ap (λ (r : Preparing). slice_get (Rattle.std.specs.Prelude.map (λ y. y.entry) r.buffer) (length (b.buffered).preparation.buffer + at.1)) b.prepared
              ∙ ap (λ (r : Preparing). slice_get (Rattle.std.specs.Prelude.map (λ y. y.entry) ((d.buffered).begins.preparation).buffer) (length r.buffer + at.1)) b.first ∙ d.held;
          gone = subst (λ (k : ℕ). node_len (node_before w hs (suc k) p) ≤ d.place) (sym b.adds) (subst (λ (v : World). node_len (node_at v.nodes p) ≤ d.place) then d.gone);
          why = d.why;
          full = subst (λ (k : ℕ). IsFullAt d.why (node_before w hs (suc k) p)) (sym b.adds) (subst (λ (v : World). IsFullAt d.why (node_at v.nodes p)) then d.full);
        },
        subst (IsToldDropped w p hs e) (sym b.adds) (
          told.0,
          subst (λ (v : World). IsFullAt told.0 (node_at v.nodes p)) then told.1,
          told.2,
          ap (λ (v : World). v.lines) (sym then) ∙ told.3 ∙ ap (λ (v : World). v.lines ++ told.2) now,
          told.4,
        ),
      )

  -- ---- the five steps, where the last of them is in the front
  module _ (x : Term) (q : ℕ) (at : there.Proposed) (in_time : at.0 < n) (st : FiveSteps w hs x q at) (heard : st.promise_at < n) (short : st.ack_at < n) where
    pub synced_after : st.sync_from ≤ st.sync_at
    synced_after = turn_order w hs x.conf st.sync_from st.sync_at x.leader q (sync_bodies x.ballot st.start st.rest) st.synced

    pub accept_time : (i a : ℕ) (entries : List Entry) → st.sync_sent < i → i ≤ st.last → SendsAccept w hs i x q a entries → st.accept_at i < n
    accept_time i a entries lo hi s = omega (arith, st.after_accepts i a entries lo hi s, st.after_ack, short)

    pub back : (i a : ℕ) (entries : List Entry) → SendsAccept w front i x q a entries → SendsAccept w hs i x q a entries
    back i a entries s = (sending_back x.conf i x.leader q _ s).1

    unfoldable pub steps_front : FiveSteps w front x q at
    steps_front = record {
      prepare_at = st.prepare_at;
      asked = st.asked;
      prepared = delivery_front x.conf st.prepare_at x.leader q _ (omega (arith, st.after_prepare, st.on_promise, st.after_sending, synced_after, st.after_sync, st.after_ack, short)) st.prepared;
      below = subst (λ (v : World). IsBelowAt x.ballot (node_at v.nodes q)) (sym (same st.prepare_at (omega (arith, st.after_prepare, st.on_promise, st.after_sending, synced_after, st.after_sync, st.after_ack, short)))) st.below;
      promise_from = st.promise_from;
      promise_at = st.promise_at;
      told = st.told;
      answered = sends_front x.conf st.prepare_at q x.leader _ (omega (arith, st.after_prepare, st.on_promise, st.after_sending, synced_after, st.after_sync, st.after_ack, short)) st.answered;
      after_prepare = st.after_prepare;
      promised = turn_front x.conf st.promise_from st.promise_at q x.leader _ heard st.promised;
      sync_sent = st.sync_sent;
      sync_from = st.sync_from;
      sync_at = st.sync_at;
      start = st.start;
      rest = st.rest;
      on_promise = st.on_promise;
      sent = sends_front x.conf st.sync_sent x.leader q _ (omega (arith, st.after_sending, synced_after, st.after_sync, st.after_ack, short)) st.sent;
      after_sending = st.after_sending;
      synced = turn_front x.conf st.sync_from st.sync_at x.leader q _ (omega (arith, st.after_sync, st.after_ack, short)) st.synced;
      last = st.last;
      accept_at = st.accept_at;
      accepted = λ i a entries lo hi s.
          let whole = back i a entries s in
          let r = st.accepted i a entries lo hi whole in
          (r.0, delivery_front x.conf (st.accept_at i) x.leader q _ (accept_time i a entries lo hi whole) r.1);
      in_order = λ i j a c first second lo lt hi s u. st.in_order i j a c first second lo lt hi (back i a first s) (back j c second u);
      carried = λ place i c entries pl s is_in.
          ⊎_elim (λ (y : (st.sync_sent ≤ i) × IsIn place st.start st.rest). inl y)
          (λ (y : (j a : ℕ) × (more : List Entry) × (st.sync_sent < j) × (j ≤ st.last) × (j ≤ i) × SendsAccept w hs j x q a more × IsIn place a more).
          inr (y.0, y.1, y.2, y.3, y.4, y.5, sending_front x.conf y.0 x.leader q _ (omega (arith, y.5, (sending_back x.conf i x.leader q _ s).0)) y.6, y.7))
          (st.carried place i c entries (placed_back x.leader at place in_time pl) (back i c entries s) is_in);
      ack_sent = st.ack_sent;
      ack_at = st.ack_at;
      size = st.size;
      after_sync = st.after_sync;
      after_accepts = λ i a entries lo hi s. st.after_accepts i a entries lo hi (back i a entries s);
      acknowledged = sending_front x.conf st.ack_sent q x.leader _ (omega (arith, st.after_ack, short)) st.acknowledged;
      after_ack = st.after_ack;
      acked = delivery_front x.conf st.ack_at q x.leader _ short st.acked;
    }
