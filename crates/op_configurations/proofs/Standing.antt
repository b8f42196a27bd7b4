-- What every run over all configurations keeps.
use Rattle.std.proofs.Common.{◌≡◌, ℕ, zero, suc, ◌-◌, ◌<◌, ◌≤◌, ◌⊎◌, ⊎_elim, List, [], ◌∷◌, ◌++◌, length, Bool, true, cond, take, refl, sym, ap, ◌∙◌, subst, arith, Some, append-nil, append_assoc, false, inl, inr}
use Rattle.std.specs.Prelude.{slice_get}
use Rattle.std.proofs.lemmas.Bool.{cases_eq, eq-eqb, ne_eqb, cases_Bool}
use Rattle.op_types.specs.declared.log.Entry.{Entry}
use Rattle.op_types.specs.declared.log.StopSign.{StopSign}
use Rattle.op_spec.specs.Machine.{Machine, stop_at_end, named_by, members_of, first_machine, Leads}
use Rattle.op_spec.specs.Laws.{IsSafe, OnlyGrows}
use Rattle.op_spec.proofs.Safety.{first_is_safe, steps_keep_safe, steps_only_grow}
use Rattle.op_paxos.specs.Messages.{packet}
use Rattle.op_paxos.specs.Worlds as paxos
use Rattle.op_configurations.proofs.Among.{In}
use Rattle.op_paxos.specs.Nodes.{Node}
use Rattle.op_paxos.specs.Messages.{Packet, Msg, Prepare, Promise, PromisePart, AcceptSync, AcceptSyncPart, Accept, Accepted, Decide, PrepareReq, Refuse, Forward, TrimAsk, Progress, Trim}
use Rattle.op_paxos.specs.Agreement.{IsPrefix}
use Rattle.op_paxos.proofs.Membership.{in_from_get}
use Rattle.op_configurations.proofs.Inside.{inner_place}
use Rattle.op_paxos.specs.Steps.{IsTrueIn}
use Rattle.op_paxos.proofs.TrueMessages.{messages_are_true}
use Rattle.op_configurations.specs.Servers.{Part, Closed, Joining, State, Body, Inner, HeartbeatRequest, HeartbeatReply, NextConf, AskBase, BasePart, BasePiece, AskSegment, Segment, decided_list, latest}
use Rattle.op_configurations.specs.Worlds.{World, Happening, happens, run, start, entries_in, decided_in, machine_with, machine_after, machine_of, inner_of, place_in}
use Rattle.op_configurations.specs.Laws.{OneList, MeetsMachine, PartStands, ClosedStands, BaseStands, JoiningStands, StateStands, Stands, NextStands, SegmentStands, BodyStands, LettersStand, NeverFalls, Safe, Grows, AllKnow, TrimsKnown, Keeps, JoiningKeeps, MsgStands, MessagesStand}
use Rattle.op_configurations.proofs.Fronts.{front_trans, front_length, front_take, either_front, whole_front}
use Rattle.op_configurations.proofs.Runs.{told_tidy, trimmed_low, decided_length}
use Rattle.op_configurations.proofs.Tale.{Tale, Whole, Linked, TaleOk, NextOk, StateOk, BodyOk, Reached, inst}
use Rattle.op_configurations.proofs.Goes.{Good, first_tale, start_good}
use Rattle.op_configurations.proofs.Acting.{part_reached}
use Rattle.op_configurations.proofs.Rising.{part_told, entries_told}
use Rattle.op_configurations.proofs.Book.{BookOk, told_front, next, runs_ok, all_ok, first_book}

-- ---- runs, one after another

pub run_append : (early late : List Happening) (w : World) → run (early ++ late) w ≡ run late (run early w)
unfolding run
run_append [] late w = refl
run_append (h ∷ early) late w = run_append early late (happens w h)

pub machine_append : (early late : List Happening) (w : World) (m : Machine) → machine_after (early ++ late) w m ≡ machine_after late (run early w) (machine_after early w m)
unfolding machine_after run
machine_append [] late w m = refl
machine_append (h ∷ early) late w m = machine_append early late (happens w h) (machine_with m w h)

pub meets : MeetsMachine
unfolding machine_of machine_after
meets first early h =
    let k = all_ok first early in
    let n = next first k.tale (run early (start first)) (machine_of first early) k.good k.book h in
    subst (λ (m : Machine). Leads (machine_after early (start first) (first_machine first)) m) (sym (machine_append early (h ∷ []) (start first) (first_machine first))) n.leads

-- ---- the lists

module _ (first : List ℕ) (t : Tale) (m : Machine) (ok : TaleOk first m.proposed t) (b : BookOk first t m) where
  -- a whole list is the machine's
  pub whole_is : (c : ℕ) (l : List Entry) (s : StopSign) → Whole t c l s → l ≡ m.lists c
  whole_is c l s w = whole_front l (m.lists c) s w.last (told_tidy (t.members c) (t.events c) (m.lists c) ((b.fits).told c)) (told_front first t m b c l w.told)

  named_is : (c : ℕ) (l : List Entry) (s : StopSign) → Whole t c l s → s.members ≡ named_by (stop_at_end (m.lists c))
  named_is c l s w = ap named_by (sym w.last ∙ ap stop_at_end (whole_is c l s w))

  -- the members of the configuration after a whole list
  next_members : (c : ℕ) (l : List Entry) (s : StopSign) → Whole t c l s → s.members ≡ members_of first m.lists (suc c)
  next_members c l s w =
      let pos = ok.low c w.opened in
      let at : c ≡ suc c - 1 = omega arith in
      named_is c l s w ∙ ap (λ r. named_by (stop_at_end (m.lists r))) at
      ∙ sym (ap (λ (x : Bool). cond x first (named_by (stop_at_end (m.lists (suc c - 1))))) (ne_eqb (suc c) 1 (λ e. omega (arith, e, pos))))

  pub members_are : (c : ℕ) → t.opened c ≡ true → t.members c ≡ members_of first m.lists c
  members_are c h = ⊎_elim
      (λ (e : c ≡ 1). ap t.members e ∙ ok.first_members ∙ sym (ap (λ (x : Bool). cond x first (named_by (stop_at_end (m.lists (c - 1))))) (eq-eqb c 1 e)))
      (λ (n : c ≡ 1 → ⊥).
      let pos = ok.low c h in
      let at : suc (c - 1) ≡ c = omega (arith, pos) in
      let up : 0 < c - 1 = above c pos n in
      let k : Linked t (c - 1) = ok.linked (c - 1) up (ap t.opened at ∙ h) in
      ap t.members (sym at) ∙ k.next ∙ next_members (c - 1) k.list k.sign k.whole ∙ ap (λ r. members_of first m.lists r) at)
      (cases_eq c 1)
    where
      above : (c : ℕ) → 0 < c → (c ≡ 1 → ⊥) → 0 < c - 1
      above zero pos n = absurd (omega (arith, pos))
      above (suc zero) pos n = absurd (n refl)
      above (suc (suc c)) pos n = omega arith

  next_stands : (c : ℕ) (members olds : List ℕ) (len trimmed : ℕ) → NextOk t c members olds len → trimmed ≤ len → NextStands first m.lists c members olds len trimmed
  next_stands c members olds len trimmed x le =
      let pos = ok.low x.before (x.whole).opened in
      let at : x.before ≡ c - 1 = omega (arith, x.is) in
      record {
        above = omega (arith, x.is, pos);
        members_are = x.named ∙ next_members x.before x.list x.sign x.whole ∙ ap (λ r. members_of first m.lists r) (sym x.is);
        olds_are = x.olds_are ∙ members_are x.before (x.whole).opened ∙ ap (λ r. members_of first m.lists r) at;
        len_is = x.len_is ∙ ap (λ (l : List Entry). length l) (whole_is x.before x.list x.sign x.whole ∙ ap m.lists at);
        within = le;
      }

  module _ (p : ℕ) (st : State) (h : StateOk t p st) where
    part_stands : (pt : Part) → st.part ≡ Some pt → PartStands first m.lists pt
    part_stands pt has =
        let k = h.part pt has in
        let x = part_told t p pt k in
        let f = told_front first t m b pt.conf (decided_list pt.node) x.0 in
        record {
          trimmed = subst (λ (nd : Node). nd.trimmed ≤ nd.decided) k.node (trimmed_low (t.members pt.conf) (t.events pt.conf) p (subst (In p) k.members k.mine));
          decided = omega (arith, x.1, front_length (decided_list pt.node) (m.lists pt.conf) f);
          entries = sym (front_take (decided_list pt.node) (m.lists pt.conf) f) ∙ ap (λ n. take n (m.lists pt.conf)) (sym x.1);
          members = k.members ∙ members_are pt.conf k.opened;
        }

    closed_stands : (k : Closed) → st.closed ≡ Some k → ClosedStands first m.lists k
    closed_stands k has =
        let x = h.closed k has in
        record {
          trimmed = x.trimmed;
          entries = whole_is k.conf k.list x.sign x.whole;
          olds = x.olds ∙ members_are k.conf (x.whole).opened;
          next = x.next ∙ next_members k.conf k.list x.sign x.whole;
        }

    joining_stands : (j : Joining) → st.joining ≡ Some j → JoiningStands first m.lists j
    joining_stands j has =
        let x = h.joining j has in
        let n = x.next in
        let s = next_stands j.conf j.members j.olds j.len 0 n (omega arith) in
        let at : n.before ≡ j.conf - 1 = omega (arith, n.is) in
        let list : n.list ≡ m.lists (j.conf - 1) = whole_is n.before n.list n.sign n.whole ∙ ap m.lists at in
        record {
          above = s.above;
          members = s.members_are;
          olds = s.olds_are;
          len = s.len_is;
          base = λ b e. subst (λ l. BaseStands l b) list (x.base b e);
          held = λ n e i. subst (λ l. slice_get l n ≡ Some e) list (x.held n e i);
        }

    state_stands : StateStands first m.lists st
    state_stands = record { part = part_stands; closed = closed_stands; joining = joining_stands }

  body_stands : (p q c : ℕ) (x : Body) → BodyOk t p q c x → BodyStands first m.lists c x
  body_stands p q c (Inner x) k = tt
  body_stands p q c HeartbeatRequest k = tt
  body_stands p q c HeartbeatReply k = tt
  body_stands p q c (NextConf members olds len trimmed) k = next_stands c members olds len trimmed k.0 k.1
  body_stands p q c AskBase k = tt
  body_stands p q c (BasePart at front) k =
      let e : k.before ≡ c - 1 = omega (arith, k.is) in
      subst (λ (l : List Entry). BaseStands l (record { at = at; front = front })) (whole_is k.before k.list k.sign k.whole ∙ ap m.lists e) k.stands
  body_stands p q c (BasePiece at total from_at count front) k =
      let e : k.before ≡ c - 1 = omega (arith, k.is) in
      subst (λ (l : List Entry). BaseStands l (record { at = at; front = front })) (whole_is k.before k.list k.sign k.whole ∙ ap m.lists e) k.stands
  body_stands p q c (AskSegment a b) k = tt
  body_stands p q c (Segment a es) k =
      let e : k.before ≡ c - 1 = omega (arith, k.is) in
      subst (λ (l : List Entry). SegmentStands l a es) (whole_is k.before k.list k.sign k.whole ∙ ap m.lists e) k.stands

pub stands : Stands
stands first hs p =
    let k = all_ok first hs in
    state_stands first k.tale (machine_of first hs) (k.good).tale k.book p ((run hs (start first)).servers p).state ((k.good).servers p).state

pub letters_stand : LettersStand
letters_stand first hs m i =
    let k = all_ok first hs in
    body_stands first k.tale (machine_of first hs) (k.good).tale k.book m.from m.to m.conf m.body ((k.good).letters m i)

pub one_list : OneList
one_list first early late p q c =
    let k = all_ok first early in
    let w = run early (start first) in
    let r = runs_ok first late k.tale w (machine_of first early) k.good k.book in
    let m = machine_after late w (machine_of first early) in
    let a : IsPrefix (entries_in (w.servers p).state c) (m.lists c) = front_trans (entries_in (w.servers p).state c) ((machine_of first early).lists c) (m.lists c) (told_front first k.tale (machine_of first early) k.book c (entries_in (w.servers p).state c) (entries_told k.tale p (w.servers p).state ((k.good).servers p).state c)) (r.grows c) in
    let b : IsPrefix (entries_in ((run late w).servers q).state c) (m.lists c) = told_front first r.tale m r.book c (entries_in ((run late w).servers q).state c) (entries_told r.tale q ((run late w).servers q).state ((r.good).servers q).state c) in
    subst (λ (x : World). IsPrefix (entries_in (w.servers p).state c) (entries_in (x.servers q).state c) ⊎ IsPrefix (entries_in (x.servers q).state c) (entries_in (w.servers p).state c)) (sym (run_append early late (start first)))
    (either_front (entries_in (w.servers p).state c) (entries_in ((run late w).servers q).state c) (m.lists c) a b)

pub never_falls : NeverFalls
never_falls first early late p c =
    let k = all_ok first early in
    let w = run early (start first) in
    let r = runs_ok first late k.tale w (machine_of first early) k.good k.book in
    subst (λ (x : World). (decided_in (w.servers p).state c ≤ decided_in (x.servers p).state c) ⊎ (suc c < latest (x.servers p).state)) (sym (run_append early late (start first))) ((r.rises p).decided c)

-- ---- the machine is safe, and only grows

only_grows : (l m n : Machine) → OnlyGrows l m → OnlyGrows m n → OnlyGrows l n
only_grows l m n a b = record {
  lists = λ c. let x = a.lists c in let y = b.lists c in (x.0 ++ y.0, y.1 ∙ ap (λ (k : List Entry). k ++ y.0) x.1 ∙ append_assoc (l.lists c) x.0 y.0);
  known = λ q c. omega (arith, a.known q c, b.known q c);
  opened = λ q c h. b.opened q c (a.opened q c h);
}

same_grows : (m : Machine) → OnlyGrows m m
same_grows m = record { lists = λ c. ([], sym (append-nil (m.lists c))); known = λ q c. omega arith; opened = λ q c h. h }

after_ok : (first : List ℕ) (hs : List Happening) (t : Tale) (w : World) (m : Machine) → Good first m.proposed t w → BookOk first t m → IsSafe first m → IsSafe first (machine_after hs w m) × OnlyGrows m (machine_after hs w m)
unfolding machine_after
after_ok first [] t w m good b s = (s, same_grows m)
after_ok first (h ∷ hs) t w m good b s =
    let n = next first t w m good b h in
    let r = after_ok first hs n.tale (happens w h) (machine_with m w h) n.good n.book (steps_keep_safe first m (machine_with m w h) s n.leads) in
    (r.0, only_grows m (machine_with m w h) (machine_after hs (happens w h) (machine_with m w h)) (steps_only_grow m (machine_with m w h) n.leads) r.1)

pub safe : Safe
unfolding machine_of
safe first hs = (after_ok first hs (first_tale first) (start first) (first_machine first) (start_good first (λ c. [])) (first_book first) (first_is_safe first)).0

pub grows : Grows
unfolding machine_of
grows first early late =
    let k = all_ok first early in
    subst (OnlyGrows (machine_after early (start first) (first_machine first))) (sym (machine_append early late (start first) (first_machine first)))
    (after_ok first late k.tale (run early (start first)) (machine_of first early) k.good k.book (safe first early)).1

-- ---- trimming

pub trims_known : TrimsKnown
trims_known first hs p =
    let k = all_ok first hs in
    let t = k.tale in
    let m = machine_of first hs in
    let h : StateOk t p ((run hs (start first)).servers p).state = ((k.good).servers p).state in
    record {
      part = λ pt has. let x = h.part pt has in all_know t m k.book pt.conf (pt.node).trimmed pt.members x.members (part_reached t p pt x);
      closed = λ c has. let x = h.closed c has in all_know t m k.book c.conf c.trimmed c.olds x.olds x.reached;
      base = λ j b has at.
          let x = h.joining j has in
          subst (λ r. AllKnow m j.olds r b.at) (let z : (x.next).before ≡ j.conf - 1 = omega (arith, (x.next).is) in z) (all_know t m k.book (x.next).before b.at j.olds (x.next).olds_are (x.reached b at));
    }
  where
    all_know : (t : Tale) (m : Machine) → BookOk first t m → (c x : ℕ) (members : List ℕ) → members ≡ t.members c → Reached t c x → AllKnow m members c x
    all_know t m b c x members same r = λ q i. omega (arith, r q (subst (In q) same i), b.knows q c, decided_length (t.members c) (t.events c) q)

pub joining_keeps : JoiningKeeps
unfolding run
joining_keeps first early h p =
    let k = all_ok first early in
    let n = next first k.tale (run early (start first)) (machine_of first early) k.good k.book h in
    subst (λ (x : World). Keeps ((run early (start first)).servers p).state (x.servers p).state) (sym (run_append early (h ∷ []) (start first))) (n.kept p)

-- ---- messages inside a configuration

place_of : {A : Type 0} (x : A) (xs : List A) → In x xs → (n : ℕ) × (slice_get xs n ≡ Some x)
place_of x [] i = absurd i
place_of x (y ∷ xs) (inl e) = (zero, ap Some e)
place_of x (y ∷ xs) (inr i) = let r = place_of x xs i in (suc r.0, r.1)

module _ (first : List ℕ) (t : Tale) (m : Machine) (ok : TaleOk first m.proposed t) (b : BookOk first t m) where
  knows_decided : (q c : ℕ) → ((inst t c).nodes q).decided ≤ m.known q c
  knows_decided q c = omega (arith, b.knows q c, decided_length (t.members c) (t.events c) q)

  msg_stands : (c p : ℕ) → t.opened c ≡ true → (x : Msg) → IsTrueIn (t.members c) (inst t c) p x → MsgStands m (members_of first m.lists c) c p x
  msg_stands c p h (Prepare n na nl d) k = tt
  msg_stands c p h (Promise n pm) k = tt
  msg_stands c p h (PromisePart n part) k = tt
  msg_stands c p h (AcceptSync n x es) k = tt
  msg_stands c p h (AcceptSyncPart n part) k = tt
  msg_stands c p h (Accept n a es) k = tt
  msg_stands c p h (Accepted n x) k = tt
  msg_stands c p h (Decide n x) k = omega (arith, k, knows_decided p c)
  msg_stands c p h PrepareReq k = tt
  msg_stands c p h (Refuse n x) k = tt
  msg_stands c p h (Forward e) k = tt
  msg_stands c p h (TrimAsk n) k = tt
  msg_stands c p h (Progress n x) k = omega (arith, k, knows_decided p c)
  msg_stands c p h (Trim x) k = λ q i. omega (arith, k q (subst (In q) (sym (members_are first t m ok b c h)) i), knows_decided q c)

silent : (ms : List ℕ) (es : List paxos.Event) (x : Packet) → es ≡ [] → In x (paxos.run ms es paxos.start).packets → ⊥
unfolding paxos.run paxos.start
silent ms es x e i = subst (λ (k : List paxos.Event). In x (paxos.run ms k paxos.start).packets) e i

pub messages_stand : MessagesStand
messages_stand first hs l m i body =
    let k = all_ok first hs in
    let t = k.tale in
    let c = l.conf in
    let w = run hs (start first) in
    let r = place_of l w.soup i in
    let there : In (packet l.from l.to m) (inst t c).packets = subst (In (packet l.from l.to m)) (sym ((k.good).tied c)) (in_from_get (inner_of c w.soup) (place_in c r.0 w.soup) (packet l.from l.to m) (inner_place w.soup r.0 l m r.1 body)) in
    ⊎_elim (λ (h : t.opened c ≡ true). msg_stands first t (machine_of first hs) (k.good).tale k.book c l.from h m (messages_are_true (t.members c) (t.events c) (packet l.from l.to m) there))
    (λ (h : t.opened c ≡ false). absurd (silent (t.members c) (t.events c) (packet l.from l.to m) (((k.good).tale).empty c h) there)) (cases_Bool (t.opened c))
