-- Each step of a server keeps the invariant over all configurations.
use Rattle.op_paxos.proofs.SentParts.{in_cut}
use Rattle.op_types.specs.Cutting.{cut, parts_from}
use Rattle.std.proofs.Common.{◌≡◌, ℕ, suc, ◌+◌, ◌-◌, ◌*◌, ◌<◌, ◌≤◌, inl, inr, ⊎_elim, List, [], ◌∷◌, ◌++◌, length, true, ◌&&◌, ◌==◌, take, drop, refl, sym, ap, ◌∙◌, subst, subst₂, arith, Option, Some, None, Bool, false, min, zero}
use Rattle.std.specs.Prelude.{◌/◌, slice_get, nat_eq, nat_lt, nat_le, not, is_some, ◌||◌}
use Rattle.std.specs.Set.{is_member}
use Rattle.std.proofs.lemmas.Bool.{cond_both, cases_lt, and_parts, leb-true, ltb-true, eqb-true, and_from, both_ways, or_left, false≢true}
use Rattle.op_types.specs.Limits.{most_part_bytes}
use Rattle.op_types.specs.declared.log.Entry.{Entry}
use Rattle.op_paxos.specs.Messages.{Msg, packet}
use Rattle.op_paxos.specs.Worlds as paxos
use Rattle.op_configurations.proofs.Among.{In}
use Rattle.op_paxos.specs.Messages.{Packet}
use Rattle.op_paxos.specs.Worlds.{Input, Elected, Proposal, Comes, Up, CutOff, Down, TrimNow}
use Rattle.op_paxos.specs.Agreement.{decided_log}
use Rattle.op_configurations.specs.Servers.{Part, Closed, Base, Joining, State, Letter, Body, Inner, HeartbeatRequest, HeartbeatReply, NextConf, AskBase, BasePart, BasePiece, AskSegment, Segment, letter, Fate, latest, latest_members, to_all, new_part, next_conf, acted, acted_in, restarted, with_joining, invited, covered, base_place, joined_list, started, start_if_whole, based, held_with, got_segment, BaseStage, staged_piece, has_all, completed, is_piece, pieced, pieces_from, gives_pieces, asks_base, answers_long, donors_at, ask_parts, best_donor, asks_of, asks, gives_base, gives_segment, refers, is_for_joining, is_ahead, inner, answers_beat, takes, is_request, sought, seeks, Done, Stopped, reads, held_run, Event, Ticks, TicksAlone, Proposes, Trims, Links, Unlinks, Reads, ReadsLong, may_propose, led, ticks_in, ticks_alone_in, links_in, step, may_propose_in, Notes, notes, says}
use Rattle.op_configurations.specs.Worlds.{inner_of, place_in, events_in, entries_in, decided_in}
use Rattle.op_configurations.specs.Laws.{BaseStands, SegmentStands}
use Rattle.op_configurations.proofs.Fronts.{some_same}
use Rattle.op_configurations.proofs.Runs.{Told, May, proposed_of}
use Rattle.op_configurations.proofs.Moved.{among_in}
use Rattle.op_configurations.proofs.Tale.{Tale, inst, Whole, TaleOk, PartOk, ClosedOk, NextOk, JoiningOk, StateOk, BodyOk, LetterOk, EventOk, onward_on, one_next, Reached, reached_on, whole_on, state_on, BaseOk}
use Rattle.op_configurations.proofs.Inside.{inner_beats, inner_place}
use Rattle.op_configurations.proofs.Rising.{Rises, rises_on, entries_told, decided_entries, known_conf, closed_at, whole_longest, invited_same}
use Rattle.op_paxos.specs.Steps.{IsQuiet}
use Rattle.op_configurations.proofs.Keeping.{quiet_vote}
use Rattle.op_configurations.proofs.Seeking.{asked_good}
use Rattle.op_configurations.proofs.Entered.{Opening, opening, entered_ok}
use Rattle.op_configurations.proofs.Held.{covered_is, held_more, part_stands, run_stands}
use Rattle.op_configurations.proofs.Acting.{LowAt, told_low, StepGood, CalmGood, Tied, news_ok, in_to_all, single, here_good, still_good, held_good, more_sent, acted_good, restarted_good, with_joining_ok, invited_ok}

-- ---- a server starts
module _ (first : List ℕ) (pr : ℕ → List Entry) (t : Tale) (ok : TaleOk first pr t) (soup : List Letter) (p : ℕ) (f : Fate) (st : State) (h : StateOk t p st) (tied : Tied t soup) where
  module _ (j : Joining) (jh : JoiningOk t p j) (lt : latest st < j.conf) where
    base_low : (list : List Entry) (o : Option Base) → ((b : Base) → o ≡ Some b → BaseStands list b) → base_place o ≤ length list
    base_low list None f = omega arith
    base_low list (Some b) f = (f b refl).within

    base_reached : (u : Tale) (c : ℕ) (o : Option Base) → ((b : Base) → o ≡ Some b → Reached u c b.at) → Reached u c (base_place o)
    base_reached u c None f = λ q i. omega arith
    base_reached u c (Some b) f = f b refl

    abbrev begins : List Entry → State
    begins l = record { part = Some (new_part j.conf j.members); closed = Some (joined_list j l); joining = None }

    rises_begins : (l : List Entry) → l ≡ (jh.next).list → Rises st (begins l)
    rises_begins l is = record {
      upward = omega (arith, lt);
      decided = λ c. ⊎_elim (λ (z : decided_in st c ≡ 0). inl (omega (arith, z)))
          (λ (le : c ≤ latest st). ⊎_elim (λ (x : suc c < j.conf). inr x) (λ (x : j.conf ≤ suc c). inl (last c (omega (arith, x, le, lt)))) (cases_lt (suc c) j.conf))
          (known_conf t p st h c);
    }
      where
        last : (c : ℕ) → suc c ≡ j.conf → decided_in st c ≤ decided_in (begins l) c
        last c e =
            let n = jh.next in
            let at : c ≡ n.before = omega (arith, e, n.is) in
            let told : Told (t.members n.before) (t.events n.before) (entries_in st c) = subst (λ r. Told (t.members r) (t.events r) (entries_in st c)) at (entries_told t p st h c) in
            let le : length (entries_in st c) ≤ length n.list = whole_longest t n.before n.list n.sign n.whole (entries_in st c) told in
            let here : decided_in (begins l) c ≡ length l = closed_at (new_part j.conf j.members) (joined_list j l) c (omega (arith, e)) (omega (arith, e)) in
            omega (arith, decided_entries t p st h c, le, here, ap (λ (x : List Entry). length x) is)

    starting : (l : List Entry) → l ≡ (jh.next).list → StepGood first pr t soup p f st (restarted f p (begins l) (Some (new_part j.conf j.members)))
    starting l is =
        let n : NextOk t j.conf j.members j.olds j.len = jh.next in
        let op : Opening first pr t n.before n.sign = opening first pr t ok n.before n.list n.sign n.whole in
        let at : n.before ≡ j.conf - 1 = omega (arith, n.is) in
        let k : Closed = joined_list j l in
        let before : StateOk op.tale p st = state_on t op.tale op.onward p st (λ c. ap (λ (x : paxos.World). x.nodes p) (op.same c)) h in
        let kh : ClosedOk op.tale k = record {
          sign = n.sign;
          whole = subst₂ (λ c x. Whole op.tale c x n.sign) at (sym is) (whole_on t op.tale op.onward n.before n.list n.sign n.whole);
          next = n.named;
          olds = n.olds_are ∙ sym ((op.onward).members n.before (n.whole).opened) ∙ ap (op.tale).members at;
          trimmed = omega (arith, base_low n.list j.base jh.base, ap (λ (x : List Entry). length x) is);
          reached = subst (λ c. Reached op.tale c (base_place j.base)) at (reached_on t op.tale op.onward n.before (base_place j.base) (n.whole).opened (base_reached t n.before j.base jh.reached));
        } in
        let part_ok : PartOk op.tale p (new_part j.conf j.members) = record { opened = ap (op.tale).opened n.is ∙ op.opened; members = n.named ∙ sym op.members ∙ ap (op.tale).members (sym n.is); node = before.untouched j.conf lt; mine = jh.mine } in
        let conf_is : j.conf ≡ suc (j.conf - 1) = omega (arith, n.is) in
        let enters : (x : Part) → Some (new_part j.conf j.members) ≡ Some x → PartOk op.tale p x × (x.conf ≡ suc k.conf) × (x.members ≡ k.next) = λ x e. subst (λ (y : Part). PartOk op.tale p y × (y.conf ≡ suc k.conf) × (y.members ≡ k.next)) (some_same (new_part j.conf j.members) x e) (part_ok, conf_is, refl) in
        let s1 : StateOk op.tale p (begins l) = entered_ok op.tale p st before k kh (omega (arith, lt)) (Some (new_part j.conf j.members)) enters in
        let r : CalmGood first pr op.tale soup p f (begins l) (restarted f p (begins l) (Some (new_part j.conf j.members))) = restarted_good first pr op.tale op.ok soup p f (begins l) s1 (Some (new_part j.conf j.members)) refl in
        let g = r.good in
        record {
          tale = g.tale;
          ok = g.ok;
          onward = onward_on t op.tale g.tale op.onward g.onward;
          state = g.state;
          sends = g.sends;
          others = λ q c d. g.others q c d ∙ ap (λ (x : paxos.World). x.nodes q) (op.same c);
          own = λ c. inl (r.calm c ∙ ap (λ (x : paxos.World). decided_log x p) (op.same c));
          kept = λ y x e. inr (omega (arith, lt, r.same_latest));
          low = r.keeps t (record {
            part = λ x e. subst (λ (y : Part). LowAt t y.conf (y.node).trimmed) (some_same (new_part j.conf j.members) x e) (p, omega arith);
            closed = λ x e. subst (λ (y : Closed). LowAt t y.conf y.trimmed) (some_same k x e) (subst (λ c. LowAt t c (base_place j.base)) at (told_low t n.before n.list (base_place j.base) (n.whole).told (base_low n.list j.base jh.base)));
          });
          rises = rises_on st (begins l) (restarted f p (begins l) (Some (new_part j.conf j.members))).state (rises_begins l is) g.rises;
          events = λ c. g.events c ∙ ap (λ (es : List paxos.Event). es ++ events_in soup p c (restarted f p (begins l) (Some (new_part j.conf j.members))).inside) (op.events c);
          sent = λ c. g.sent c ∙ ap (λ (x : paxos.World). x.packets ++ inner_of c (restarted f p (begins l) (Some (new_part j.conf j.members))).sends) (op.same c);
          quiet = λ e c. g.quiet e c ∙ ap (λ (x : paxos.World). x.packets) (op.same c);
        }

    started_good : (o : Option (List Entry)) → covered j.base j.held j.len ≡ o → StepGood first pr t soup p f st (started f p st j o)
    unfolding started
    started_good None e = held_good first pr t ok soup p f st (with_joining st j) refl refl (with_joining_ok first pr t ok soup p f st h j jh lt)
    started_good (Some l) e =
        let n = jh.next in
        starting l (covered_is n.list j.base j.held jh.base jh.held l (ap (covered j.base j.held) (sym n.len_is) ∙ e))

    start_good : StepGood first pr t soup p f st (start_if_whole f p st j)
    start_good = started_good (covered j.base j.held j.len) refl

  based_good : (o : Option Joining) → st.joining ≡ o → (c at : ℕ) (front : List Entry) → BodyOk t p p c (BasePart at front) → StepGood first pr t soup p f st (based f p st o c at front)
  unfolding based
  based_good None has c at front k = still_good first pr t ok soup p f st h
  based_good (Some j) has c at front k =
      let old = h.joining j has in
      cond_both ((j.conf == c) && (not (is_some j.base) && nat_le at j.len)) _ _ (StepGood first pr t soup p f st)
      (λ e. let same : j.conf ≡ c = eqb-true j.conf c (and_parts (j.conf == c) _ e).0 in
      start_good (record { conf = j.conf; members = j.members; olds = j.olds; len = j.len; donors = j.donors; base = Some (record { at = at; front = front }); held = j.held; stage = j.stage })
      (record {
        next = old.next;
        mine = old.mine;
        base = λ b d. subst (BaseStands (old.next).list) (some_same (record { at = at; front = front }) b d) (subst (λ (l : List Entry). BaseStands l (record { at = at; front = front })) (one_next t k.before (old.next).before k.list (old.next).list k.sign (old.next).sign (sym k.is ∙ sym same ∙ (old.next).is) k.whole (old.next).whole).0 k.stands);
        reached = λ b d. subst (λ (x : Base). Reached t (old.next).before x.at) (some_same (record { at = at; front = front }) b d) (subst (λ r. Reached t r at) (let z : k.before ≡ (old.next).before = omega (arith, k.is, same, (old.next).is) in z) k.reached);
        held = old.held;
      }) (h.above j has))
      (λ e. still_good first pr t ok soup p f st h)

  -- a base that came in pieces
  completed_good : (j : Joining) → st.joining ≡ Some j → (c at : ℕ) (front : List Entry) (total : ℕ) (s : BaseStage) → j.conf ≡ c → BaseOk t c at front → StepGood first pr t soup p f st (completed f p st j at front total s)
  unfolding completed
  completed_good j has c at front total s same k =
      let old = h.joining j has in
      cond_both (has_all s.has total) _ _ (StepGood first pr t soup p f st)
      (λ e. start_good (record { conf = j.conf; members = j.members; olds = j.olds; len = j.len; donors = j.donors; base = Some (record { at = at; front = front }); held = j.held; stage = None })
      (record {
        next = old.next;
        mine = old.mine;
        base = λ b d. subst (BaseStands (old.next).list) (some_same (record { at = at; front = front }) b d) (subst (λ (l : List Entry). BaseStands l (record { at = at; front = front })) (one_next t k.before (old.next).before k.list (old.next).list k.sign (old.next).sign (sym k.is ∙ sym same ∙ (old.next).is) k.whole (old.next).whole).0 k.stands);
        reached = λ b d. subst (λ (x : Base). Reached t (old.next).before x.at) (some_same (record { at = at; front = front }) b d) (subst (λ r. Reached t r at) (let z : k.before ≡ (old.next).before = omega (arith, k.is, same, (old.next).is) in z) k.reached);
        held = old.held;
      }) (h.above j has))
      (λ e. held_good first pr t ok soup p f st (with_joining st (record j { stage = Some s })) refl refl
      (with_joining_ok first pr t ok soup p f st h (record j { stage = Some s }) (record { next = old.next; mine = old.mine; base = old.base; reached = old.reached; held = old.held }) (h.above j has)))

  pieced_good : (o : Option Joining) → st.joining ≡ o → (c at total from_at count : ℕ) (front : List Entry) → BaseOk t c at front → StepGood first pr t soup p f st (pieced f p st o c at total from_at count front)
  unfolding pieced
  pieced_good None has c at total from_at count front k = still_good first pr t ok soup p f st h
  pieced_good (Some j) has c at total from_at count front k =
      cond_both ((j.conf == c) && is_piece j at total from_at count) _ _ (StepGood first pr t soup p f st)
      (λ e. completed_good j has c at front total (staged_piece j.stage at from_at count) (eqb-true j.conf c (and_parts (j.conf == c) _ e).0) k)
      (λ e. still_good first pr t ok soup p f st h)

  segment_good : (o : Option Joining) → st.joining ≡ o → (c a : ℕ) (es : List Entry) → BodyOk t p p c (Segment a es) → StepGood first pr t soup p f st (got_segment f p st o c a es)
  unfolding got_segment
  segment_good None has c a es k = still_good first pr t ok soup p f st h
  segment_good (Some j) has c a es k =
      let old = h.joining j has in
      cond_both ((j.conf == c) && (nat_lt 0 (length es) && nat_le (a + length es) j.len)) _ _ (StepGood first pr t soup p f st)
      (λ e. let same : j.conf ≡ c = eqb-true j.conf c (and_parts (j.conf == c) _ e).0 in
      start_good (record { conf = j.conf; members = j.members; olds = j.olds; len = j.len; donors = j.donors; base = j.base; held = held_with j.held a es; stage = j.stage })
      (record {
        next = old.next;
        mine = old.mine;
        base = old.base;
        reached = old.reached;
        held = held_more (old.next).list j.held a es old.held (subst (λ (l : List Entry). SegmentStands l a es) (one_next t k.before (old.next).before k.list (old.next).list k.sign (old.next).sign (sym k.is ∙ sym same ∙ (old.next).is) k.whole (old.next).whole).0 k.stands);
      }) (h.above j has))
      (λ e. still_good first pr t ok soup p f st h)

  -- ---- letters come

  base_given : (o : Option Closed) → st.closed ≡ o → (q c : ℕ) (m : Letter) → In m (gives_base p o q c) → LetterOk t m
  unfolding gives_base
  base_given None has q c m = λ i. absurd i
  base_given (Some k) has q c m =
      let kh = h.closed k has in
      cond_both (suc k.conf == c) _ [] (λ (l : List Letter). In m l → LetterOk t m)
      (λ e i. single (LetterOk t) (letter p q c (BasePart k.trimmed (take k.trimmed k.list))) (record { before = k.conf; list = k.list; sign = kh.sign; is = sym (eqb-true (suc k.conf) c e); whole = kh.whole; stands = record { within = kh.trimmed; front = refl }; reached = kh.reached }) m i) (λ e i. absurd i)

  -- its pieces
  pieces_given : (q c at : ℕ) (front : List Entry) → BaseOk t c at front → (total from_at most : ℕ) (m : Letter) → In m (pieces_from p q c at front total from_at most) → LetterOk t m
  pieces_given q c at front k total from_at zero m i = absurd i
  pieces_given q c at front k total from_at (suc most) m i =
      cond_both (nat_lt from_at total) (letter p q c (BasePiece at total from_at (min most_part_bytes (total - from_at)) front) ∷ pieces_from p q c at front total (from_at + most_part_bytes) most) [] (λ (l : List Letter). In m l → LetterOk t m)
      (λ e d. ⊎_elim (λ (z : letter p q c (BasePiece at total from_at (min most_part_bytes (total - from_at)) front) ≡ m). subst (LetterOk t) z k) (λ (z : In m (pieces_from p q c at front total (from_at + most_part_bytes) most)). pieces_given q c at front k total (from_at + most_part_bytes) most m z) d)
      (λ e d. absurd d) i

  long_given : (o : Option Closed) → st.closed ≡ o → (q c total : ℕ) (m : Letter) → In m (gives_pieces p o q c total) → LetterOk t m
  unfolding gives_pieces
  long_given None has q c total m = λ i. absurd i
  long_given (Some k) has q c total m =
      let kh = h.closed k has in
      cond_both (suc k.conf == c) (pieces_from p q c k.trimmed (take k.trimmed k.list) total 0 (suc (total / most_part_bytes))) [] (λ (l : List Letter). In m l → LetterOk t m)
      (λ e i. pieces_given q c k.trimmed (take k.trimmed k.list) (record { before = k.conf; list = k.list; sign = kh.sign; is = sym (eqb-true (suc k.conf) c e); whole = kh.whole; stands = record { within = kh.trimmed; front = refl }; reached = kh.reached }) total 0 (suc (total / most_part_bytes)) m i)
      (λ e i. absurd i)

  segment_given : (o : Option Closed) → st.closed ≡ o → (q c a b : ℕ) (m : Letter) → In m (gives_segment p o q c a b) → LetterOk t m
  unfolding gives_segment
  segment_given None has q c a b m = λ i. absurd i
  segment_given (Some k) has q c a b m =
      let kh = h.closed k has in
      let es = drop a (take b k.list) in
      cond_both ((suc k.conf == c) && (nat_le k.trimmed a && (nat_lt a b && nat_le b (length k.list)))) _ [] (λ (l : List Letter). In m l → LetterOk t m)
      (λ e i. let x = and_parts (suc k.conf == c) _ e in let y = and_parts (nat_lt a b) _ (and_parts (nat_le k.trimmed a) _ x.1).1 in
      let s = part_stands k.list a b (omega (arith, ltb-true a b y.0)) (leb-true b (length k.list) y.1) in
      in_cut (λ at run. letter p q c (Segment at run)) (LetterOk t) es a (λ at run r. record { before = k.conf; list = k.list; sign = kh.sign; is = sym (eqb-true (suc k.conf) c x.0); whole = kh.whole; stands = run_stands k.list a es s at run r }) m i) (λ e i. absurd i)

  referred : (o : Option Closed) → st.closed ≡ o → (q : ℕ) (m : Letter) → In m (refers p st o q) → LetterOk t m
  unfolding refers
  referred None has q m = λ i. absurd i
  referred (Some k) has q m =
      cond_both (is_member nat_eq (latest_members st) q) _ [] (λ (l : List Letter). In m l → LetterOk t m)
      (λ e i. single (LetterOk t) (letter p q (suc k.conf) (next_conf k)) (news_ok t k (h.closed k has)) m i) (λ e i. absurd i)

  inner_good : (is_some st.joining ≡ true → ⊥) → (o : Option Part) → st.part ≡ o → (n q c : ℕ) (m : Msg) → slice_get soup n ≡ Some (letter q p c (Inner m)) → StepGood first pr t soup p f st (inner f p st o n q c m)
  unfolding inner
  inner_good out None has n q c m k = still_good first pr t ok soup p f st h
  inner_good out (Some pt) has n q c m k =
      cond_both (pt.conf == c) _ _ (StepGood first pr t soup p f st)
      (λ e. acted_good first pr t ok soup p f st h pt has n (Comes q m)
      (ap (λ (l : List Packet). slice_get l (place_in pt.conf n soup)) (tied pt.conf) ∙ subst (λ r. slice_get (inner_of r soup) (place_in r n soup) ≡ Some (packet q p m)) (sym (eqb-true pt.conf c e)) (inner_place soup n (letter q p c (Inner m)) m k refl)) (λ x i. absurd i) (λ y. absurd (out y)))
      (λ e. still_good first pr t ok soup p f st h)

  beat_good : (o : Option Part) (q c : ℕ) → StepGood first pr t soup p f st (answers_beat p st o q c)
  beat_good None q c = still_good first pr t ok soup p f st h
  beat_good (Some pt) q c = here_good first pr t ok soup p f st (letter p q c HeartbeatReply ∷ []) h (single (LetterOk t) (letter p q c HeartbeatReply) tt) (λ r. refl)

  base_plain : (o : Option Closed) (q c r : ℕ) → inner_of r (gives_base p o q c) ≡ []
  unfolding gives_base
  base_plain None q c r = refl
  base_plain (Some k) q c r = cond_both (suc k.conf == c) (letter p q c (BasePart k.trimmed (take k.trimmed k.list)) ∷ []) [] (λ l. inner_of r l ≡ []) (λ e. refl) (λ e. refl)

  pieces_plain : (q c at : ℕ) (front : List Entry) (total from_at most r : ℕ) → inner_of r (pieces_from p q c at front total from_at most) ≡ []
  pieces_plain q c at front total from_at zero r = refl
  pieces_plain q c at front total from_at (suc most) r =
      cond_both (nat_lt from_at total) (letter p q c (BasePiece at total from_at (min most_part_bytes (total - from_at)) front) ∷ pieces_from p q c at front total (from_at + most_part_bytes) most) [] (λ l. inner_of r l ≡ [])
      (λ e. pieces_plain q c at front total (from_at + most_part_bytes) most r) (λ e. refl)

  long_plain : (o : Option Closed) (q c total r : ℕ) → inner_of r (gives_pieces p o q c total) ≡ []
  unfolding gives_pieces
  long_plain None q c total r = refl
  long_plain (Some k) q c total r =
      cond_both (suc k.conf == c) (pieces_from p q c k.trimmed (take k.trimmed k.list) total 0 (suc (total / most_part_bytes))) [] (λ l. inner_of r l ≡ [])
      (λ e. pieces_plain q c k.trimmed (take k.trimmed k.list) total 0 (suc (total / most_part_bytes)) r) (λ e. refl)

  answers_good : (total : ℕ) (m : Letter) → StepGood first pr t soup p f st (answers_long p st total m)
  unfolding answers_long
  answers_good total m =
      cond_both (asks_base m.body && (m.conf == latest st)) _ _ (StepGood first pr t soup p f st)
      (λ e. here_good first pr t ok soup p f st (gives_pieces p st.closed m.from m.conf total) h (long_given st.closed refl m.from m.conf total) (long_plain st.closed m.from m.conf total))
      (λ e. still_good first pr t ok soup p f st h)

  runs_plain : (q c r at : ℕ) (runs : List (List Entry)) → inner_of r (parts_from (λ at run. letter p q c (Segment at run)) at runs) ≡ []
  runs_plain q c r at [] = refl
  runs_plain q c r at (run ∷ runs) = runs_plain q c r (at + length run) runs

  segment_plain : (o : Option Closed) (q c a b r : ℕ) → inner_of r (gives_segment p o q c a b) ≡ []
  unfolding gives_segment
  segment_plain None q c a b r = refl
  segment_plain (Some k) q c a b r =
      cond_both ((suc k.conf == c) && (nat_le k.trimmed a && (nat_lt a b && nat_le b (length k.list)))) (parts_from (λ at run. letter p q c (Segment at run)) a (cut (drop a (take b k.list)))) [] (λ l. inner_of r l ≡ []) (λ e. runs_plain q c r a (cut (drop a (take b k.list)))) (λ e. refl)

  refers_plain : (o : Option Closed) (q r : ℕ) → inner_of r (refers p st o q) ≡ []
  unfolding refers
  refers_plain None q r = refl
  refers_plain (Some k) q r = cond_both (is_member nat_eq (latest_members st) q) (letter p q (suc k.conf) (next_conf k) ∷ []) [] (λ l. inner_of r l ≡ []) (λ e. refl) (λ e. refl)

  takes_good : (n q c : ℕ) (b : Body) → (is_some st.joining && not (is_for_joining b)) ≡ false → BodyOk t q p c b → slice_get soup n ≡ Some (letter q p c b) → StepGood first pr t soup p f st (takes f p st n q c b)
  unfolding takes
  takes_good n q c (Inner m) gate k at = inner_good (λ y. both_ways (is_some st.joining && true) gate (and_from (is_some st.joining) true y refl)) st.part refl n q c m at
  takes_good n q c HeartbeatRequest gate k at = beat_good st.part q c
  takes_good n q c HeartbeatReply gate k at = still_good first pr t ok soup p f st h
  takes_good n q c (NextConf members olds len trm) gate k at = held_good first pr t ok soup p f st (invited p st q c members olds len trm) (invited_same p st q c members olds len trm).0 (invited_same p st q c members olds len trm).1 (invited_ok first pr t ok soup p f st h q c members olds len trm k.0)
  takes_good n q c AskBase gate k at = here_good first pr t ok soup p f st (gives_base p st.closed q c) h (base_given st.closed refl q c) (base_plain st.closed q c)
  takes_good n q c (BasePart at front) gate k there = based_good st.joining refl c at front k
  takes_good n q c (BasePiece at total from_at count front) gate k there = pieced_good st.joining refl c at total from_at count front k
  takes_good n q c (AskSegment a b) gate k at = here_good first pr t ok soup p f st (gives_segment p st.closed q c a b) h (segment_given st.closed refl q c a b) (segment_plain st.closed q c a b)
  takes_good n q c (Segment a es) gate k at = segment_good st.joining refl c a es k

  -- ---- what is ahead

  by_fate : (g : Fate) → f ≡ g → (k : Closed) → st.closed ≡ Some k → (q : ℕ) → StepGood first pr t soup p f st (sought g p st None (Some k) q)
  unfolding sought
  by_fate Done e k has q = subst (λ (x : Fate). StepGood first pr t soup p x st (sought Done p st None (Some k) q)) (sym e) (asked_good first pr t ok soup p q st h k has)
  by_fate Stopped e k has q = still_good first pr t ok soup p f st h

  sought_good : (is_some st.joining ≡ true → ⊥) → (o : Option Part) → st.part ≡ o → (k : Option Closed) → st.closed ≡ k → (q : ℕ) → StepGood first pr t soup p f st (sought f p st o k q)
  unfolding sought
  sought_good out (Some pt) has k closed q = acted_good first pr t ok soup p f st h pt has 0 (Up q) tt (λ x i. absurd i) (λ y. absurd (out y))
  sought_good out None has (Some k) closed q = by_fate f refl k closed q
  sought_good out None has None closed q = here_good first pr t ok soup p f st (letter p q 0 HeartbeatReply ∷ []) h (single (LetterOk t) (letter p q 0 HeartbeatReply) tt) (λ r. refl)

  seeks_good : (q : ℕ) (b : Body) → StepGood first pr t soup p f st (seeks f p st q b)
  unfolding seeks
  seeks_good q b =
      cond_both (is_some st.joining || is_request b) _ _ (StepGood first pr t soup p f st) (λ e. still_good first pr t ok soup p f st h)
      (λ e. sought_good (λ y. both_ways (is_some st.joining || is_request b) e (or_left (is_some st.joining) (is_request b) y)) st.part refl st.closed refl q)

  reads_good : (n : ℕ) (m : Letter) → LetterOk t m → m.to ≡ p → slice_get soup n ≡ Some m → StepGood first pr t soup p f st (reads f p st n m)
  unfolding reads
  reads_good n m k to at =
      cond_both (is_some st.joining && not (is_for_joining m.body)) _ _ (StepGood first pr t soup p f st) (λ e. still_good first pr t ok soup p f st h)
      (λ e. cond_both (nat_lt m.conf (latest st)) _ _ (StepGood first pr t soup p f st) (λ d. here_good first pr t ok soup p f st (refers p st st.closed m.from) h (referred st.closed refl m.from) (refers_plain st.closed m.from))
      (λ d. cond_both (nat_lt (latest st) m.conf && not (is_ahead m.body)) _ _ (StepGood first pr t soup p f st) (λ a. seeks_good m.from m.body)
      (λ a. takes_good n m.from m.conf m.body e (subst (λ r. BodyOk t m.from r m.conf m.body) to k) (subst (λ r. slice_get soup n ≡ Some (letter m.from r m.conf m.body)) to at))))

  -- ---- ticks
  parts_ok : (j : Joining) (s n i : ℕ) (qs : List ℕ) (x : Letter) → In x (ask_parts p j s n i qs) → LetterOk t x
  parts_ok j s n i [] x d = absurd d
  parts_ok j s n i (q ∷ qs) x d =
      let a = s + (i * (j.len - s)) / n in
      let b = s + (suc i * (j.len - s)) / n in
      cond_both (nat_lt a b && not (is_some (held_run j.held a (b - a)))) (letter p q j.conf (AskSegment a b) ∷ ask_parts p j s n (suc i) qs) (ask_parts p j s n (suc i) qs) (λ (l : List Letter). In x l → LetterOk t x)
      (λ e y. ⊎_elim (λ (z : letter p q j.conf (AskSegment a b) ≡ x). subst (LetterOk t) z tt) (λ (z : In x (ask_parts p j s n (suc i) qs)). parts_ok j s n (suc i) qs x z) y)
      (λ e y. parts_ok j s n (suc i) qs x y) d

  asks_ok : (j : Joining) (x : Letter) → In x (asks p j) → LetterOk t x
  unfolding asks
  asks_ok j = of_asks j.base j.donors
    where
      of_asks : (o : Option Base) (ds : List (ℕ × ℕ)) (x : Letter) → In x (asks_of p j o ds) → LetterOk t x
      of_asks (Some b) ds x d = parts_ok j b.at (length (donors_at b.at j.donors)) 0 (donors_at b.at j.donors) x d
      of_asks None [] x d = absurd d
      of_asks None (e ∷ ds) x (inl d) = subst (LetterOk t) d tt
      of_asks None (e ∷ ds) x (inr d) = parts_ok j (best_donor e ds).1 (length (donors_at (best_donor e ds).1 j.donors)) 0 (donors_at (best_donor e ds).1 j.donors) x d

  parts_plain : (j : Joining) (s n i : ℕ) (qs : List ℕ) (r : ℕ) → inner_of r (ask_parts p j s n i qs) ≡ []
  parts_plain j s n i [] r = refl
  parts_plain j s n i (q ∷ qs) r =
      let a = s + (i * (j.len - s)) / n in
      let b = s + (suc i * (j.len - s)) / n in
      cond_both (nat_lt a b && not (is_some (held_run j.held a (b - a)))) (letter p q j.conf (AskSegment a b) ∷ ask_parts p j s n (suc i) qs) (ask_parts p j s n (suc i) qs) (λ l. inner_of r l ≡ [])
      (λ e. parts_plain j s n (suc i) qs r) (λ e. parts_plain j s n (suc i) qs r)

  asks_plain : (j : Joining) (r : ℕ) → inner_of r (asks p j) ≡ []
  unfolding asks
  asks_plain j r = of_asks j.base j.donors
    where
      of_asks : (o : Option Base) (ds : List (ℕ × ℕ)) → inner_of r (asks_of p j o ds) ≡ []
      of_asks (Some b) ds = parts_plain j b.at (length (donors_at b.at j.donors)) 0 (donors_at b.at j.donors) r
      of_asks None [] = refl
      of_asks None (e ∷ ds) = parts_plain j (best_donor e ds).1 (length (donors_at (best_donor e ds).1 j.donors)) 0 (donors_at (best_donor e ds).1 j.donors) r

  beats_ok : (u : Tale) (pt : Part) (x : Letter) → In x (to_all p pt.conf HeartbeatRequest pt.members) → LetterOk u x
  beats_ok u pt = in_to_all u p pt.conf HeartbeatRequest (λ q. tt) pt.members

  not_joining : st.joining ≡ None → is_some st.joining ≡ true → ⊥
  not_joining at y = false≢true (sym (ap (λ (o : Option Joining). is_some o) at) ∙ y)

  led_good : (is_some st.joining ≡ true → ⊥) → (pt : Part) → st.part ≡ Some pt → (n : Option ℕ) → StepGood first pr t soup p f st (led f p st pt n)
  unfolding led
  led_good out pt has None = here_good first pr t ok soup p f st (to_all p pt.conf HeartbeatRequest pt.members) h (beats_ok t pt) (λ r. inner_beats r p pt.conf pt.members)
  led_good out pt has (Some n) =
      more_sent first pr t ok soup p f st (acted f p st pt 0 (Elected n)) (to_all p pt.conf HeartbeatRequest pt.members) (λ u. beats_ok u pt) (λ r. inner_beats r p pt.conf pt.members) (acted_good first pr t ok soup p f st h pt has 0 (Elected n) tt (λ x i. absurd i) (λ y. absurd (out y)))

  ticks_alone_good : (o : Option Joining) → st.joining ≡ o → (k : Option Part) → st.part ≡ k → (heard : ℕ → Bool) → StepGood first pr t soup p f st (ticks_alone_in f p st o k heard)
  ticks_alone_good (Some j) at k has heard = still_good first pr t ok soup p f st h
  ticks_alone_good None at None has heard = still_good first pr t ok soup p f st h
  ticks_alone_good None at (Some pt) has heard =
      more_sent first pr t ok soup p f st (acted f p st pt 0 (CutOff heard)) (to_all p pt.conf HeartbeatRequest pt.members) (λ u. beats_ok u pt) (λ r. inner_beats r p pt.conf pt.members)
      (acted_good first pr t ok soup p f st h pt has 0 (CutOff heard) tt (λ x i. absurd i) (λ y. absurd (not_joining at y)))

  ticks_good : (o : Option Joining) → st.joining ≡ o → (k : Option Part) → st.part ≡ k → (n : Option ℕ) → StepGood first pr t soup p f st (ticks_in f p st o k n)
  ticks_good (Some j) at k has n = here_good first pr t ok soup p f st (asks p j) h (asks_ok j) (asks_plain j)
  ticks_good None at None has n = still_good first pr t ok soup p f st h
  ticks_good None at (Some pt) has n = led_good (not_joining at) pt has n

  links_good : (o : Option Joining) → st.joining ≡ o → (q : ℕ) (k : Option Part) → st.part ≡ k → StepGood first pr t soup p f st (links_in f p st o q k)
  links_good (Some j) at q k has = still_good first pr t ok soup p f st h
  links_good None at q None has = here_good first pr t ok soup p f st (refers p st st.closed q) h (referred st.closed refl q) (refers_plain st.closed q)
  links_good None at q (Some pt) has =
      cond_both (is_member nat_eq pt.members q && not (q == p)) _ _ (StepGood first pr t soup p f st) (λ e. acted_good first pr t ok soup p f st h pt has 0 (Up q) tt (λ x i. absurd i) (λ y. absurd (not_joining at y))) (λ e. still_good first pr t ok soup p f st h)

  -- an input that is no message and proposes nothing
  plain_good : (i : Input) → IsQuiet i → ((w : paxos.World) (n : ℕ) → May w p n i) → proposed_of i ≡ [] → (o : Option Part) → st.part ≡ o → StepGood first pr t soup p f st (acted_in f p st o i)
  plain_good i quiet may none None has = still_good first pr t ok soup p f st h
  plain_good i quiet may none (Some pt) has = acted_good first pr t ok soup p f st h pt has 0 i (may (inst t pt.conf) (place_in pt.conf 0 soup)) (λ x d. absurd (subst (In x) none d)) (λ y. quiet_vote f pt.members p pt.node i quiet)

  proposes_good : (es : List Entry) → EventOk pr t soup p st (Proposes es) → (o : Option Part) → st.part ≡ o → may_propose p st o es ≡ true → StepGood first pr t soup p f st (acted_in f p st o (Proposal es))
  proposes_good es k None has b = still_good first pr t ok soup p f st h
  proposes_good es k (Some pt) has b = acted_good first pr t ok soup p f st h pt has 0 (Proposal es) tt (λ x d. k pt has b x (among_in x es d)) (λ y. absurd (refused y b))
    where
      refused : is_some st.joining ≡ true → may_propose p st (Some pt) es ≡ true → ⊥
      refused y z = false≢true (sym (ap (λ (x : Bool). not x && may_propose_in p pt.node es) y) ∙ z)

  -- letters without an effect
  notes_ok : (xs : List (ℕ × ℕ)) → (m : Letter) → In m (notes p xs) → LetterOk t m
  notes_ok [] m i = absurd i
  notes_ok (x ∷ xs) m (inl e) = subst (LetterOk t) e tt
  notes_ok (x ∷ xs) m (inr i) = notes_ok xs m i

  notes_plain : (xs : List (ℕ × ℕ)) (r : ℕ) → inner_of r (notes p xs) ≡ []
  notes_plain [] r = refl
  notes_plain (x ∷ xs) r = notes_plain xs r

  notes_good : (xs : List (ℕ × ℕ)) → StepGood first pr t soup p f st (says st (notes p xs))
  notes_good xs = here_good first pr t ok soup p f st (notes p xs) h (notes_ok xs) (notes_plain xs)

  -- ---- a server's step
  pub step_good : (e : Event) → EventOk pr t soup p st e → StepGood first pr t soup p f st (step f p st e)
  unfolding step
  step_good (Ticks n) k = ticks_good st.joining refl st.part refl n
  step_good (TicksAlone heard) k = ticks_alone_good st.joining refl st.part refl heard
  step_good (Proposes es) k = cond_both (may_propose p st st.part es) _ _ (StepGood first pr t soup p f st) (λ b. proposes_good es k st.part refl b) (λ b. still_good first pr t ok soup p f st h)
  step_good Trims k = plain_good TrimNow tt (λ w n. tt) refl st.part refl
  step_good (Links q) k = links_good st.joining refl q st.part refl
  step_good (Unlinks q) k = plain_good (Down q) tt (λ w n. tt) refl st.part refl
  step_good (Notes xs) k = notes_good xs
  step_good (Reads n m) k = reads_good n m k.0 k.1 k.2
  step_good (ReadsLong n total m) k = answers_good total m
