-- What a step must keep; a member's step, its opening, and the news of a configuration.
use Rattle.std.proofs.Common.{◌≡◌, ℕ, suc, ◌<◌, ◌≤◌, ◌⊎◌, inl, inr, ⊎_elim, List, [], ◌∷◌, ◌++◌, length, true, cond, ◌&&◌, ◌==◌, refl, sym, ap, ◌∙◌, subst, arith, Option, Some, None, append-nil}
use Rattle.std.specs.Prelude.{nat_eq, nat_lt, nat_le, is_some}
use Rattle.std.specs.Set.{is_member}
use Rattle.std.proofs.lemmas.Bool.{cond_both, cases_eq, and_parts, ltb-true}
use Rattle.op_types.specs.declared.log.Entry.{Entry}
use Rattle.op_types.specs.declared.log.StopSign.{StopSign}
use Rattle.op_spec.specs.Machine.{IsAmong, stop_at_end}
use Rattle.op_paxos.specs.Worlds as paxos
use Rattle.op_configurations.proofs.Among.{In}
use Rattle.op_paxos.specs.Nodes.{Node}
use Rattle.op_paxos.specs.Messages.{Effect}
use Rattle.op_paxos.specs.Worlds.{Input, Elected, Proposal, Comes, Up, CutOff, Down, Starts, TrimNow}
use Rattle.op_paxos.specs.Agreement.{decided_log}
use Rattle.op_paxos.proofs.Membership.{in_append}
use Rattle.op_paxos.proofs.TrimBound.{trims}
use Rattle.op_configurations.specs.Servers.{Inside, says, Part, Closed, Joining, State, Letter, Body, Stepped, letter, unchanged, Fate, Done, Stopped, fated, latest, wrap, to_all, new_part, next_conf, tell, closed_of, behind, close_with, acted, restarted, is_new_donor, with_donor, new_joining, with_joining, begun, invited_in, invited, decided_list, latest_in}
use Rattle.op_configurations.specs.Worlds.{with_fate, plain_event, inner_of, place_in, events_in, part_entries, closed_entries, entries_in}
use Rattle.op_configurations.proofs.Fronts.{none_some, some_same, front_length}
use Rattle.op_configurations.proofs.Runs.{Told, told_here, May, proposed_of, trimmed_low, decided_length}
use Rattle.op_configurations.proofs.Tale.{Tale, inst, Whole, TaleOk, PartOk, ClosedOk, NextOk, JoiningOk, StateOk, BodyOk, LetterOk, Onward, same_onward, onward_on, Reached, decided_on, reached_on, whole_on, letter_on, state_on, ToldIn}
use Rattle.op_configurations.proofs.Inside.{inner_append, inner_here, inner_other, inner_tell}
use Rattle.op_configurations.proofs.Moved.{member_in, with_node, Moved, moved, entries_part, entries_closed}
use Rattle.op_configurations.proofs.Rising.{Rises, rises_same, rises_node, rises_behind, part_told}
use Rattle.op_configurations.proofs.Trimming.{fated_low}
use Rattle.op_configurations.proofs.Keeping.{same_kept, keeps_same, keeps_node, quiet_vote}
use Rattle.op_paxos.specs.Steps.{SameVote}
use Rattle.op_configurations.specs.Laws.{IsKept, Keeps}
use Rattle.op_configurations.proofs.Entered.{Opening, opening, behind_ok}

-- some member of c had decided this far
abbrev pub LowAt : Tale → ℕ → ℕ → Type 0
LowAt t c x = (q : ℕ) × (x ≤ ((inst t c).nodes q).decided)

-- what is trimmed in a server's lists, some member of each had decided
pub record LowState (t : Tale) (st : State) : Type 0 where
  pub part : (pt : Part) → st.part ≡ Some pt → LowAt t pt.conf (pt.node).trimmed
  pub closed : (k : Closed) → st.closed ≡ Some k → LowAt t k.conf k.trimmed

pub told_low : (t : Tale) (c : ℕ) (l : List Entry) (x : ℕ) → ToldIn t c l → x ≤ length l → LowAt t c x
told_low t c l x d le = (d.who, omega (arith, le, front_length l (decided_log (inst t c) d.who) d.front, decided_length (t.members c) (t.events c) d.who))

pub low_of : (t : Tale) (p : ℕ) (st : State) → StateOk t p st → LowState t st
low_of t p st h = record {
  part = λ pt e. let k = h.part pt e in (p, subst (λ (nd : Node). nd.trimmed ≤ ((inst t pt.conf).nodes p).decided) k.node (trimmed_low (t.members pt.conf) (t.events pt.conf) p (subst (In p) k.members k.mine)));
  closed = λ k e. let x = h.closed k e in told_low t k.conf k.list k.trimmed (x.whole).told x.trimmed;
}

-- what a step of p from t on must keep
pub record StepGood (first : List ℕ) (pr : ℕ → List Entry) (t : Tale) (soup : List Letter) (p : ℕ) (f : Fate) (st : State) (o : Stepped) : Type 0 where
  pub tale : Tale
  pub ok : TaleOk first pr tale
  pub onward : Onward t tale
  pub state : StateOk tale p o.state
  pub sends : (m : Letter) → In m o.sends → LetterOk tale m
  pub others : (q c : ℕ) → (q ≡ p → ⊥) → (inst tale c).nodes q ≡ (inst t c).nodes q
  -- what p has decided of a configuration is as before, or the server shows it
  pub own : (c : ℕ) → (decided_log (inst tale c) p ≡ decided_log (inst t c) p) ⊎ (entries_in o.state c ≡ decided_log (inst tale c) p)
  pub rises : Rises st o.state
  pub low : LowState t o.state
  pub kept : Keeps st o.state
  -- the run of each configuration goes on by what the step is inside it, and its messages by what is sent; a step that stops inside sends none
  pub events : (c : ℕ) → tale.events c ≡ t.events c ++ events_in soup p c o.inside
  pub sent : (c : ℕ) → (inst tale c).packets ≡ (inst t c).packets ++ inner_of c o.sends
  pub quiet : f ≡ Stopped → (c : ℕ) → (inst tale c).packets ≡ (inst t c).packets

-- the messages inside each configuration are those of its run
abbrev pub Tied : Tale → List Letter → Type 0
Tied t soup = (c : ℕ) → (inst t c).packets ≡ inner_of c soup

-- a step in which nothing is decided, and the server shows what it showed
pub record CalmGood (first : List ℕ) (pr : ℕ → List Entry) (t : Tale) (soup : List Letter) (p : ℕ) (f : Fate) (st : State) (o : Stepped) : Type 0 where
  pub good : StepGood first pr t soup p f st o
  pub calm : (c : ℕ) → decided_log (inst good.tale c) p ≡ decided_log (inst t c) p
  pub shown : (c : ℕ) → entries_in o.state c ≡ entries_in st c
  pub keeps : (u : Tale) → LowState u st → LowState u o.state
  pub same_part : (pt : Part) → st.part ≡ Some pt → (pt' : Part) × ((o.state).part ≡ Some pt') × IsKept pt pt'
  pub same_latest : latest o.state ≡ latest st

part_trimmed : (t : Tale) (p : ℕ) (pt : Part) → PartOk t p pt → (pt.node).trimmed ≤ length (decided_list pt.node)
part_trimmed t p pt h =
    subst (λ (nd : Node). nd.trimmed ≤ length (decided_list nd)) h.node
    (omega (arith, trimmed_low (t.members pt.conf) (t.events pt.conf) p (subst (In p) h.members h.mine), decided_length (t.members pt.conf) (t.events pt.conf) p))

-- a member trims no further than any member has decided
pub part_reached : (t : Tale) (p : ℕ) (pt : Part) → PartOk t p pt → Reached t pt.conf (pt.node).trimmed
part_reached t p pt h = λ q i. subst (λ (nd : Node). nd.trimmed ≤ ((inst t pt.conf).nodes q).decided) h.node (trims (t.members pt.conf) (t.events pt.conf) p q i)

pub news_ok : (t : Tale) (k : Closed) → ClosedOk t k → NextOk t (suc k.conf) k.next k.olds (length k.list) × (k.trimmed ≤ length k.list)
news_ok t k h = (record { before = k.conf; list = k.list; sign = h.sign; is = refl; whole = h.whole; named = h.next; olds_are = h.olds; len_is = refl }, h.trimmed)

in_tell : (p : ℕ) (k : Closed) (qs : List ℕ) (m : Letter) → In m (tell p k qs) → (q : ℕ) × (m ≡ letter p q (suc k.conf) (next_conf k))
in_tell p k [] m i = absurd i
in_tell p k (q ∷ qs) m i =
    cond_both (is_member nat_eq k.olds q) (tell p k qs) (letter p q (suc k.conf) (next_conf k) ∷ tell p k qs) (λ (l : List Letter). In m l → (r : ℕ) × (m ≡ letter p r (suc k.conf) (next_conf k)))
    (λ e j. in_tell p k qs m j) (λ e j. ⊎_elim (λ (a : letter p q (suc k.conf) (next_conf k) ≡ m). (q, sym a)) (λ (b : In m (tell p k qs)). in_tell p k qs m b) j) i

pub in_to_all : (t : Tale) (p c : ℕ) (b : Body) → ((q : ℕ) → BodyOk t p q c b) → (qs : List ℕ) (m : Letter) → In m (to_all p c b qs) → LetterOk t m
in_to_all t p c b h [] m i = absurd i
in_to_all t p c b h (q ∷ qs) m i =
    cond_both (q == p) (to_all p c b qs) (letter p q c b ∷ to_all p c b qs) (λ (l : List Letter). In m l → LetterOk t m)
    (λ e j. in_to_all t p c b h qs m j) (λ e j. ⊎_elim (λ (a : letter p q c b ≡ m). subst (LetterOk t) a (h q)) (λ (r : In m (to_all p c b qs)). in_to_all t p c b h qs m r) j) i

pub single : (P : Letter → Type 0) (x : Letter) → P x → (m : Letter) → In m (x ∷ []) → P m
single P x h m (inl e) = subst P e h
single P x h m (inr i) = absurd i

module _ (first : List ℕ) (pr : ℕ → List Entry) (t : Tale) (ok : TaleOk first pr t) (soup : List Letter) (p : ℕ) (f : Fate) where
  latest_behind : (o : Option Part) (k : Closed) → ((x : Part) → o ≡ Some x → x.conf ≡ suc k.conf) → latest_in o (Some k) ≡ suc k.conf
  latest_behind None k f = refl
  latest_behind (Some x) k f = f x refl

  -- the runs stay as they are, and no message of theirs is sent
  pub here_good : (st : State) (sends : List Letter) → StateOk t p st → ((m : Letter) → In m sends → LetterOk t m) → ((c : ℕ) → inner_of c sends ≡ []) → StepGood first pr t soup p f st (says st sends)
  here_good st sends h k none = record {
    tale = t;
    ok = ok;
    onward = same_onward t;
    state = h;
    sends = k;
    others = λ q c n. refl;
    own = λ c. inl refl;
    rises = rises_same st st refl refl;
    low = low_of t p st h;
    kept = keeps_same st st refl;
    events = λ c. sym (append-nil (t.events c));
    sent = λ c. sym (append-nil (inst t c).packets) ∙ ap (λ l. (inst t c).packets ++ l) (sym (none c));
    quiet = λ e c. refl;
  }

  pub still_good : (st : State) → StateOk t p st → StepGood first pr t soup p f st (unchanged st)
  still_good st h = here_good st [] h (λ m i. absurd i) (λ c. refl)

  -- the part and the closed list stay, and what is held while joining may change
  pub held_good : (st st' : State) → st'.part ≡ st.part → st'.closed ≡ st.closed → StateOk t p st' → StepGood first pr t soup p f st (unchanged st')
  held_good st st' a b h = record {
    tale = t;
    ok = ok;
    onward = same_onward t;
    state = h;
    sends = λ m i. absurd i;
    others = λ q c n. refl;
    own = λ c. inl refl;
    rises = rises_same st st' a b;
    low = low_of t p st' h;
    kept = keeps_same st st' a;
    events = λ c. sym (append-nil (t.events c));
    sent = λ c. sym (append-nil (inst t c).packets);
    quiet = λ e c. refl;
  }

  -- more is sent in front
  pub more_sent : (st : State) (o : Stepped) (sends : List Letter) → ((u : Tale) → (m : Letter) → In m sends → LetterOk u m) → ((c : ℕ) → inner_of c sends ≡ []) → StepGood first pr t soup p f st o
      → StepGood first pr t soup p f st (record { state = o.state; sends = sends ++ o.sends; inside = o.inside })
  more_sent st o sends h none g = record {
    tale = g.tale;
    ok = g.ok;
    onward = g.onward;
    state = g.state;
    others = g.others;
    own = g.own;
    rises = g.rises;
    low = g.low;
    kept = g.kept;
    events = g.events;
    quiet = g.quiet;
    sends = λ m i. ⊎_elim (λ (a : In m sends). h g.tale m a) (λ (b : In m o.sends). g.sends m b) (in_append m sends o.sends i);
    sent = λ c. g.sent c ∙ ap (λ l. (inst t c).packets ++ l) (sym (inner_append c sends o.sends ∙ ap (λ l. l ++ inner_of c o.sends) (none c)));
  }

  module _ (st : State) (h : StateOk t p st) where
    module _ (pt : Part) (has : st.part ≡ Some pt) (n : ℕ) (i : Input) (may : May (inst t pt.conf) p (place_in pt.conf n soup) i) (fair : (x : Entry) → In x (proposed_of i) → IsAmong (pr pt.conf) x) (vote : is_some st.joining ≡ true → SameVote pt.node (fated f (paxos.step pt.members p pt.node i)).node) where
      abbrev out : Effect
      out = fated f (paxos.step pt.members p pt.node i)

      abbrev after : Part
      after = record { conf = pt.conf; members = pt.members; node = out.node }

      abbrev event : paxos.Event
      event = with_fate f (plain_event (place_in pt.conf n soup) p i)

      abbrev what : Inside
      what = record { conf = pt.conf; fate = f; input = i; number = n }

      abbrev m : Moved first pr t p st pt event out
      m = moved first pr t ok p st h pt has f (place_in pt.conf n soup) i may fair

      -- the messages inside: those of the member's step, and no others
      sent_on : (more : List Letter) → ((c : ℕ) → inner_of c more ≡ []) → (c : ℕ) → (inst m.tale c).packets ≡ (inst t c).packets ++ inner_of c (wrap pt.conf out.sends ++ more)
      sent_on more none c =
          let w : inner_of c (wrap pt.conf out.sends ++ more) ≡ inner_of c (wrap pt.conf out.sends) = inner_append c (wrap pt.conf out.sends) more ∙ ap (λ l. inner_of c (wrap pt.conf out.sends) ++ l) (none c) ∙ append-nil (inner_of c (wrap pt.conf out.sends)) in
          ⊎_elim
          (λ (e : c ≡ pt.conf). ap (λ r. (inst m.tale r).packets) e ∙ m.soup_here ∙ ap (λ r. (inst t r).packets ++ out.sends) (sym e) ∙ ap (λ l. (inst t c).packets ++ l) (sym (w ∙ inner_here c pt.conf out.sends e)))
          (λ (d : c ≡ pt.conf → ⊥). m.soup_there c d ∙ sym (append-nil (inst t c).packets) ∙ ap (λ l. (inst t c).packets ++ l) (sym (w ∙ inner_other c pt.conf out.sends d)))
          (cases_eq c pt.conf)

      none_sent : (g : Fate) (o : Effect) → g ≡ Stopped → (fated g o).sends ≡ []
      none_sent Done o e = absurd (done_stopped e)
        where
          done_stopped : Done ≡ Stopped → ⊥
          done_stopped e = cc
      none_sent Stopped o e = refl

      quiet_on : f ≡ Stopped → (c : ℕ) → (inst m.tale c).packets ≡ (inst t c).packets
      quiet_on e c = ⊎_elim
          (λ (d : c ≡ pt.conf). ap (λ r. (inst m.tale r).packets) d ∙ m.soup_here ∙ ap (λ l. (inst t pt.conf).packets ++ l) (none_sent f (paxos.step pt.members p pt.node i) e) ∙ append-nil (inst t pt.conf).packets ∙ ap (λ r. (inst t r).packets) (sym d))
          (λ (d : c ≡ pt.conf → ⊥). m.soup_there c d) (cases_eq c pt.conf)

      decided_here : decided_log (inst m.tale pt.conf) p ≡ decided_list out.node
      decided_here = ap decided_list m.here

      decided_up : (pt.node).decided ≤ (out.node).decided
      decided_up = omega (arith, decided_on t m.tale m.onward pt.conf (h.part pt has).opened p, ap (λ (nd : Node). nd.decided) (h.part pt has).node, ap (λ (nd : Node). nd.decided) m.here)

      trims_up : LowAt t pt.conf (out.node).trimmed
      trims_up =
          let k = h.part pt has in
          let low : (pt.node).trimmed ≤ (pt.node).decided = subst (λ (nd : Node). nd.trimmed ≤ nd.decided) k.node (trimmed_low (t.members pt.conf) (t.events pt.conf) p (subst (In p) k.members k.mine)) in
          (p, omega (arith, fated_low pt.members p pt.node low f i, ap (λ (nd : Node). nd.decided) k.node))

      closing : (o : Option StopSign) → stop_at_end (decided_list out.node) ≡ o → StepGood first pr t soup p f st (record { state = (close_with p st after o).state; sends = wrap pt.conf out.sends ++ (close_with p st after o).sends; inside = what ∷ [] })
      unfolding close_with
      closing None e = record {
        tale = m.tale;
        ok = m.ok;
        onward = m.onward;
        state = m.state;
        sends = λ x j. ⊎_elim (λ (a : In x (wrap pt.conf out.sends)). m.sends x a) (λ (b : In x []). absurd b) (in_append x (wrap pt.conf out.sends) [] j);
        others = m.others;
        own = λ c. ⊎_elim
            (λ (d : c ≡ pt.conf). inr (ap (entries_in (with_node st pt out.node)) d ∙ entries_part after st.closed ((m.state).before after refl) ∙ sym decided_here ∙ ap (λ k. decided_log (inst m.tale k) p) (sym d)))
            (λ (d : c ≡ pt.conf → ⊥). inl (ap decided_list (m.there c d))) (cases_eq c pt.conf);
        rises = rises_node st pt has out.node decided_up;
        kept = keeps_node st pt has out.node vote;
        low = record { part = λ x e. subst (λ (y : Part). LowAt t y.conf (y.node).trimmed) (some_same after x e) trims_up; closed = (low_of t p st h).closed };
        events = m.events;
        sent = sent_on [] (λ c. refl);
        quiet = quiet_on;
      }
      closing (Some s) e =
          let pk : PartOk m.tale p after = (m.state).part after refl in
          let k : Closed = closed_of after s in
          let w : Whole m.tale pt.conf (decided_list out.node) s = record { opened = pk.opened; last = e; told = subst (Told (m.tale.members pt.conf) (m.tale.events pt.conf)) decided_here (told_here (m.tale.members pt.conf) (m.tale.events pt.conf) p) } in
          let op : Opening first pr m.tale pt.conf s = opening first pr m.tale m.ok pt.conf (decided_list out.node) s w in
          let before : StateOk op.tale p (with_node st pt out.node) = state_on m.tale op.tale op.onward p (with_node st pt out.node) (λ c. ap (λ (x : paxos.World). x.nodes p) (op.same c)) m.state in
          let kh : ClosedOk op.tale k = record { sign = s; whole = whole_on m.tale op.tale op.onward pt.conf (decided_list out.node) s w; next = refl; olds = pk.members ∙ sym ((op.onward).members pt.conf pk.opened); trimmed = part_trimmed m.tale p after pk; reached = reached_on m.tale op.tale op.onward pt.conf (out.node).trimmed pk.opened (part_reached m.tale p after pk) } in
          let b : StateOk op.tale p (behind p k) = behind_ok op.tale p (with_node st pt out.node) before k kh (omega arith) op.opened op.members in
          record {
            tale = op.tale;
            ok = op.ok;
            onward = onward_on t m.tale op.tale m.onward op.onward;
            state = b;
            sends = λ x j. ⊎_elim (λ (a : In x (wrap pt.conf out.sends)). letter_on m.tale op.tale op.onward x (m.sends x a))
                (λ (d : In x (tell p k s.members)). let r = in_tell p k s.members x d in subst (LetterOk op.tale) (sym r.1) (news_ok op.tale k kh)) (in_append x (wrap pt.conf out.sends) (tell p k s.members) j);
            others = λ q c n. ap (λ (x : paxos.World). x.nodes q) (op.same c) ∙ m.others q c n;
            own = λ c. ⊎_elim
                (λ (d : c ≡ pt.conf). inr (ap (entries_in (behind p k)) d ∙ entries_closed (behind p k).part k (λ x y. behind_conf k x y) ∙ sym decided_here ∙ ap (λ r. decided_log (inst m.tale r) p) (sym d) ∙ ap (λ (x : paxos.World). decided_log x p) (sym (op.same c))))
                (λ (d : c ≡ pt.conf → ⊥). inl (ap (λ (x : paxos.World). decided_log x p) (op.same c) ∙ ap decided_list (m.there c d))) (cases_eq c pt.conf);
            rises = rises_behind st pt has (h.before pt has) (behind p k).part k refl (omega (arith, decided_up, (part_told m.tale p after pk).1)) (λ x y. behind_conf k x y);
            kept = λ j x y. inr (omega (arith, latest_behind (behind p k).part k (λ u v. behind_conf k u v), ap (λ (o : Option Part). latest_in o st.closed) has));
            low = record {
              part = λ x. cond_both (is_member nat_eq k.next p) (Some (new_part (suc k.conf) k.next)) None (λ (o : Option Part). o ≡ Some x → LowAt t x.conf (x.node).trimmed)
                  (λ i e. subst (λ (y : Part). LowAt t y.conf (y.node).trimmed) (some_same (new_part (suc k.conf) k.next) x e) (p, omega arith)) (λ i e. absurd (none_some x e));
              closed = λ x e. subst (λ (y : Closed). LowAt t y.conf y.trimmed) (some_same k x e) trims_up;
            };
            events = λ c. op.events c ∙ m.events c;
            sent = λ c. ap (λ (x : paxos.World). x.packets) (op.same c) ∙ sent_on (tell p k s.members) (λ r. inner_tell r p k s.members) c;
            quiet = λ e c. ap (λ (x : paxos.World). x.packets) (op.same c) ∙ quiet_on e c;
          }
        where
          behind_conf : (k : Closed) (x : Part) → (behind p k).part ≡ Some x → x.conf ≡ suc k.conf
          behind_conf k x = cond_both (is_member nat_eq k.next p) (Some (new_part (suc k.conf) k.next)) None (λ (o : Option Part). o ≡ Some x → x.conf ≡ suc k.conf) (λ i e. sym (ap (λ (y : Part). y.conf) (some_same (new_part (suc k.conf) k.next) x e))) (λ i e. absurd (none_some x e))

      pub acted_good : StepGood first pr t soup p f st (acted f p st pt n i)
      unfolding acted
      acted_good = closing (stop_at_end (decided_list out.node)) refl

    -- ---- a member opens
    rests : (f : Fate) (ms : List ℕ) (nd : Node) → decided_list (fated f (paxos.step ms p nd Starts)).node ≡ decided_list nd
    unfolding paxos.step
    rests Done ms nd = refl
    rests Stopped ms nd = refl

    rests_decided : (f : Fate) (ms : List ℕ) (nd : Node) → nd.decided ≤ (fated f (paxos.step ms p nd Starts)).node.decided
    unfolding paxos.step
    rests_decided Done ms nd = omega arith
    rests_decided Stopped ms nd = omega arith

    rests_trimmed : (f : Fate) (ms : List ℕ) (nd : Node) → (fated f (paxos.step ms p nd Starts)).node.trimmed ≡ nd.trimmed
    unfolding paxos.step
    rests_trimmed Done ms nd = refl
    rests_trimmed Stopped ms nd = refl

    rests_low : (pt : Part) → st.part ≡ Some pt → (u : Tale) → LowState u st → LowState u (with_node st pt (fated f (paxos.step pt.members p pt.node Starts)).node)
    rests_low pt has u l = record {
      part = λ x e. subst (λ (y : Part). LowAt u y.conf (y.node).trimmed) (some_same (record { conf = pt.conf; members = pt.members; node = (fated f (paxos.step pt.members p pt.node Starts)).node }) x e)
          (subst (LowAt u pt.conf) (sym (rests_trimmed f pt.members pt.node)) (l.part pt has));
      closed = l.closed;
    }

    pub restarted_good : (o : Option Part) → st.part ≡ o → CalmGood first pr t soup p f st (restarted f p st o)
    unfolding restarted here_good still_good
    restarted_good None has = record { good = still_good st h; calm = λ c. refl; shown = λ c. refl; keeps = λ u l. l; same_part = λ pt e. (pt, e, same_kept pt); same_latest = refl }
    restarted_good (Some pt) has =
        let o : Effect = fated f (paxos.step pt.members p pt.node Starts) in
        let e : paxos.Event = with_fate f (plain_event (place_in pt.conf 0 soup) p Starts) in
        let x : Moved first pr t p st pt e o = moved first pr t ok p st h pt has f (place_in pt.conf 0 soup) Starts tt (λ y j. absurd j) in
        let v : SameVote pt.node o.node = quiet_vote f pt.members p pt.node Starts tt in
        let calm : (c : ℕ) → decided_log (inst x.tale c) p ≡ decided_log (inst t c) p = λ c. ⊎_elim
        (λ (d : c ≡ pt.conf). ap (λ r. decided_log (inst x.tale r) p) d ∙ ap decided_list x.here ∙ rests f pt.members pt.node ∙ sym (ap decided_list (h.part pt has).node) ∙ ap (λ r. decided_log (inst t r) p) (sym d))
        (λ (d : c ≡ pt.conf → ⊥). ap decided_list (x.there c d)) (cases_eq c pt.conf) in
        record {
          good = record { tale = x.tale; ok = x.ok; onward = x.onward; state = x.state; sends = x.sends; others = x.others; own = λ c. inl (calm c); rises = rises_node st pt has o.node (rests_decided f pt.members pt.node); low = rests_low pt has t (low_of t p st h); kept = keeps_node st pt has o.node (λ j. v); events = x.events; sent = λ c. sent_on pt has 0 Starts tt (λ y j. absurd j) (λ j. v) [] (λ r. refl) c ∙ ap (λ l. (inst t c).packets ++ inner_of c l) (append-nil (wrap pt.conf o.sends)); quiet = quiet_on pt has 0 Starts tt (λ y j. absurd j) (λ j. v) };
          calm = calm;
          keeps = λ u l. rests_low pt has u l;
          same_part = λ x y. subst (λ (z : Part). (pt' : Part) × ((with_node st pt o.node).part ≡ Some pt') × IsKept z pt') (some_same pt x (sym has ∙ y)) (record { conf = pt.conf; members = pt.members; node = o.node }, refl, record { conf = refl; members = refl; promised = v.promised; accepted = v.accepted; log = v.log; decided = v.decided });
          same_latest = sym (ap (λ (y : Option Part). latest_in y st.closed) has);
          shown = λ c. ap (λ (l : List Entry). cond (c == pt.conf) l [] ++ closed_entries st.closed c) (rests f pt.members pt.node) ∙ ap (λ (y : Option Part). part_entries y c ++ closed_entries st.closed c) (sym has);
        }

    -- ---- joining
    pub with_joining_ok : (j : Joining) → JoiningOk t p j → latest st < j.conf → StateOk t p (with_joining st j)
    with_joining_ok j k lt = record {
      part = h.part;
      closed = h.closed;
      joining = λ x e. subst (JoiningOk t p) (some_same j x e) k;
      untouched = h.untouched;
      before = h.before;
      above = λ x e. subst (λ (y : Joining). latest st < y.conf) (some_same j x e) lt;
    }

    -- who tells of the next configuration
    module _ (q c : ℕ) (members olds : List ℕ) (len trm : ℕ) (news : NextOk t c members olds len) (mine : In p members) (lt : latest st < c) where
      begun_ok : StateOk t p (begun st q c members olds len trm)
      begun_ok = cond_both (nat_le trm len) _ st (StateOk t p)
          (λ e. with_joining_ok (new_joining q c members olds len trm) (record { next = news; mine = mine; base = λ b d. absurd (none_some b d); reached = λ b d. absurd (none_some b d); held = λ n x d. absurd (none_some x d) }) lt) (λ e. h)

      invited_in_ok : (o : Option Joining) → st.joining ≡ o → StateOk t p (invited_in st o q c members olds len trm)
      unfolding invited_in
      invited_in_ok None has = begun_ok
      invited_in_ok (Some j) has =
          let old = h.joining j has in
          cond_both (nat_lt j.conf c) _ _ (StateOk t p) (λ e. begun_ok)
          (λ e. cond_both ((j.conf == c) && is_new_donor q trm j) _ st (StateOk t p)
          (λ d. with_joining_ok (record { conf = j.conf; members = j.members; olds = j.olds; len = j.len; donors = with_donor q trm j.donors; base = j.base; held = j.held; stage = j.stage }) (record { next = old.next; mine = old.mine; base = old.base; reached = old.reached; held = old.held }) (h.above j has)) (λ d. h))

    pub invited_ok : (q c : ℕ) (members olds : List ℕ) (len trm : ℕ) → NextOk t c members olds len → StateOk t p (invited p st q c members olds len trm)
    unfolding invited
    invited_ok q c members olds len trm news =
        cond_both (is_member nat_eq members p && nat_lt (latest st) c) _ st (StateOk t p)
        (λ e. let k = and_parts (is_member nat_eq members p) (nat_lt (latest st) c) e in invited_in_ok q c members olds len trm news (member_in members p k.0) (ltb-true (latest st) c k.1) st.joining refl) (λ e. h)
