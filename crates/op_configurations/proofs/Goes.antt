-- Whatever happens keeps the invariant over all configurations.
use Rattle.std.proofs.Common.{◌≡◌, ◌<◌, ℕ, suc, ◌⊎◌, inl, inr, ⊎_elim, List, [], ◌++◌, Bool, true, false, ◌==◌, refl, sym, ap, ◌∙◌, subst, arith, Option, Some, None, append-nil, append_assoc}
use Rattle.std.specs.Prelude.{nat_eq, slice_get}
use Rattle.std.specs.Set.{is_member}
use Rattle.std.proofs.lemmas.Bool.{cond_both}
use Rattle.op_types.specs.declared.log.Entry.{Entry}
use Rattle.op_spec.specs.Machine.{IsAmong}
use Rattle.op_paxos.specs.Nodes.{Node}
use Rattle.op_paxos.specs.Worlds as paxos
use Rattle.op_configurations.proofs.Among.{In}
use Rattle.op_spec.specs.Machine.{with_at}
use Rattle.op_paxos.specs.Agreement.{decided_log}
use Rattle.op_paxos.proofs.Updates.{upd_both}
use Rattle.op_paxos.proofs.Membership.{in_append}
use Rattle.op_paxos.proofs.Membership.{in_from_get}
use Rattle.op_configurations.specs.Servers.{fresh, Part, State, Letter, Stepped, unchanged, Fate, Done, Stopped, Event, Ticks, TicksAlone, Proposes, Trims, Links, Unlinks, Reads, new_part, restarted, step, decided_list, latest, ReadsLong, without_stage, without_pieces, Joining, Notes}
use Rattle.op_configurations.specs.Worlds.{Life, Running, Down, Server, World, Happening, At, Delivers, Stops, Opens, with_server, stepped, at_server, delivered, stops, found, opening_fate, opened, opens, happens, start, entries_in, reader, actor, inner_of, events_in, DeliversLong}
use Rattle.op_configurations.proofs.Fronts.{none_some, some_same}
use Rattle.op_configurations.proofs.Tale.{Tale, inst, TaleOk, PartOk, Before, StateOk, LetterOk, EventOk, Onward, same_onward, onward_on, letter_on, event_on, state_on, JoiningOk}
use Rattle.op_configurations.proofs.Moved.{member_in}
use Rattle.op_configurations.proofs.Rising.{Rises, rises_same, rises_on}
use Rattle.op_configurations.proofs.Inside.{inner_append, events_append}
use Rattle.op_configurations.proofs.Acting.{LowState, low_of, StepGood, CalmGood, Tied, still_good, restarted_good}
use Rattle.op_configurations.proofs.Keeping.{keeps_same, kept_on}
use Rattle.op_configurations.specs.Laws.{IsKept, Keeps}
use Rattle.op_configurations.proofs.Steps.{step_good}

pub record ServerOk (pr : ℕ → List Entry) (t : Tale) (soup : List Letter) (p : ℕ) (sv : Server) : Type 0 where
  pub state : StateOk t p sv.state
  pub pending : (e : Event) → sv.life ≡ Down (Some e) → EventOk pr t soup p sv.state e

pub record Good (first : List ℕ) (pr : ℕ → List Entry) (t : Tale) (w : World) : Type 0 where
  pub tale : TaleOk first pr t
  pub servers : (p : ℕ) → ServerOk pr t w.soup p (w.servers p)
  -- each configuration's run is what happened inside it
  pub events : (c : ℕ) → t.events c ≡ w.inner c
  pub tied : Tied t w.soup
  pub letters : (m : Letter) → In m w.soup → LetterOk t m

-- the invariant goes on to this world; what a member has decided is as before, or the server at which something happened shows it
pub record Goes (first : List ℕ) (pr : ℕ → List Entry) (t : Tale) (w w' : World) (a : Option ℕ) : Type 0 where
  pub tale : Tale
  pub good : Good first pr tale w'
  pub onward : Onward t tale
  pub decided : (q c : ℕ) → (decided_log (inst tale c) q ≡ decided_log (inst t c) q) ⊎ ((a ≡ Some q) × (entries_in (w'.servers q).state c ≡ decided_log (inst tale c) q))
  pub rises : (q : ℕ) → Rises (w.servers q).state (w'.servers q).state
  pub low : (q : ℕ) → a ≡ Some q → LowState t (w'.servers q).state
  pub kept : (q : ℕ) → Keeps (w.servers q).state (w'.servers q).state

pub running_down : (o : Option Event) → Running ≡ Down o → ⊥
running_down o e = cc

down_same : (a b : Option Event) → Down a ≡ Down b → a ≡ b
down_same a b e = cc

-- a step that stops inside, and then one in which nothing is decided
pub then_calm : (first : List ℕ) (pr : ℕ → List Entry) (t : Tale) (soup : List Letter) (p : ℕ) (f : Fate) (st : State) (o o' : Stepped) → (g : StepGood first pr t soup p Stopped st o) → CalmGood first pr g.tale soup p f o.state o'
    → StepGood first pr t soup p f st (record { state = o'.state; sends = o'.sends; inside = o.inside ++ o'.inside })
then_calm first pr t soup p f st o o' g k =
    let u = k.good in
    record {
      tale = u.tale;
      ok = u.ok;
      onward = onward_on t g.tale u.tale g.onward u.onward;
      state = u.state;
      sends = u.sends;
      others = λ q c n. u.others q c n ∙ g.others q c n;
      own = λ c. ⊎_elim (λ (e : decided_log (inst g.tale c) p ≡ decided_log (inst t c) p). inl (k.calm c ∙ e))
          (λ (e : entries_in o.state c ≡ decided_log (inst g.tale c) p). inr (k.shown c ∙ e ∙ sym (k.calm c))) (g.own c);
      rises = rises_on st o.state o'.state g.rises u.rises;
      low = k.keeps t g.low;
      kept = λ j pt e. ⊎_elim
          (λ (x : (pt' : Part) × ((o.state).part ≡ Some pt') × IsKept pt pt'). let y = k.same_part x.0 x.1 in inl (y.0, y.1, kept_on pt x.0 y.0 x.2 y.2))
          (λ (x : latest st < latest o.state). inr (omega (arith, x, k.same_latest))) (g.kept j pt e);
      events = λ c. u.events c ∙ ap (λ (es : List paxos.Event). es ++ events_in soup p c o'.inside) (g.events c) ∙ append_assoc (t.events c) (events_in soup p c o.inside) (events_in soup p c o'.inside)
          ∙ ap (λ (es : List paxos.Event). t.events c ++ es) (sym (events_append soup p c o.inside o'.inside));
      sent = λ c. u.sent c ∙ ap (λ l. l ++ inner_of c o'.sends) (g.quiet refl c);
      quiet = λ e c. u.quiet e c ∙ g.quiet refl c;
    }

-- a proposal at a running server that isn't refused is proposed
abbrev pub FairAt : (ℕ → List Entry) → Tale → World → Happening → Type 0
FairAt pr t w (At f p (Proposes e)) = (w.servers p).life ≡ Running → EventOk pr t w.soup p (w.servers p).state (Proposes e)
FairAt pr t w _ = Unit {0}

-- ---- a server without its stage
without_joining : (t : Tale) (p low : ℕ) (o : Option Joining) → ((j : Joining) → o ≡ Some j → JoiningOk t p j × (low < j.conf)) → (j : Joining) → without_stage o ≡ Some j → JoiningOk t p j × (low < j.conf)
without_joining t p low None f j e = absurd (none_some j e)
without_joining t p low (Some k) f j e =
    let r = f k refl in
    let o = r.0 in
    subst (λ (x : Joining). JoiningOk t p x × (low < x.conf)) (some_same (record k { stage = None }) j e) (record { next = o.next; mine = o.mine; base = o.base; reached = o.reached; held = o.held }, r.1)

without_ok : (t : Tale) (p : ℕ) (st : State) → StateOk t p st → StateOk t p (without_pieces st)
without_ok t p st h = record {
  part = h.part;
  closed = h.closed;
  joining = λ j e. (without_joining t p (latest st) st.joining (λ k d. (h.joining k d, h.above k d)) j e).0;
  untouched = h.untouched;
  before = h.before;
  above = λ j e. (without_joining t p (latest st) st.joining (λ k d. (h.joining k d, h.above k d)) j e).1;
}

module _ (first : List ℕ) (pr : ℕ → List Entry) (t : Tale) (w : World) (good : Good first pr t w) where
  goes_none : (a : Option ℕ) → Goes first pr t w w a
  goes_none a = record { tale = t; good = good; onward = same_onward t; decided = λ q c. inl refl; rises = λ q. rises_same (w.servers q).state (w.servers q).state refl refl; low = λ q e. low_of t q (w.servers q).state (good.servers q).state; kept = λ q. keeps_same (w.servers q).state (w.servers q).state refl }

  -- p's server is put, and letters are sent
  put : (p : ℕ) (f : Fate) (o : Stepped) (life : Life) → (g : StepGood first pr t w.soup p f (w.servers p).state o) → ((e : Event) → life ≡ Down (Some e) → ⊥) → Goes first pr t w (with_server w p (record { state = o.state; life = life }) o.sends o.inside) (Some p)
  put p f o life g runs =
      let new : Server = record { state = o.state; life = life } in
      let soup' : List Letter = w.soup ++ o.sends in
      record {
        tale = g.tale;
        good = record {
          tale = g.ok;
          servers = λ q. upd_both (λ (sv : Server). ServerOk pr g.tale soup' q sv) w.servers p q new
              (λ e. subst (λ r. ServerOk pr g.tale soup' r new) (sym e) (record { state = g.state; pending = λ d x. absurd (runs d x) }))
              (λ n. let s = good.servers q in record {
                state = state_on t g.tale g.onward q (w.servers q).state (λ c. g.others q c n) s.state;
                pending = λ e d. event_on t g.tale g.onward pr w.soup o.sends q (w.servers q).state e (s.pending e d);
              });
          events = λ c. g.events c ∙ ap (λ (es : List paxos.Event). es ++ events_in w.soup p c o.inside) (good.events c);
          tied = λ c. g.sent c ∙ ap (λ l. l ++ inner_of c o.sends) (good.tied c) ∙ sym (inner_append c w.soup o.sends);
          letters = λ m i. ⊎_elim (λ (a : In m w.soup). letter_on t g.tale g.onward m (good.letters m a)) (λ (b : In m o.sends). g.sends m b) (in_append m w.soup o.sends i);
        };
        onward = g.onward;
        decided = λ q c. upd_both (λ (sv : Server). (decided_log (inst g.tale c) q ≡ decided_log (inst t c) q) ⊎ ((Some p ≡ Some q) × (entries_in sv.state c ≡ decided_log (inst g.tale c) q))) w.servers p q new
            (λ e. subst (λ r. (decided_log (inst g.tale c) r ≡ decided_log (inst t c) r) ⊎ ((Some p ≡ Some r) × (entries_in o.state c ≡ decided_log (inst g.tale c) r))) (sym e)
            (⊎_elim (λ (x : decided_log (inst g.tale c) p ≡ decided_log (inst t c) p). inl x) (λ (x : entries_in o.state c ≡ decided_log (inst g.tale c) p). inr (refl, x)) (g.own c)))
            (λ n. inl (ap (λ (nd : Node). decided_list nd) (g.others q c n)));
        rises = λ q. upd_both (λ (sv : Server). Rises (w.servers q).state sv.state) w.servers p q new (λ e. subst (λ r. Rises (w.servers r).state o.state) (sym e) g.rises) (λ n. rises_same (w.servers q).state (w.servers q).state refl refl);
        low = λ q e. upd_both (λ (sv : Server). LowState t sv.state) w.servers p q new (λ x. g.low) (λ n. absurd (n (sym (some_same p q e))));
        kept = λ q. upd_both (λ (sv : Server). Keeps (w.servers q).state sv.state) w.servers p q new (λ e. subst (λ r. Keeps (w.servers r).state o.state) (sym e) g.kept) (λ n. keeps_same (w.servers q).state (w.servers q).state refl);
      }

  -- p's state stays, and its life changes
  put_life : (p : ℕ) (life : Life) → ((e : Event) → life ≡ Down (Some e) → EventOk pr t w.soup p (w.servers p).state e) → Goes first pr t w (with_server w p (record { state = (w.servers p).state; life = life }) [] []) (Some p)
  put_life p life pending =
      let new : Server = record { state = (w.servers p).state; life = life } in
      let none : w.soup ++ [] ≡ w.soup = append-nil w.soup in
      record {
        tale = t;
        good = record {
          tale = good.tale;
          servers = λ q. subst (λ (l : List Letter). ServerOk pr t l q (with_at p new w.servers q)) (sym none) (upd_both (λ (sv : Server). ServerOk pr t w.soup q sv) w.servers p q new
              (λ e. subst (λ r. ServerOk pr t w.soup r new) (sym e) (record { state = (good.servers p).state; pending = pending })) (λ n. good.servers q));
          events = λ c. good.events c ∙ sym (append-nil (w.inner c));
          tied = λ c. good.tied c ∙ ap (inner_of c) (sym none);
          letters = λ m i. good.letters m (subst (In m) none i);
        };
        onward = same_onward t;
        decided = λ q c. inl refl;
        rises = λ q. upd_both (λ (sv : Server). Rises (w.servers q).state sv.state) w.servers p q new (λ e. subst (λ r. Rises (w.servers r).state (w.servers p).state) (sym e) (rises_same (w.servers p).state (w.servers p).state refl refl)) (λ n. rises_same (w.servers q).state (w.servers q).state refl refl);
        low = λ q e. upd_both (λ (sv : Server). LowState t sv.state) w.servers p q new (λ x. low_of t p (w.servers p).state (good.servers p).state) (λ n. absurd (n (sym (some_same p q e))));
        kept = λ q. upd_both (λ (sv : Server). Keeps (w.servers q).state sv.state) w.servers p q new (λ e. subst (λ r. Keeps (w.servers r).state (w.servers p).state) (sym e) (keeps_same (w.servers p).state (w.servers p).state refl)) (λ n. keeps_same (w.servers q).state (w.servers q).state refl);
      }

  stepped_goes : (f : Fate) (p : ℕ) (e : Event) → EventOk pr t w.soup p (w.servers p).state e → Goes first pr t w (stepped w f p (w.servers p).state e) (Some p)
  unfolding stepped
  stepped_goes Done p e k = put p Done (step Done p (w.servers p).state e) Running (step_good first pr t good.tale w.soup p Done (w.servers p).state (good.servers p).state good.tied e k) (λ d x. running_down (Some d) x)
  stepped_goes Stopped p e k = put_life p (Down (Some e)) (λ d x. subst (EventOk pr t w.soup p (w.servers p).state) (some_same e d (down_same (Some e) (Some d) x)) k)

  at_goes : (f : Fate) (p : ℕ) (l : Life) (e : Event) → (w.servers p).life ≡ l → (l ≡ Running → EventOk pr t w.soup p (w.servers p).state e) → Goes first pr t w (at_server w f p l e) (Some p)
  unfolding at_server
  at_goes f p Running e has k = stepped_goes f p e (k refl)
  at_goes f p (Down o) e has k = goes_none (Some p)

  delivered_goes : (f : Fate) (n : ℕ) (read : Letter → Event) (o : Option Letter) → slice_get w.soup n ≡ o → ((m : Letter) → LetterOk t m → slice_get w.soup n ≡ Some m → EventOk pr t w.soup m.to (w.servers m.to).state (read m)) → Goes first pr t w (delivered w f read o) (reader o)
  unfolding delivered
  delivered_goes f n read None k reads = goes_none None
  delivered_goes f n read (Some m) k reads = at_goes f m.to (w.servers m.to).life (read m) refl (λ x. reads m (good.letters m (in_from_get w.soup n m k)) k)

  stops_goes : (p : ℕ) (l : Life) → Goes first pr t w (stops w p l) (Some p)
  unfolding stops
  stops_goes p Running = put_life p (Down None) (λ d x. absurd (none_some d (down_same None (Some d) x)))
  stops_goes p (Down o) = goes_none (Some p)

  -- the server finds no stage
  opened_empty : (p : ℕ) (o : Stepped) → StepGood first pr t w.soup p Stopped (w.servers p).state o → StepGood first pr t w.soup p Stopped (w.servers p).state (record { state = without_pieces o.state; sends = o.sends; inside = o.inside })
  opened_empty p o g = record {
    tale = g.tale;
    ok = g.ok;
    onward = g.onward;
    state = without_ok g.tale p o.state g.state;
    sends = g.sends;
    others = g.others;
    own = g.own;
    rises = record { upward = (g.rises).upward; decided = (g.rises).decided };
    low = record { part = (g.low).part; closed = (g.low).closed };
    kept = g.kept;
    events = g.events;
    sent = g.sent;
    quiet = g.quiet;
  }

  -- the server opens with what it finds
  module _ (p : ℕ) where
    opened_goes : (o : Stepped) → StepGood first pr t w.soup p Stopped (w.servers p).state o → Goes first pr t w (opened w p o) (Some p)
    unfolding opened
    opened_goes o g =
        let st : State = without_pieces o.state in
        let f : Fate = opening_fate st.joining in
        let before : Stepped = record { state = st; sends = o.sends; inside = o.inside } in
        let g' : StepGood first pr t w.soup p Stopped (w.servers p).state before = opened_empty p o g in
        let k : Stepped = restarted f p st (o.state).part in
        let r : CalmGood first pr g'.tale w.soup p f st k = restarted_good first pr g'.tale g'.ok w.soup p f st g'.state (o.state).part refl in
        put p f (record { state = k.state; sends = k.sends; inside = o.inside ++ k.inside }) Running (then_calm first pr t w.soup p f (w.servers p).state before k g' r) (λ d x. running_down (Some d) x)

    as_before : Goes first pr t w (opened w p (unchanged (w.servers p).state)) (Some p)
    as_before = opened_goes (unchanged (w.servers p).state) (still_good first pr t good.tale w.soup p Stopped (w.servers p).state (good.servers p).state)

    -- what the stopped step would have sent is none of a configuration's messages
    unsent : (o : Stepped) → StepGood first pr t w.soup p Stopped (w.servers p).state o → StepGood first pr t w.soup p Stopped (w.servers p).state (record { state = o.state; sends = []; inside = o.inside })
    unsent o g = record {
      tale = g.tale;
      ok = g.ok;
      onward = g.onward;
      state = g.state;
      others = g.others;
      own = g.own;
      rises = g.rises;
      low = g.low;
      kept = g.kept;
      events = g.events;
      quiet = g.quiet;
      sends = λ m i. absurd i;
      sent = λ c. g.quiet refl c ∙ sym (append-nil (inst t c).packets);
    }

    found_goes : (after : Bool) (o : Option Event) → (w.servers p).life ≡ Down o → Goes first pr t w (opened w p (found p after (w.servers p).state o)) (Some p)
    unfolding found
    found_goes true (Some e) has =
        opened_goes (record { state = (step Stopped p (w.servers p).state e).state; sends = []; inside = (step Stopped p (w.servers p).state e).inside })
        (unsent (step Stopped p (w.servers p).state e) (step_good first pr t good.tale w.soup p Stopped (w.servers p).state (good.servers p).state good.tied e ((good.servers p).pending e has)))
    found_goes true None has = as_before
    found_goes false (Some e) has = as_before
    found_goes false None has = as_before

    opens_goes : (after : Bool) (l : Life) → (w.servers p).life ≡ l → Goes first pr t w (opens w p after l) (Some p)
    unfolding opens
    opens_goes after Running has = goes_none (Some p)
    opens_goes after (Down o) has = found_goes after o has

  pub happens_goes : (h : Happening) → FairAt pr t w h → Goes first pr t w (happens w h) (actor w h)
  unfolding happens
  happens_goes (At f p (Ticks n)) k = at_goes f p (w.servers p).life (Ticks n) refl (λ x. tt)
  happens_goes (At f p (TicksAlone heard)) k = at_goes f p (w.servers p).life (TicksAlone heard) refl (λ x. tt)
  happens_goes (At f p (Proposes e)) k = at_goes f p (w.servers p).life (Proposes e) refl k
  happens_goes (At f p Trims) k = at_goes f p (w.servers p).life Trims refl (λ x. tt)
  happens_goes (At f p (Links q)) k = at_goes f p (w.servers p).life (Links q) refl (λ x. tt)
  happens_goes (At f p (Unlinks q)) k = at_goes f p (w.servers p).life (Unlinks q) refl (λ x. tt)
  happens_goes (At f p (Notes xs)) k = at_goes f p (w.servers p).life (Notes xs) refl (λ x. tt)
  happens_goes (At f p (Reads n m)) k = goes_none (Some p)
  happens_goes (At f p (ReadsLong n total m)) k = goes_none (Some p)
  happens_goes (Delivers f n) k = delivered_goes f n (Reads n) (slice_get w.soup n) refl (λ m a b. (a, refl, b))
  happens_goes (DeliversLong f n total) k = delivered_goes f n (ReadsLong n total) (slice_get w.soup n) refl (λ m a b. (a, refl, b))
  happens_goes (Stops p) k = stops_goes p (w.servers p).life
  happens_goes (Opens p after) k = opens_goes p after (w.servers p).life refl

-- more is proposed
pub widened : (first : List ℕ) (pr pr' : ℕ → List Entry) (t : Tale) (w : World) → ((c : ℕ) (e : Entry) → IsAmong (pr c) e → IsAmong (pr' c) e) → Good first pr t w → Good first pr' t w
widened first pr pr' t w up good =
    let k = good.tale in
    record {
      tale = record { one = k.one; first_members = k.first_members; low = k.low; empty = k.empty; linked = k.linked; proposed = λ c e i. up c e (k.proposed c e i) };
      servers = λ p. let s = good.servers p in record { state = s.state; pending = λ e d. event_up p (w.servers p).state e (s.pending e d) };
      events = good.events;
      tied = good.tied;
      letters = good.letters;
    }
  where
    event_up : (p : ℕ) (st : State) (e : Event) → EventOk pr t w.soup p st e → EventOk pr' t w.soup p st e
    event_up p st (Reads n m) h = h
    event_up p st (ReadsLong n total m) h = h
    event_up p st (Proposes es) h = λ pt has b e i. up pt.conf e (h pt has b e i)
    event_up p st (Ticks n) h = tt
    event_up p st (TicksAlone heard) h = tt
    event_up p st Trims h = tt
    event_up p st (Links q) h = tt
    event_up p st (Unlinks q) h = tt
    event_up p st (Notes xs) h = tt

-- ---- the start

abbrev pub first_tale : List ℕ → Tale
first_tale first = record { members = λ c. first; opened = λ c. c == 1; events = λ c. [] }

silent_start : (ms : List ℕ) → (paxos.run ms [] paxos.start).packets ≡ []
unfolding paxos.run paxos.start
silent_start ms = refl

fresh_start : (ms : List ℕ) (p : ℕ) → (paxos.run ms [] paxos.start).nodes p ≡ fresh
unfolding paxos.run paxos.start
fresh_start ms p = refl

pub start_good : (first : List ℕ) (pr : ℕ → List Entry) → Good first pr (first_tale first) (start first)
unfolding start
start_good first pr = record {
  tale = record {
    one = refl;
    first_members = refl;
    low = λ c h. omega (arith, Rattle.std.proofs.lemmas.Bool.eqb-true c 1 h);
    empty = λ c h. refl;
    linked = λ c pos h. absurd (omega (arith, Rattle.std.proofs.lemmas.Bool.eqb-true (suc c) 1 h));
    proposed = λ c e i. absurd i;
  };
  servers = λ p. record {
    state = record {
      part = λ x. cond_both (is_member nat_eq first p) (Some (new_part 1 first)) None (λ (o : Option Part). o ≡ Some x → PartOk (first_tale first) p x)
          (λ i e. subst (PartOk (first_tale first) p) (some_same (new_part 1 first) x e) (record { opened = refl; members = refl; node = fresh_start first p; mine = member_in first p i })) (λ i e. absurd (none_some x e));
      closed = λ k e. absurd (none_some k e);
      joining = λ j e. absurd (none_some j e);
      untouched = λ c lt. fresh_start first p;
      before = λ x. cond_both (is_member nat_eq first p) (Some (new_part 1 first)) None (λ (o : Option Part). o ≡ Some x → Before x None)
          (λ i e. inl (sym (ap (λ (y : Part). y.conf) (some_same (new_part 1 first) x e)), refl)) (λ i e. absurd (none_some x e));
      above = λ j e. absurd (none_some j e);
    };
    pending = λ e d. absurd (running_down (Some e) d);
  };
  events = λ c. refl;
  tied = λ c. silent_start first;
  letters = λ m i. absurd i;
}
