-- Inside a configuration members alone are elected.
use Rattle.std.proofs.Common.{◌≡◌, ◌⊎◌, ⊎_elim, ℕ, ◌+◌, Bool, true, false, cond, not, ◌&&◌, ◌||◌, ◌==◌, List, [], ◌∷◌, ◌++◌, length, Option, Some, None, is_some, refl, sym, ◌∙◌, subst}
use Rattle.std.specs.Prelude.{nat_eq, nat_lt, nat_le, slice_get}
use Rattle.std.specs.Set.{is_member}
use Rattle.std.proofs.lemmas.Bool.{cond_both, eqb-true, cases_Bool}
use Rattle.op_types.specs.declared.log.Entry.{Entry}
use Rattle.op_spec.specs.Machine.{Machine, IsAmong, first_machine}
use Rattle.op_paxos.specs.Worlds as paxos
use Rattle.op_paxos.specs.Messages.{Msg}
use Rattle.op_paxos.specs.Worlds.{Input, Elected, Proposal, Comes, Up, CutOff, Down, Starts, TrimNow}
use Rattle.op_configurations.specs.Servers.{Part, Closed, Joining, BaseStage, State, Letter, Body, Inner, HeartbeatRequest, HeartbeatReply, NextConf, AskBase, BasePart, BasePiece, AskSegment, Segment, Fate, Done as ServerDone, Stopped as ServerStopped, Stepped, Inside, Event, Ticks, TicksAlone, Proposes, Trims, Links, Unlinks, Reads, ReadsLong, acted, acted_in, restarted, started, based, has_all, completed, is_piece, pieced, without_pieces, got_segment, inner, answers_beat, takes, is_request, sought, seeks, reads, asks_base, answers_long, is_for_joining, is_ahead, latest, led, ticks_in, ticks_alone_in, links_in, step, may_propose, Notes}
use Rattle.op_configurations.specs.Worlds as worlds
use Rattle.op_configurations.specs.Worlds.{Life, Running, World, Happening, At, Delivers, DeliversLong, Stops, Opens, is_letter, with_fate, plain_event, event_in, events_in, stepped, at_server, delivered, stops, found, opening_fate, opened, opens, happens, run, start, machine_with, machine_after, machine_of}
use Rattle.op_configurations.proofs.Tale.{Tale, StateOk, Onward}
use Rattle.op_configurations.proofs.Goes.{Good, start_good, first_tale}
use Rattle.op_configurations.proofs.Book.{BookOk, Next, next, first_book}
use Rattle.op_laws.proofs.MemberBallots.{LedAmong, AllLed}

-- who is elected has the part of the configuration
abbrev pub IfElected : Option Part → ℕ → Input → Type 0
IfElected o c (Elected n) = (pt : Part) × (o ≡ Some pt) × (c ≡ pt.conf)
IfElected o c _ = Unit {0}

abbrev pub AllOwn : Option Part → List Inside → Type 0
AllOwn o [] = Unit {0}
AllOwn o (x ∷ xs) = IfElected o x.conf x.input × AllOwn o xs

own_input : (o : Option Part) (pt : Part) → o ≡ Some pt → (i : Input) → IfElected o pt.conf i
own_input o pt has (Elected n) = (pt, has, refl)
own_input o pt has (Proposal es) = tt
own_input o pt has (Comes q m) = tt
own_input o pt has (Up q) = tt
own_input o pt has (CutOff heard) = tt
own_input o pt has (Down q) = tt
own_input o pt has Starts = tt
own_input o pt has TrimNow = tt

own_append : (o : Option Part) (xs ys : List Inside) → AllOwn o xs → AllOwn o ys → AllOwn o (xs ++ ys)
own_append o [] ys a b = b
own_append o (x ∷ xs) ys a b = (a.0, own_append o xs ys a.1 b)

-- ---- a server's step

restarted_own : (f : Fate) (p : ℕ) (st : State) (o a : Option Part) → AllOwn a (restarted f p st o).inside
unfolding restarted
restarted_own f p st None a = tt
restarted_own f p st (Some pt) a = (tt, tt)

module _ (f : Fate) (p : ℕ) (st : State) where
  both : (b : Bool) (x y : Stepped) → AllOwn st.part x.inside → AllOwn st.part y.inside → AllOwn st.part (cond b x y).inside
  both b x y k l = cond_both b x y (λ (o : Stepped). AllOwn st.part o.inside) (λ _. k) (λ _. l)

  acted_own : (g : Fate) (pt : Part) → st.part ≡ Some pt → (n : ℕ) (i : Input) → AllOwn st.part (acted g p st pt n i).inside
  unfolding acted
  acted_own g pt has n i = (own_input st.part pt has i, tt)

  acted_in_own : (o : Option Part) → st.part ≡ o → (i : Input) → AllOwn st.part (acted_in f p st o i).inside
  acted_in_own None has i = tt
  acted_in_own (Some pt) has i = acted_own f pt has 0 i

  started_own : (j : Joining) (o : Option (List Entry)) → AllOwn st.part (started f p st j o).inside
  unfolding started
  started_own j None = tt
  started_own j (Some l) = restarted_own f p _ _ st.part

  based_own : (o : Option Joining) (c at : ℕ) (front : List Entry) → AllOwn st.part (based f p st o c at front).inside
  unfolding based
  based_own None c at front = tt
  based_own (Some j) c at front = both ((j.conf == c) && (not (is_some j.base) && nat_le at j.len)) _ _ (started_own _ _) tt

  completed_own : (j : Joining) (at : ℕ) (front : List Entry) (total : ℕ) (s : BaseStage) → AllOwn st.part (completed f p st j at front total s).inside
  unfolding completed
  completed_own j at front total s = both (has_all s.has total) _ _ (started_own _ _) tt

  pieced_own : (o : Option Joining) (c at total from_at count : ℕ) (front : List Entry) → AllOwn st.part (pieced f p st o c at total from_at count front).inside
  unfolding pieced
  pieced_own None c at total from_at count front = tt
  pieced_own (Some j) c at total from_at count front = both ((j.conf == c) && is_piece j at total from_at count) _ _ (completed_own j at front total _) tt

  segment_own : (o : Option Joining) (c a : ℕ) (es : List Entry) → AllOwn st.part (got_segment f p st o c a es).inside
  unfolding got_segment
  segment_own None c a es = tt
  segment_own (Some j) c a es = both ((j.conf == c) && (nat_lt 0 (length es) && nat_le (a + length es) j.len)) _ _ (started_own _ _) tt

  inner_own : (o : Option Part) → st.part ≡ o → (n q c : ℕ) (m : Msg) → AllOwn st.part (inner f p st o n q c m).inside
  unfolding inner
  inner_own None has n q c m = tt
  inner_own (Some pt) has n q c m = both (pt.conf == c) _ _ (acted_own f pt has n (Comes q m)) tt

  beat_own : (o : Option Part) (q c : ℕ) → AllOwn st.part (answers_beat p st o q c).inside
  beat_own None q c = tt
  beat_own (Some pt) q c = tt

  takes_own : (n q c : ℕ) (b : Body) → AllOwn st.part (takes f p st n q c b).inside
  unfolding takes
  takes_own n q c (Inner m) = inner_own st.part refl n q c m
  takes_own n q c HeartbeatRequest = beat_own st.part q c
  takes_own n q c HeartbeatReply = tt
  takes_own n q c (NextConf members olds len t) = tt
  takes_own n q c AskBase = tt
  takes_own n q c (BasePart at front) = based_own st.joining c at front
  takes_own n q c (BasePiece at total from_at count front) = pieced_own st.joining c at total from_at count front
  takes_own n q c (AskSegment a b) = tt
  takes_own n q c (Segment a es) = segment_own st.joining c a es

  sought_own : (g : Fate) (o : Option Part) → st.part ≡ o → (k : Option Closed) (q : ℕ) → AllOwn st.part (sought g p st o k q).inside
  unfolding sought
  sought_own g (Some pt) has k q = acted_own g pt has 0 (Up q)
  sought_own ServerDone None has (Some k) q = (tt, tt)
  sought_own ServerStopped None has (Some k) q = tt
  sought_own g None has None q = tt

  seeks_own : (q : ℕ) (b : Body) → AllOwn st.part (seeks f p st q b).inside
  unfolding seeks
  seeks_own q b = both (is_some st.joining || is_request b) _ _ tt (sought_own f st.part refl st.closed q)

  reads_own : (n : ℕ) (l : Letter) → AllOwn st.part (reads f p st n l).inside
  unfolding reads
  reads_own n l =
      both (is_some st.joining && not (is_for_joining l.body)) _ _ tt
      (both (nat_lt l.conf (latest st)) _ _ tt
      (both (nat_lt (latest st) l.conf && not (is_ahead l.body)) _ _ (seeks_own l.from l.body) (takes_own n l.from l.conf l.body)))

  long_own : (total : ℕ) (l : Letter) → AllOwn st.part (answers_long p st total l).inside
  unfolding answers_long
  long_own total l = both (asks_base l.body && (l.conf == latest st)) _ _ tt tt

  led_own : (pt : Part) → st.part ≡ Some pt → (n : Option ℕ) → AllOwn st.part (led f p st pt n).inside
  unfolding led
  led_own pt has None = tt
  led_own pt has (Some n) = acted_own f pt has 0 (Elected n)

  ticks_own : (j : Option Joining) (o : Option Part) → st.part ≡ o → (n : Option ℕ) → AllOwn st.part (ticks_in f p st j o n).inside
  ticks_own (Some j) o has n = tt
  ticks_own None None has n = tt
  ticks_own None (Some pt) has n = led_own pt has n

  ticks_alone_own : (j : Option Joining) (o : Option Part) → st.part ≡ o → (heard : ℕ → Bool) → AllOwn st.part (ticks_alone_in f p st j o heard).inside
  ticks_alone_own (Some j) o has heard = tt
  ticks_alone_own None None has heard = tt
  ticks_alone_own None (Some pt) has heard = acted_own f pt has 0 (CutOff heard)

  links_own : (j : Option Joining) (q : ℕ) (o : Option Part) → st.part ≡ o → AllOwn st.part (links_in f p st j q o).inside
  links_own (Some j) q o has = tt
  links_own None q None has = tt
  links_own None q (Some pt) has = both (is_member nat_eq pt.members q && not (q == p)) _ _ (acted_own f pt has 0 (Up q)) tt

  step_own : (e : Event) → AllOwn st.part (step f p st e).inside
  unfolding step
  step_own (Ticks n) = ticks_own st.joining st.part refl n
  step_own (TicksAlone heard) = ticks_alone_own st.joining st.part refl heard
  step_own (Proposes es) = both (may_propose p st st.part es) _ _ (acted_in_own st.part refl (Proposal es)) tt
  step_own Trims = acted_in_own st.part refl TrimNow
  step_own (Links q) = links_own st.joining q st.part refl
  step_own (Unlinks q) = acted_in_own st.part refl (Down q)
  step_own (Notes xs) = tt
  step_own (Reads n l) = reads_own n l
  step_own (ReadsLong n total l) = long_own total l

-- ---- as events of a configuration

pub fated_led : (O : ℕ → Type 0) (f : Fate) (e : paxos.Event) → LedAmong O e → LedAmong O (with_fate f e)
fated_led O ServerDone e k = k
fated_led O ServerStopped e k = k

pub led_append : (O : ℕ → Type 0) (xs ys : List paxos.Event) → AllLed O xs → AllLed O ys → AllLed O (xs ++ ys)
led_append O [] ys a b = b
led_append O (x ∷ xs) ys a b = (a.0, led_append O xs ys a.1 b)

-- each configuration's events
abbrev pub LedIn : Tale → World → Type 0
LedIn t w = (c : ℕ) → AllLed (IsAmong (t.members c)) (w.inner c)

module _ (t t' : Tale) (on : Onward t t') (soup : List Letter) (p : ℕ) (st : State) (ok : StateOk t p st) where
  mine : (pt : Part) → st.part ≡ Some pt → IsAmong (t'.members pt.conf) p
  mine pt has = let k = ok.part pt has in subst (λ (ms : List ℕ). IsAmong ms p) (k.members ∙ sym (on.members pt.conf k.opened)) k.mine

  input_led : (c i : ℕ) (x : Input) → IfElected st.part c x → LedAmong (IsAmong (t'.members c)) (plain_event i p x)
  input_led c i (Elected n) k = subst (λ (d : ℕ). IsAmong (t'.members d) p) (sym k.2) (mine k.0 k.1)
  input_led c i (Proposal es) k = tt
  input_led c i (Comes q m) k = tt
  input_led c i (Up q) k = tt
  input_led c i (CutOff heard) k = tt
  input_led c i (Down q) k = tt
  input_led c i Starts k = tt
  input_led c i TrimNow k = tt

  inside_led : (c : ℕ) (xs : List Inside) → AllOwn st.part xs → AllLed (IsAmong (t'.members c)) (events_in soup p c xs)
  inside_led c [] k = tt
  inside_led c (x ∷ xs) k =
      cond_both (c == x.conf) _ _ (AllLed (IsAmong (t'.members c)))
      (λ e. (subst (λ (d : ℕ). LedAmong (IsAmong (t'.members d)) (event_in soup p x)) (sym (eqb-true c x.conf e)) (fated_led (IsAmong (t'.members x.conf)) x.fate _ (input_led x.conf _ x.input k.0)), inside_led c xs k.1))
      (λ e. inside_led c xs k.1)

-- ---- whatever happens

-- what an event adds inside
abbrev pub Adds : World → World → ℕ → Type 0
Adds w w' c = (p : ℕ) × (xs : List Inside) × AllOwn ((w.servers p).state).part xs × (w'.inner c ≡ w.inner c ++ events_in w.soup p c xs)

module _ (w : World) (c : ℕ) where
  adds_none : Adds w w c
  adds_none = (0, [], tt, sym (Rattle.std.proofs.Common.append-nil (w.inner c)))

  stepped_adds : (f : Fate) (p : ℕ) (e : Event) → Adds w (stepped w f p (w.servers p).state e) c
  unfolding stepped
  stepped_adds ServerDone p e = (p, (step ServerDone p (w.servers p).state e).inside, step_own ServerDone p (w.servers p).state e, refl)
  stepped_adds ServerStopped p e = (p, [], tt, refl)

  at_adds : (f : Fate) (p : ℕ) (l : Life) (e : Event) → Adds w (at_server w f p l e) c
  unfolding at_server
  at_adds f p Running e = stepped_adds f p e
  at_adds f p (worlds.Down o) e = adds_none

  delivered_adds : (f : Fate) (read : Letter → Event) (o : Option Letter) → Adds w (delivered w f read o) c
  unfolding delivered
  delivered_adds f read None = adds_none
  delivered_adds f read (Some m) = at_adds f m.to (w.servers m.to).life (read m)

  stops_adds : (p : ℕ) (l : Life) → Adds w (stops w p l) c
  unfolding stops
  stops_adds p Running = (p, [], tt, refl)
  stops_adds p (worlds.Down o) = adds_none

  found_own : (p : ℕ) (after : Bool) (st : State) (o : Option Event) → AllOwn st.part (found p after st o).inside
  unfolding found
  found_own p true st (Some e) = step_own ServerStopped p st e
  found_own p true st None = tt
  found_own p false st (Some e) = tt
  found_own p false st None = tt

  opens_adds : (p : ℕ) (after : Bool) (l : Life) → Adds w (opens w p after l) c
  unfolding opens opened
  opens_adds p after Running = adds_none
  opens_adds p after (worlds.Down o) =
      let s = found p after (w.servers p).state o in
      let z : State = without_pieces s.state in
      let k = restarted (opening_fate z.joining) p z z.part in
      (p, s.inside ++ k.inside, own_append ((w.servers p).state).part s.inside k.inside (found_own p after (w.servers p).state o) (restarted_own (opening_fate z.joining) p z z.part ((w.servers p).state).part), refl)

  pub happens_adds : (h : Happening) → Adds w (happens w h) c
  unfolding happens
  happens_adds (At f p e) = cond_both (is_letter e) w (at_server w f p (w.servers p).life e) (λ (u : World). Adds w u c) (λ _. adds_none) (λ _. at_adds f p (w.servers p).life e)
  happens_adds (Delivers f n) = delivered_adds f (Reads n) (slice_get w.soup n)
  happens_adds (DeliversLong f n total) = delivered_adds f (ReadsLong n total) (slice_get w.soup n)
  happens_adds (Stops p) = stops_adds p (w.servers p).life
  happens_adds (Opens p after) = opens_adds p after (w.servers p).life

-- ---- a run

next_led : (first : List ℕ) (t : Tale) (w : World) (m : Machine) (good : Good first m.proposed t w) (h : Happening) → (s : Next first t w m h) → LedIn t w → LedIn s.tale (happens w h)
next_led first t w m good h s k c =
    let a = happens_adds w c h in
    let old : AllLed (IsAmong ((s.tale).members c)) (w.inner c) = ⊎_elim
    (λ (o : t.opened c ≡ true). subst (λ (ms : List ℕ). AllLed (IsAmong ms) (w.inner c)) (sym ((s.onward).members c o)) (k c))
    (λ (o : t.opened c ≡ false). subst (AllLed (IsAmong ((s.tale).members c))) (sym ((good.tale).empty c o) ∙ good.events c) tt) (cases_Bool (t.opened c)) in
    subst (AllLed (IsAmong ((s.tale).members c))) (sym a.3)
    (led_append (IsAmong ((s.tale).members c)) (w.inner c) (events_in w.soup a.0 c a.1) old (inside_led t s.tale s.onward w.soup a.0 (w.servers a.0).state (good.servers a.0).state c a.1 a.2))

-- a world that a run comes to, with its configurations' events
pub record Led (first : List ℕ) (w : World) (m : Machine) : Type 0 where
  pub tale : Tale
  pub good : Good first m.proposed tale w
  pub book : BookOk first tale m
  pub led : LedIn tale w

runs_led : (first : List ℕ) (hs : List Happening) (w : World) (m : Machine) → Led first w m → Led first (run hs w) (machine_after hs w m)
unfolding run machine_after
runs_led first [] w m k = k
runs_led first (h ∷ hs) w m k =
    let s = next first k.tale w m k.good k.book h in
    runs_led first hs (happens w h) (machine_with m w h) (record { tale = s.tale; good = s.good; book = s.book; led = next_led first k.tale w m k.good h s k.led })

at_start : (first : List ℕ) → LedIn (first_tale first) (start first)
unfolding start
at_start first c = tt

-- so it is after every run
pub all_led : (first : List ℕ) (hs : List Happening) → Led first (run hs (start first)) (machine_of first hs)
unfolding machine_of
all_led first hs = runs_led first hs (start first) (first_machine first) (record { tale = first_tale first; good = start_good first (λ c. []); book = first_book first; led = at_start first })
