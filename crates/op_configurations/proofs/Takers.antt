-- What a happening adds inside a configuration, its server takes.
use Rattle.std.proofs.Common.{◌≤◌, arith, length, length-append, ◌≡◌, ◌⊎◌, inl, inr, ℕ, Bool, true, false, cond, ◌==◌, List, [], ◌∷◌, ◌++◌, Option, Some, None, refl, sym, ap, ◌∙◌, subst, append-nil}
use Rattle.std.specs.Prelude.{slice_get}
use Rattle.std.proofs.lemmas.Bool.{cond_both, eqb-true}
use Rattle.op_types.specs.declared.log.Entry.{Entry}
use Rattle.op_paxos.specs.Worlds as paxos
use Rattle.op_paxos.specs.Messages.{Packet}
use Rattle.op_paxos.specs.Exchange.{is_stopped}
use Rattle.op_paxos.specs.Worlds.{Input, Starts}
use Rattle.op_configurations.specs.Servers.{Part, State, Letter, Stepped, Inside, Fate, Done, Stopped, Event, Ticks, TicksAlone, Proposes, Trims, Links, Unlinks, Reads, restarted, step, ReadsLong, without_pieces, Notes}
use Rattle.op_configurations.specs.Worlds.{Life, Running, Down, Server, World, Happening, At, Delivers, Stops, Opens, is_letter, inner_of, events_in, event_in, with_fate, with_server, stepped, at_server, delivered, stops, found, opening_fate, opened, opens, happens, run, start, reader, actor, machine_of, DeliversLong}
use Rattle.op_configurations.proofs.Fronts.{some_same}
use Rattle.op_configurations.proofs.Inside.{events_append}
use Rattle.op_configurations.proofs.Tale.{Tale, EventOk}
use Rattle.op_configurations.proofs.Book.{all_ok}
use Rattle.op_configurations.proofs.Latest.{joins_above}
use Rattle.op_configurations.proofs.Insides.{IsInside, Shape, step_shape, IfSentTo, taken_as}

-- an event is taken by this server
abbrev pub TakenBy : ℕ → paxos.World → paxos.Event → Type 0
TakenBy p V e = (y : ℕ × Input) → paxos.input_of V e ≡ Some y → y.0 ≡ p

-- so are these in any world
abbrev pub AnyTaken : ℕ → List paxos.Event → Type 0
AnyTaken p [] = Unit {0}
AnyTaken p (e ∷ es) = ((V : paxos.World) → TakenBy p V e) × AnyTaken p es

-- and the first of these in one with these packets
abbrev pub AllTaken : List Packet → ℕ → List paxos.Event → Type 0
AllTaken packets p [] = Unit {0}
AllTaken packets p (e ∷ es) = ((V : paxos.World) → V.packets ≡ packets → TakenBy p V e) × AnyTaken p es

taken_first : (p : ℕ) (i : Input) (y : ℕ × Input) → Some (p, i) ≡ Some y → y.0 ≡ p
taken_first p i y e = ap (λ (z : ℕ × Input). z.0) (sym (some_same (p, i) y e))

one_taken : (soup : List Letter) (p c : ℕ) (f : Fate) (st : State) (e : Event) → IfSentTo soup p e → (x : Inside) → IsInside f st e x → (more : List paxos.Event) → AnyTaken p more → AllTaken (inner_of c soup) p (events_in soup p c (x ∷ []) ++ more)
one_taken soup p c f st e sent x k more rest = by (c == x.conf) refl
  where
    first_of : (more : List paxos.Event) → AnyTaken p more → AllTaken (inner_of c soup) p more
    first_of [] r = tt
    first_of (d ∷ more) r = (λ V k. r.0 V, r.1)

    by : (b : Bool) → (c == x.conf) ≡ b → AllTaken (inner_of c soup) p (cond b (event_in soup p x ∷ []) [] ++ more)
    by true h = (λ V packets y is. taken_first p x.input y (sym (taken_as soup p e sent c x (sym (eqb-true c x.conf h)) k.caused V packets) ∙ is), rest)
    by false h = first_of more rest

-- a step, and then these
shape_taken : (soup : List Letter) (p c : ℕ) (f : Fate) (st : State) (e : Event) → IfSentTo soup p e → (xs : List Inside) → Shape f st e xs → (more : List paxos.Event) → AnyTaken p more → AllTaken (inner_of c soup) p (events_in soup p c xs ++ more)
shape_taken soup p c f st e sent xs (inl k) more rest = subst (λ (l : List Inside). AllTaken (inner_of c soup) p (events_in soup p c l ++ more)) (sym k) (first_of more rest)
  where
    first_of : (more : List paxos.Event) → AnyTaken p more → AllTaken (inner_of c soup) p more
    first_of [] r = tt
    first_of (d ∷ more) r = (λ V k. r.0 V, r.1)
shape_taken soup p c f st e sent xs (inr k) more rest = subst (λ (l : List Inside). AllTaken (inner_of c soup) p (events_in soup p c l ++ more)) (sym k.1) (one_taken soup p c f st e sent k.0 k.2 more rest)

-- an opening's own event
starts_taken : (soup : List Letter) (p c : ℕ) (f : Fate) (st : State) (o : Option Part) → AnyTaken p (events_in soup p c (restarted f p st o).inside)
unfolding restarted paxos.input_of
starts_taken soup p c f st None = tt
starts_taken soup p c Done st (Some pt) = by (c == pt.conf)
  where
    by : (b : Bool) → AnyTaken p (cond b (paxos.Restarts p ∷ []) [])
    by true = (λ V y is. taken_first p Starts y is, tt)
    by false = tt
starts_taken soup p c Stopped st (Some pt) = by (c == pt.conf)
  where
    by : (b : Bool) → AnyTaken p (cond b (paxos.Stops (paxos.Restarts p) ∷ []) [])
    by true = (λ V y is. taken_first p Starts y is, tt)
    by false = tt

-- how many they are
events_few : (soup : List Letter) (p c : ℕ) (xs : List Inside) → length (events_in soup p c xs) ≤ length xs
events_few soup p c [] = omega arith
events_few soup p c (x ∷ xs) = cond_both (c == x.conf) (event_in soup p x ∷ events_in soup p c xs) (events_in soup p c xs) (λ l. length l ≤ length (x ∷ xs)) (λ _. omega (arith, events_few soup p c xs)) (λ _. omega (arith, events_few soup p c xs))

shape_few : (f : Fate) (st : State) (e : Event) (xs : List Inside) → Shape f st e xs → length xs ≤ 1
shape_few f st e xs (inl k) = omega (arith, ap (λ l. length l) k)
shape_few f st e xs (inr k) = omega (arith, ap (λ l. length l) k.1)

none_two : (e f : paxos.Event) (es : List paxos.Event) → [] ≡ e ∷ (f ∷ es) → ⊥
none_two e f es h = cc

-- two of them are of more than one step
one_only : (soup : List Letter) (p c : ℕ) (xs : List Inside) → length xs ≤ 1 → (e f : paxos.Event) (es : List paxos.Event) → events_in soup p c xs ≡ e ∷ (f ∷ es) → is_stopped e ≡ true
one_only soup p c xs few e f es h = absurd (omega (arith, ap (λ (l : List paxos.Event). length l) h, events_few soup p c xs, few))

stopped_is : (f : Fate) (e : paxos.Event) → f ≡ Stopped → is_stopped (with_fate f e) ≡ true
stopped_is Stopped e h = refl
stopped_is Done e h = absurd (differ h)
  where
    differ : Done ≡ Stopped → ⊥
    differ h = cc

-- the first of two is of a step that was stopped
stops_first : (soup : List Letter) (p c : ℕ) (st : State) (d : Event) (xs : List Inside) → Shape Stopped st d xs → (ys : List Inside) → length ys ≤ 1 → (e f : paxos.Event) (es : List paxos.Event) → events_in soup p c (xs ++ ys) ≡ e ∷ (f ∷ es) → is_stopped e ≡ true
stops_first soup p c st d xs (inl k) ys few e f es h = one_only soup p c ys few e f es (ap (λ (l : List Inside). events_in soup p c (l ++ ys)) (sym k) ∙ h)
stops_first soup p c st d xs (inr k) ys few e f es h = by (c == (k.0).conf) refl (ap (λ (l : List Inside). events_in soup p c (l ++ ys)) (sym k.1) ∙ h)
  where
    head_is : (a b : paxos.Event) (l m : List paxos.Event) → a ∷ l ≡ b ∷ m → a ≡ b
    head_is a b l m q = cc

    by : (b : Bool) → (c == (k.0).conf) ≡ b → cond (c == (k.0).conf) (event_in soup p k.0 ∷ events_in soup p c ys) (events_in soup p c ys) ≡ e ∷ (f ∷ es) → is_stopped e ≡ true
    by true q z =
        let a : event_in soup p k.0 ∷ events_in soup p c ys ≡ e ∷ (f ∷ es) = ap (λ (b : Bool). cond b (event_in soup p k.0 ∷ events_in soup p c ys) (events_in soup p c ys)) (sym q) ∙ z in
        ap is_stopped (sym (head_is (event_in soup p k.0) e (events_in soup p c ys) (f ∷ es) a)) ∙ stopped_is (k.0).fate _ (k.2).fate
    by false q z =
        let a : events_in soup p c ys ≡ e ∷ (f ∷ es) = ap (λ (b : Bool). cond b (event_in soup p k.0 ∷ events_in soup p c ys) (events_in soup p c ys)) (sym q) ∙ z in
        one_only soup p c ys few e f es a

restarted_few : (f : Fate) (p : ℕ) (st : State) (o : Option Part) → length (restarted f p st o).inside ≤ 1
unfolding restarted
restarted_few f p st None = omega arith
restarted_few f p st (Some pt) = omega arith

-- what a happening adds inside a configuration
pub record Added (w w' : World) (c : ℕ) (o : Option ℕ) : Type 0 where
  pub events : List paxos.Event
  pub inner : w'.inner c ≡ w.inner c ++ events
  pub sends : List Letter
  pub soup : w'.soup ≡ w.soup ++ sends
  pub few : length events ≤ 2
  pub first_stops : (e f : paxos.Event) (es : List paxos.Event) → events ≡ e ∷ (f ∷ es) → is_stopped e ≡ true
  pub taken : (events ≡ []) ⊎ ((p : ℕ) × (o ≡ Some p) × AllTaken (inner_of c w.soup) p events)

module _ (first : List ℕ) (ks : List Happening) (c : ℕ) where
  abbrev w : World
  w = run ks (start first)

  adds_none : (o : Option ℕ) → Added w w c o
  adds_none o = record { events = []; inner = sym (append-nil (w.inner c)); sends = []; soup = sym (append-nil w.soup); few = omega arith; first_stops = λ e f es h. absurd (none_two e f es h); taken = inl refl }

  adds_nothing : (p : ℕ) (sv : Server) (o : Option ℕ) → Added w (with_server w p sv [] []) c o
  adds_nothing p sv o = record { events = []; inner = refl; sends = []; soup = refl; few = omega arith; first_stops = λ e f es h. absurd (none_two e f es h); taken = inl refl }

  adds : (p : ℕ) (sv : Server) (sends : List Letter) (inside : List Inside) (o : Option ℕ) → length inside ≤ 2 → ((e f : paxos.Event) (es : List paxos.Event) → events_in w.soup p c inside ≡ e ∷ (f ∷ es) → is_stopped e ≡ true) → o ≡ Some p → AllTaken (inner_of c w.soup) p (events_in w.soup p c inside) → Added w (with_server w p sv sends inside) c o
  adds p sv sends inside o two stops is t = record { events = events_in w.soup p c inside; inner = refl; sends = sends; soup = refl; few = omega (arith, events_few w.soup p c inside, two); first_stops = stops; taken = inr (p, is, t) }

  shape_at : (f : Fate) (p : ℕ) (e : Event) → Shape f (w.servers p).state e (step f p (w.servers p).state e).inside
  shape_at f p e = step_shape f p (w.servers p).state (λ j has. joins_above first ks p j has) e

  step_adds : (f : Fate) (p : ℕ) (e : Event) → IfSentTo w.soup p e → (o : Option ℕ) → o ≡ Some p → Added w (stepped w f p (w.servers p).state e) c o
  unfolding stepped
  step_adds Done p e sent o is =
      adds p _ _ _ o (omega (arith, shape_few Done (w.servers p).state e _ (shape_at Done p e))) (one_only w.soup p c _ (shape_few Done (w.servers p).state e _ (shape_at Done p e))) is
      (subst (AllTaken (inner_of c w.soup) p) (append-nil (events_in w.soup p c (step Done p (w.servers p).state e).inside)) (shape_taken w.soup p c Done (w.servers p).state e sent _ (shape_at Done p e) [] tt))
  step_adds Stopped p e sent o is = adds_nothing p _ o

  server_adds : (f : Fate) (p : ℕ) (l : Life) (e : Event) → IfSentTo w.soup p e → (o : Option ℕ) → o ≡ Some p → Added w (at_server w f p l e) c o
  unfolding at_server
  server_adds f p Running e sent o is = step_adds f p e sent o is
  server_adds f p (Down x) e sent o is = adds_none o

  found_few : (p : ℕ) (after : Bool) (x : Option Event) → length (found p after (w.servers p).state x).inside ≤ 1
  unfolding found
  found_few p true (Some e) = shape_few Stopped (w.servers p).state e _ (shape_at Stopped p e)
  found_few p true None = omega arith
  found_few p false x = omega arith

  found_stops : (p : ℕ) (after : Bool) (x : Option Event) (ys : List Inside) → length ys ≤ 1 → (e f : paxos.Event) (es : List paxos.Event) → events_in w.soup p c ((found p after (w.servers p).state x).inside ++ ys) ≡ e ∷ (f ∷ es) → is_stopped e ≡ true
  unfolding found
  found_stops p true (Some d) ys few = stops_first w.soup p c (w.servers p).state d _ (shape_at Stopped p d) ys few
  found_stops p true None ys few = one_only w.soup p c ys few
  found_stops p false x ys few = one_only w.soup p c ys few

  -- an event that is no letter
  plain_sent : (p : ℕ) (e : Event) → is_letter e ≡ false → IfSentTo w.soup p e
  plain_sent p (Reads n l) k = absurd (Rattle.std.proofs.lemmas.Bool.true≢false k)
  plain_sent p (ReadsLong n total l) k = absurd (Rattle.std.proofs.lemmas.Bool.true≢false k)
  plain_sent p (Ticks n) k = tt
  plain_sent p (TicksAlone heard) k = tt
  plain_sent p (Proposes es) k = tt
  plain_sent p Trims k = tt
  plain_sent p (Links q) k = tt
  plain_sent p (Unlinks q) k = tt
  plain_sent p (Notes xs) k = tt

  -- the event that a server stopped in
  pending_sent : (p : ℕ) (e : Event) → (w.servers p).life ≡ Down (Some e) → IfSentTo w.soup p e
  pending_sent p e down = by (machine_of first ks).proposed (all_ok first ks).tale e ((((all_ok first ks).good).servers p).pending e down)
    where
      by : (pr : ℕ → List Entry) (t : Tale) (e : Event) → EventOk pr t w.soup p (w.servers p).state e → IfSentTo w.soup p e
      by pr t (Reads n l) k = (k.2, k.1)
      by pr t (ReadsLong n total l) k = (k.2, k.1)
      by pr t (Ticks n) k = tt
      by pr t (TicksAlone heard) k = tt
      by pr t (Proposes es) k = tt
      by pr t Trims k = tt
      by pr t (Links q) k = tt
      by pr t (Unlinks q) k = tt
      by pr t (Notes xs) k = tt

  found_taken : (p : ℕ) (after : Bool) (x : Option Event) → (w.servers p).life ≡ Down x → (more : List paxos.Event) → AnyTaken p more → AllTaken (inner_of c w.soup) p (events_in w.soup p c (found p after (w.servers p).state x).inside ++ more)
  unfolding found
  found_taken p true (Some e) down more rest = shape_taken w.soup p c Stopped (w.servers p).state e (pending_sent p e down) _ (shape_at Stopped p e) more rest
  found_taken p true None down more rest = shape_taken w.soup p c Stopped (w.servers p).state Trims tt [] (inl refl) more rest
  found_taken p false x down more rest = shape_taken w.soup p c Stopped (w.servers p).state Trims tt [] (inl refl) more rest

  opens_adds : (p : ℕ) (after : Bool) (l : Life) → (w.servers p).life ≡ l → Added w (opens w p after l) c (Some p)
  unfolding opens opened
  opens_adds p after Running life = adds_none (Some p)
  opens_adds p after (Down x) life =
      let o : Stepped = found p after (w.servers p).state x in
      let st : State = without_pieces o.state in
      let k : Stepped = restarted (opening_fate st.joining) p st (o.state).part in
      adds p _ _ (o.inside ++ k.inside) (Some p) (omega (arith, length-append o.inside k.inside, found_few p after x, restarted_few (opening_fate st.joining) p st (o.state).part))
      (found_stops p after x k.inside (restarted_few (opening_fate st.joining) p st (o.state).part)) refl
      (subst (AllTaken (inner_of c w.soup) p) (sym (events_append w.soup p c o.inside k.inside))
      (found_taken p after x life (events_in w.soup p c k.inside) (starts_taken w.soup p c (opening_fate st.joining) st (o.state).part)))

  stops_adds : (p : ℕ) (l : Life) → Added w (stops w p l) c (Some p)
  unfolding stops
  stops_adds p Running = adds_nothing p _ (Some p)
  stops_adds p (Down x) = adds_none (Some p)

  delivers_adds : (f : Fate) (read : Letter → Event) (o : Option Letter) → ((l : Letter) → o ≡ Some l → IfSentTo w.soup l.to (read l)) → Added w (delivered w f read o) c (reader o)
  unfolding delivered
  delivers_adds f read None sent = adds_none None
  delivers_adds f read (Some l) sent = server_adds f l.to (w.servers l.to).life (read l) (sent l refl) (Some l.to) refl

  -- whatever happens
  pub happening_adds : (h : Happening) → Added w (happens w h) c (actor w h)
  unfolding happens
  happening_adds (At f p e) =
      cond_both (is_letter e) w (at_server w f p (w.servers p).life e) (λ (v : World). Added w v c (Some p)) (λ _. adds_none (Some p)) (λ plain. server_adds f p (w.servers p).life e (plain_sent p e plain) (Some p) refl)
  happening_adds (Delivers f n) = delivers_adds f (Reads n) (slice_get w.soup n) (λ l at. (at, refl))
  happening_adds (DeliversLong f n total) = delivers_adds f (ReadsLong n total) (slice_get w.soup n) (λ l at. (at, refl))
  happening_adds (Stops p) = stops_adds p (w.servers p).life
  happening_adds (Opens p after) = opens_adds p after (w.servers p).life refl
