-- What one happening makes of the pure world, where it is an event at a server.
use Rattle.std.proofs.Common.{◌≡◌, ℕ, Bool, false, cond, List, [], ◌∷◌, ◌++◌, Option, Some, None, refl, sym, ap, ◌∙◌, subst, slice_get, append-nil}
use Rattle.op_paxos.proofs.Updates.{upd_at, upd_other}
use Rattle.op_configurations.specs.Servers as server
use Rattle.op_configurations.specs.Servers.{State, Letter, Fate, Done, Stopped, Inside, Event}
use Rattle.op_configurations.specs.Worlds as worlds
use Rattle.op_configurations.specs.Worlds.{Life, Running, Server, World, Happening, At, Delivers, Stops, is_letter, with_server, stepped, at_server, delivered, stops, happens, run, start}
use Rattle.op_configurations.proofs.Standing.{run_append}
use Rattle.op_refinement.proofs.Inputs.{step_by}
use Rattle.op_refinement.proofs.Worlds.{world_of, state_of}
use Rattle.op_refinement.proofs.Beside.{Goes}

-- what happens late leaves this server, and sends these letters
pub record GoesTo (first : List ℕ) (ks late : List Happening) (p : ℕ) (sv : Server) (sends : List Letter) : Type 0 where
  pub goes : Goes first ks late p
  pub is : goes.sends ≡ sends
  pub here : (world_of first (ks ++ late)).servers p ≡ sv

-- one happening more
pub world_next : (first : List ℕ) (ks : List Happening) (h : Happening) → world_of first (ks ++ h ∷ []) ≡ happens (world_of first ks) h
unfolding run
world_next first ks h = run_append ks (h ∷ []) (start first)

-- nothing happens
pub goes_none : (first : List ℕ) (ks : List Happening) (p : ℕ) → GoesTo first ks [] p ((world_of first ks).servers p) []
goes_none first ks p =
    let same : world_of first (ks ++ []) ≡ world_of first ks = ap (world_of first) (append-nil ks) in
    record {
      goes = record { sends = []; soup = ap (λ (w : World). w.soup) same ∙ sym (append-nil (world_of first ks).soup); others = λ q n. ap (λ (w : World). w.servers q) same };
      is = refl;
      here = ap (λ (w : World). w.servers p) same;
    }

-- the world after is the one with this server
pub goes_with : (first : List ℕ) (ks : List Happening) (h : Happening) (p : ℕ) (sv : Server) (sends : List Letter) (inside : List Inside) → happens (world_of first ks) h ≡ with_server (world_of first ks) p sv sends inside → GoesTo first ks (h ∷ []) p sv sends
goes_with first ks h p sv sends inside e =
    let is : world_of first (ks ++ h ∷ []) ≡ with_server (world_of first ks) p sv sends inside = world_next first ks h ∙ e in
    record {
      goes = record { sends = sends; soup = ap (λ (w : World). w.soup) is; others = λ q n. ap (λ (w : World). w.servers q) is ∙ upd_other (world_of first ks).servers p q sv n };
      is = refl;
      here = ap (λ (w : World). w.servers p) is ∙ upd_at (world_of first ks).servers p sv;
    }

module _ (first : List ℕ) (ks : List Happening) (p : ℕ) (running : ((world_of first ks).servers p).life ≡ Running) where
  abbrev w : World
  w = world_of first ks

  abbrev st : State
  st = state_of first ks p

  -- what an event leaves, by its fate
  abbrev pub left_by : Fate → Event → Server
  left_by Done e = record { state = (server.step Done p st e).state; life = Running }
  left_by Stopped e = record { state = st; life = worlds.Down (Some e) }

  abbrev pub sent_in : Fate → Event → List Letter
  sent_in Done e = (server.step Done p st e).sends
  sent_in Stopped e = []

  abbrev pub inside_by : Fate → Event → List Inside
  inside_by Done e = (server.step Done p st e).inside
  inside_by Stopped e = []

  stepped_is : (f : Fate) (e : Event) → stepped w f p st e ≡ with_server w p (left_by f e) (sent_in f e) (inside_by f e)
  unfolding stepped
  stepped_is Done e = refl
  stepped_is Stopped e = refl

  at_is : (f : Fate) (e : Event) → at_server w f p (w.servers p).life e ≡ with_server w p (left_by f e) (sent_in f e) (inside_by f e)
  unfolding at_server
  at_is f e = ap (λ (l : Life). at_server w f p l e) running ∙ stepped_is f e

  event_is : (f : Fate) (e : Event) → is_letter e ≡ false → happens w (At f p e) ≡ with_server w p (left_by f e) (sent_in f e) (inside_by f e)
  unfolding happens
  event_is f e plain = ap (λ (b : Bool). cond b w (at_server w f p (w.servers p).life e)) plain ∙ at_is f e

  delivery_is : (f : Fate) (n : ℕ) (m : Letter) → slice_get w.soup n ≡ Some m → m.to ≡ p → happens w (Delivers f n) ≡ with_server w p (left_by f (server.Reads n m)) (sent_in f (server.Reads n m)) (inside_by f (server.Reads n m))
  unfolding happens delivered
  delivery_is f n m at to =
      ap (delivered w f (server.Reads n)) at ∙ ap (λ (q : ℕ). at_server w f q (w.servers q).life (server.Reads n m)) to ∙ at_is f (server.Reads n m)

  long_is : (f : Fate) (n total : ℕ) (m : Letter) → slice_get w.soup n ≡ Some m → m.to ≡ p → happens w (worlds.DeliversLong f n total) ≡ with_server w p (left_by f (server.ReadsLong n total m)) (sent_in f (server.ReadsLong n total m)) (inside_by f (server.ReadsLong n total m))
  unfolding happens delivered
  long_is f n total m at to =
      ap (delivered w f (server.ReadsLong n total)) at ∙ ap (λ (q : ℕ). at_server w f q (w.servers q).life (server.ReadsLong n total m)) to ∙ at_is f (server.ReadsLong n total m)

  stops_is : happens w (Stops p) ≡ with_server w p (record { state = st; life = worlds.Down None }) [] []
  unfolding happens stops
  stops_is = ap (stops w p) running

  -- ---- which happening an event with its fate is
  abbrev pub happening_of : Fate → Event → Happening
  happening_of f (server.Reads n m) = Delivers f n
  happening_of f (server.ReadsLong n total m) = worlds.DeliversLong f n total
  happening_of f e = At f p e

  abbrev pub late_of : Fate → Option Event → List Happening
  late_of Done None = []
  late_of Stopped None = Stops p ∷ []
  late_of f (Some e) = happening_of f e ∷ []

  -- a letter that is read was sent to the server
  abbrev pub IfReads : Option Event → Type 0
  IfReads (Some (server.Reads n m)) = (slice_get w.soup n ≡ Some m) × (m.to ≡ p)
  IfReads (Some (server.ReadsLong n total m)) = (slice_get w.soup n ≡ Some m) × (m.to ≡ p)
  IfReads _ = Unit {0}

  event_goes : (f : Fate) (e : Event) → IfReads (Some e) → GoesTo first ks (happening_of f e ∷ []) p (left_by f e) (sent_in f e)
  event_goes f (server.Reads n m) k = goes_with first ks (Delivers f n) p _ _ _ (delivery_is f n m k.0 k.1)
  event_goes f (server.ReadsLong n total m) k = goes_with first ks (worlds.DeliversLong f n total) p _ _ _ (long_is f n total m k.0 k.1)
  event_goes f (server.Ticks o) k = goes_with first ks (At f p (server.Ticks o)) p _ _ _ (event_is f (server.Ticks o) refl)
  event_goes f (server.TicksAlone heard) k = goes_with first ks (At f p (server.TicksAlone heard)) p _ _ _ (event_is f (server.TicksAlone heard) refl)
  event_goes f (server.Proposes e) k = goes_with first ks (At f p (server.Proposes e)) p _ _ _ (event_is f (server.Proposes e) refl)
  event_goes f server.Trims k = goes_with first ks (At f p server.Trims) p _ _ _ (event_is f server.Trims refl)
  event_goes f (server.Links q) k = goes_with first ks (At f p (server.Links q)) p _ _ _ (event_is f (server.Links q) refl)
  event_goes f (server.Unlinks q) k = goes_with first ks (At f p (server.Unlinks q)) p _ _ _ (event_is f (server.Unlinks q) refl)
  event_goes f (server.Notes xs) k = goes_with first ks (At f p (server.Notes xs)) p _ _ _ (event_is f (server.Notes xs) refl)

  -- the world after an event with its fate
  pub event_world : (f : Fate) (e : Event) → IfReads (Some e) → happens w (happening_of f e) ≡ with_server w p (left_by f e) (sent_in f e) (inside_by f e)
  event_world f (server.Reads n m) k = delivery_is f n m k.0 k.1
  event_world f (server.ReadsLong n total m) k = long_is f n total m k.0 k.1
  event_world f (server.Ticks o) k = event_is f (server.Ticks o) refl
  event_world f (server.TicksAlone heard) k = event_is f (server.TicksAlone heard) refl
  event_world f (server.Proposes e) k = event_is f (server.Proposes e) refl
  event_world f server.Trims k = event_is f server.Trims refl
  event_world f (server.Links q) k = event_is f (server.Links q) refl
  event_world f (server.Unlinks q) k = event_is f (server.Unlinks q) refl
  event_world f (server.Notes xs) k = event_is f (server.Notes xs) refl

  -- a step that is done
  pub done_goes : (e : Option Event) → IfReads e → GoesTo first ks (late_of Done e) p (record { state = (step_by Done p st e).state; life = Running }) (step_by Done p st e).sends
  done_goes None k =
      subst (λ (l : Life). GoesTo first ks [] p (record { state = st; life = l }) []) running (goes_none first ks p)
  done_goes (Some e) k = event_goes Done e k

  -- a step inside which the server stops
  pub stopped_goes : (e : Option Event) → IfReads e → GoesTo first ks (late_of Stopped e) p (record { state = st; life = worlds.Down e }) []
  stopped_goes None k = goes_with first ks (Stops p) p (record { state = st; life = worlds.Down None }) [] [] stops_is
  stopped_goes (Some e) k = event_goes Stopped e k
