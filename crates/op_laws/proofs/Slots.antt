-- What a happening adds inside one configuration, as two events of it: those that it adds, behind deliveries of nothing.
use Rattle.std.proofs.Common.{◌≡◌, ◌<◌, ◌≤◌, ◌⊎◌, inl, inr, ⊎_elim, ℕ, zero, suc, ◌+◌, List, [], ◌∷◌, length, take, Option, Some, None, refl, sym, ap, ◌∙◌, arith, slice_get}
use Rattle.std.proofs.Math.Seq.{take-nil}
use Rattle.op_paxos.specs.Messages.{Packet}
use Rattle.op_paxos.specs.Worlds as paxos
use Rattle.op_paxos.specs.Worlds.{World, Event, Delivers, Input, input_of, happens, run}
use Rattle.op_paxos.specs.Exchange as px
use Rattle.op_paxos.proofs.NumberedWorlds.{Next, next}
use Rattle.op_configurations.proofs.Takers.{AllTaken}

none_some : {A : Type 0} (a : A) → None ≡ Some a → ⊥
none_some a e = cc

some_same : {A : Type 0} (a b : A) → Some a ≡ Some b → a ≡ b
some_same a b e = cc

-- ---- numbers

abbrev pub double : ℕ → ℕ
double zero = zero
double (suc n) = suc (suc (double n))

pub double_is : (n : ℕ) → double n ≡ n + n
double_is zero = omega arith
double_is (suc n) = omega (arith, double_is n)

abbrev pub half : ℕ → ℕ
half zero = zero
half (suc zero) = zero
half (suc (suc n)) = suc (half n)

pub half_odd : (n : ℕ) → half (suc (double n)) ≡ n
half_odd zero = refl
half_odd (suc n) = ap suc (half_odd n)

-- a number is that of a first event or of a second one
pub parity : (m : ℕ) → (j : ℕ) × ((m ≡ double j) ⊎ (m ≡ suc (double j)))
parity zero = (0, inl refl)
parity (suc zero) = (0, inr refl)
parity (suc (suc m)) = let r = parity m in (suc r.0, ⊎_elim (λ e. inl (ap (λ n. suc (suc n)) e)) (λ e. inr (ap (λ n. suc (suc n)) e)) r.1)

-- ---- two events of a list

abbrev pub first_of : Event → List Event → Event
first_of z [] = z
first_of z (e ∷ []) = z
first_of z (e ∷ (f ∷ es)) = e

abbrev pub second_of : Event → List Event → Event
second_of z [] = z
second_of z (e ∷ []) = e
second_of z (e ∷ (f ∷ es)) = f

past_end : (ps : List Packet) → slice_get ps (length ps) ≡ None
past_end [] = refl
past_end (p ∷ ps) = past_end ps

-- a delivery of no packet
pub nothing_comes : (w : World) → input_of w (Delivers (length w.packets)) ≡ None
unfolding input_of
nothing_comes w = ap (λ (o : Option Packet). paxos.taken_by w (Delivers (length w.packets)) o) (past_end w.packets)

module _ (ms : List ℕ) (w : World) (z : Event) (none_ : input_of w z ≡ None) where
  -- does nothing
  pub nothing_happens : happens ms w z ≡ w
  unfolding happens
  nothing_happens = ap (λ (o : Option (ℕ × Input)). paxos.applied ms w (paxos.fate_of z) o) none_

  -- the two events are the list
  pub both_happen : (es : List Event) → length es ≤ 2 → happens ms (happens ms w (first_of z es)) (second_of z es) ≡ run ms es w
  unfolding run
  both_happen [] few = ap (λ (v : World). happens ms v z) nothing_happens ∙ nothing_happens
  both_happen (e ∷ []) few = ap (λ (v : World). happens ms v e) nothing_happens
  both_happen (e ∷ (f ∷ [])) few = refl
  both_happen (e ∷ (f ∷ (g ∷ es))) few = absurd (omega (arith, few))

  -- neither is taken by another than who takes the list
  pub other_first : (a x : ℕ) → (x ≡ a → ⊥) → (es : List Event) → AllTaken w.packets a es → (i : Input) → input_of w (first_of z es) ≡ Some (x, i) → ⊥
  other_first a x n [] k i e = none_some (x, i) (sym none_ ∙ e)
  other_first a x n (d ∷ []) k i e = none_some (x, i) (sym none_ ∙ e)
  other_first a x n (d ∷ (f ∷ es)) k i e = n (k.0 w refl (x, i) e)

  pub other_second : (a x : ℕ) → (x ≡ a → ⊥) → (es : List Event) → AllTaken w.packets a es → (i : Input) → input_of (happens ms w (first_of z es)) (second_of z es) ≡ Some (x, i) → ⊥
  other_second a x n [] k i e = none_some (x, i) (sym none_ ∙ sym (ap (λ (v : World). input_of v z) nothing_happens) ∙ e)
  other_second a x n (d ∷ []) k i e = n (k.0 w refl (x, i) (sym (ap (λ (v : World). input_of v d) nothing_happens) ∙ e))
  other_second a x n (d ∷ (f ∷ es)) k i e = n ((k.1).0 (happens ms w d) (x, i) e)

-- a node that takes nothing stays
pub untouched : (ms : List ℕ) (w : World) (e : Event) (x : ℕ) → ((i : Input) → input_of w e ≡ Some (x, i) → ⊥) → (happens ms w e).nodes x ≡ w.nodes x
unfolding happens
untouched ms w e x h = by (input_of w e) refl
  where
    by : (o : Option (ℕ × Input)) → input_of w e ≡ o → (paxos.applied ms w (paxos.fate_of e) o).nodes x ≡ w.nodes x
    by None k = refl
    by (Some y) k = Rattle.op_paxos.proofs.Updates.upd_other w.nodes y.0 x _ (λ s. h y.1 (k ∙ ap (λ (q : ℕ). let r : ℕ × Input = (q, y.1) in Some r) (sym s)))

-- ---- the worlds of a run, from slot to slot

module _ (ms : List ℕ) (W : ℕ → World) (one two : ℕ → Event) (ends : (j : ℕ) → happens ms (happens ms (W j) (one j)) (two j) ≡ W (suc j)) where
  -- the events from slot j on, of so many
  abbrev pub slots : ℕ → ℕ → List Event
  slots j zero = []
  slots j (suc n) = one j ∷ two j ∷ slots (suc j) n

  stays : (over : ℕ) → ((j : ℕ) → over ≤ j → W (suc j) ≡ W j) → (i j : ℕ) → over ≤ j → W j ≡ W (j + i)
  stays over same zero j h = ap W (let e : j ≡ j + 0 = omega arith in e)
  stays over same (suc i) j h = stays over same i j h ∙ sym (same (j + i) (omega (arith, h))) ∙ ap W (let e : suc (j + i) ≡ j + suc i = omega arith in e)

  -- before slot i there is its world
  pub before_slot : (n j i : ℕ) → ((l : ℕ) → j + n ≤ l → W (suc l) ≡ W l) → px.world_before ms (W j) (slots j n) (double i) ≡ W (j + i)
  unfolding run
  before_slot zero j i same = ap (λ (es : List Event). run ms es (W j)) (take-nil (double i)) ∙ stays j (λ l h. same l (omega (arith, h))) i j (omega arith)
  before_slot (suc n) j zero same = ap W (let e : j ≡ j + 0 = omega arith in e)
  before_slot (suc n) j (suc i) same =
      ap (λ (w : World). run ms (take (double i) (slots (suc j) n)) w) (ends j) ∙ before_slot n (suc j) i (λ l h. same l (omega (arith, h))) ∙ ap W (let e : suc j + i ≡ j + suc i = omega arith in e)

  -- its events
  pub slot_get : (n j i : ℕ) → i < n → (slice_get (slots j n) (double i) ≡ Some (one (j + i))) × (slice_get (slots j n) (suc (double i)) ≡ Some (two (j + i)))
  slot_get zero j i h = absurd (omega (arith, h))
  slot_get (suc n) j zero h = let e : j ≡ j + 0 = omega arith in (ap (λ l. Some (one l)) e, ap (λ l. Some (two l)) e)
  slot_get (suc n) j (suc i) h =
      let r = slot_get n (suc j) i (omega (arith, h)) in
      let e : suc j + i ≡ j + suc i = omega arith in
      (r.0 ∙ ap (λ l. Some (one l)) e, r.1 ∙ ap (λ l. Some (two l)) e)

  -- behind them there are none
  pub slot_none : (n j i : ℕ) → n ≤ i → (slice_get (slots j n) (double i) ≡ None) × (slice_get (slots j n) (suc (double i)) ≡ None)
  slot_none zero j i h = (refl, refl)
  slot_none (suc n) j zero h = absurd (omega (arith, h))
  slot_none (suc n) j (suc i) h = slot_none n (suc j) i (omega (arith, h))

  -- and all of them lead to the last world
  pub all_slots : (n j : ℕ) → run ms (slots j n) (W j) ≡ W (j + n)
  unfolding run
  all_slots zero j = ap W (let e : j ≡ j + 0 = omega arith in e)
  all_slots (suc n) j = ap (λ (w : World). run ms (slots (suc j) n) w) (ends j) ∙ all_slots n (suc j) ∙ ap W (let e : suc j + n ≡ j + suc n = omega arith in e)

-- an event that there is leads on
pub next_event : (ms : List ℕ) (w : World) (es : List Event) (i : ℕ) (e : Event) → slice_get es i ≡ Some e → px.world_before ms w es (suc i) ≡ happens ms (px.world_before ms w es i) e
next_event ms w es i e at = by (next ms w es i)
  where
    by : Next ms w es i → px.world_before ms w es (suc i) ≡ happens ms (px.world_before ms w es i) e
    by (inl z) = absurd (none_some e (sym z.0 ∙ at))
    by (inr z) = z.2 ∙ ap (happens ms (px.world_before ms w es i)) (some_same z.0 e (sym z.1 ∙ at))

-- and where there is none, the world stays
pub next_none : (ms : List ℕ) (w : World) (es : List Event) (i : ℕ) → slice_get es i ≡ None → px.world_before ms w es (suc i) ≡ px.world_before ms w es i
next_none ms w es i at = by (next ms w es i)
  where
    by : Next ms w es i → px.world_before ms w es (suc i) ≡ px.world_before ms w es i
    by (inl z) = z.1
    by (inr z) = absurd (none_some z.0 (sym at ∙ z.1))
