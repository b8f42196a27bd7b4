-- What a step is inside its configuration: nothing, or one input of its server there, with what caused it.
use Rattle.std.proofs.Common.{◌≡◌, ◌<◌, ◌≤◌, ◌⊎◌, inl, inr, ℕ, ◌+◌, Bool, true, cond, not, ◌&&◌, ◌||◌, ◌==◌, List, [], ◌∷◌, length, Option, Some, None, is_some, refl, sym, ap, ◌∙◌, subst, arith}
use Rattle.std.specs.Prelude.{nat_eq, nat_lt, nat_le, slice_get}
use Rattle.std.specs.Set.{is_member}
use Rattle.std.proofs.lemmas.Bool.{cond_both, eqb-true}
use Rattle.op_types.specs.declared.log.Entry.{Entry}
use Rattle.op_paxos.specs.Worlds as paxos
use Rattle.op_paxos.specs.Messages.{Msg, Packet, packet}
use Rattle.op_paxos.specs.Worlds.{Input, Elected, Proposal, Comes, Up, CutOff, Down, Starts, TrimNow}
use Rattle.op_configurations.specs.Servers.{Part, Closed, Joining, State, Letter, Body, Inner, HeartbeatRequest, HeartbeatReply, NextConf, AskBase, BasePart, BasePiece, AskSegment, Segment, Fate, Done as ServerDone, Stopped as ServerStopped, Stepped, Inside, Event, Ticks, TicksAlone, Proposes, Trims, Links, Unlinks, Reads, acted, acted_in, restarted, started, based, got_segment, inner, answers_beat, takes, is_request, sought, seeks, reads, is_for_joining, is_ahead, latest, latest_in, led, ticks_in, ticks_alone_in, links_in, step, may_propose, ReadsLong, BaseStage, has_all, completed, is_piece, pieced, asks_base, answers_long, Notes}
use Rattle.op_configurations.specs.Worlds.{inner_of, place_in, with_fate, plain_event, event_in}
use Rattle.op_configurations.proofs.Inside.{inner_place}

-- what caused an input inside a configuration
abbrev pub Caused : Event → ℕ → ℕ → Input → Type 0
Caused e conf number (Comes q m) = (l : Letter) × (e ≡ Reads number l) × (l.body ≡ Inner m) × (l.from ≡ q) × (l.conf ≡ conf)
Caused e conf number (Down q) = e ≡ Unlinks q
Caused e conf number _ = Unit {0}

-- an input inside a configuration, of a server that knows no later one; it starts there alone where it was joining it
pub record IsInside (f : Fate) (st : State) (e : Event) (x : Inside) : Type 0 where
  pub fate : x.fate ≡ f
  pub known : latest st ≤ x.conf
  pub caused : Caused e x.conf x.number x.input
  pub starts : x.input ≡ Starts → is_some st.joining ≡ true

-- nothing, or one
abbrev pub Shape : Fate → State → Event → List Inside → Type 0
Shape f st e xs = (xs ≡ []) ⊎ ((x : Inside) × (xs ≡ x ∷ []) × IsInside f st e x)

elected_starts : (n : ℕ) → Elected n ≡ Starts → ⊥
elected_starts n e = cc

proposal_starts : (es : List Entry) → Proposal es ≡ Starts → ⊥
proposal_starts es e = cc

comes_starts : (q : ℕ) (m : Msg) → Comes q m ≡ Starts → ⊥
comes_starts q m e = cc

up_starts : (q : ℕ) → Up q ≡ Starts → ⊥
up_starts q e = cc

cut_off_starts : (heard : ℕ → Bool) → CutOff heard ≡ Starts → ⊥
cut_off_starts heard e = cc

down_starts : (q : ℕ) → Down q ≡ Starts → ⊥
down_starts q e = cc

trim_starts : TrimNow ≡ Starts → ⊥
trim_starts e = cc

module _ (f : Fate) (p : ℕ) (st : State) (above : (j : Joining) → st.joining ≡ Some j → latest st < j.conf) where
  nothing : {g : Fate} (e : Event) → Shape g st e []
  nothing {g} e = inl refl

  either : (e : Event) (b : Bool) (x y : Stepped) → Shape f st e x.inside → Shape f st e y.inside → Shape f st e (cond b x y).inside
  either e b x y k l = cond_both b x y (λ (o : Stepped). Shape f st e o.inside) (λ _. k) (λ _. l)

  acted_shape : (e : Event) (g : Fate) (pt : Part) → st.part ≡ Some pt → (n : ℕ) (i : Input) → (i ≡ Starts → ⊥) → Caused e pt.conf n i → Shape g st e (acted g p st pt n i).inside
  unfolding acted
  acted_shape e g pt has n i not_start caused =
      inr (
        record { conf = pt.conf; fate = g; input = i; number = n },
        refl,
        record {
          fate = refl;
          known = omega (arith, ap (λ (o : Option Part). latest_in o st.closed) has);
          caused = caused;
          starts = λ s. absurd (not_start s);
        },
      )

  acted_in_shape : (e : Event) (o : Option Part) → st.part ≡ o → (i : Input) → (i ≡ Starts → ⊥) → ((c : ℕ) → Caused e c 0 i) → Shape f st e (acted_in f p st o i).inside
  acted_in_shape e None has i not_start caused = nothing e
  acted_in_shape e (Some pt) has i not_start caused = acted_shape e f pt has 0 i not_start (caused pt.conf)

  started_shape : (e : Event) (i : Joining) → st.joining ≡ Some i → (j : Joining) → j.conf ≡ i.conf → (o : Option (List Entry)) → Shape f st e (started f p st j o).inside
  unfolding started restarted
  started_shape e i has j same None = nothing e
  started_shape e i has j same (Some l) =
      inr (record { conf = j.conf; fate = f; input = Starts; number = 0 }, refl, record { fate = refl; known = omega (arith, above i has, same); caused = tt; starts = λ s. ap (λ (o : Option Joining). is_some o) has })

  based_shape : (e : Event) (o : Option Joining) → st.joining ≡ o → (c at : ℕ) (front : List Entry) → Shape f st e (based f p st o c at front).inside
  unfolding based
  based_shape e None has c at front = nothing e
  based_shape e (Some j) has c at front =
      either e ((j.conf == c) && (not (is_some j.base) && nat_le at j.len)) _ _ (started_shape e j has _ refl _) (nothing e)

  completed_shape : (e : Event) (j : Joining) → st.joining ≡ Some j → (at : ℕ) (front : List Entry) (total : ℕ) (s : BaseStage) → Shape f st e (completed f p st j at front total s).inside
  unfolding completed
  completed_shape e j has at front total s = either e (has_all s.has total) _ _ (started_shape e j has _ refl _) (nothing e)

  pieced_shape : (e : Event) (o : Option Joining) → st.joining ≡ o → (c at total from_at count : ℕ) (front : List Entry) → Shape f st e (pieced f p st o c at total from_at count front).inside
  unfolding pieced
  pieced_shape e None has c at total from_at count front = nothing e
  pieced_shape e (Some j) has c at total from_at count front =
      either e ((j.conf == c) && is_piece j at total from_at count) _ _ (completed_shape e j has at front total _) (nothing e)

  answers_shape : (e : Event) (total : ℕ) (m : Letter) → Shape f st e (answers_long p st total m).inside
  unfolding answers_long
  answers_shape e total m = either e (asks_base m.body && (m.conf == latest st)) _ _ (nothing e) (nothing e)

  segment_shape : (e : Event) (o : Option Joining) → st.joining ≡ o → (c a : ℕ) (es : List Entry) → Shape f st e (got_segment f p st o c a es).inside
  unfolding got_segment
  segment_shape e None has c a es = nothing e
  segment_shape e (Some j) has c a es =
      either e ((j.conf == c) && (nat_lt 0 (length es) && nat_le (a + length es) j.len)) _ _ (started_shape e j has _ refl _) (nothing e)

  inner_shape : (o : Option Part) → st.part ≡ o → (n : ℕ) (l : Letter) (m : Msg) → l.body ≡ Inner m → Shape f st (Reads n l) (inner f p st o n l.from l.conf m).inside
  unfolding inner
  inner_shape None has n l m is = nothing (Reads n l)
  inner_shape (Some pt) has n l m is =
      cond_both (pt.conf == l.conf) _ _ (λ (o : Stepped). Shape f st (Reads n l) o.inside)
      (λ h. acted_shape (Reads n l) f pt has n (Comes l.from m) (comes_starts l.from m) (l, refl, is, refl, sym (eqb-true pt.conf l.conf h))) (λ _. nothing (Reads n l))

  beat_shape : (e : Event) (o : Option Part) (q c : ℕ) → Shape f st e (answers_beat p st o q c).inside
  beat_shape e None q c = nothing e
  beat_shape e (Some pt) q c = nothing e

  takes_shape : (n : ℕ) (l : Letter) (b : Body) → l.body ≡ b → Shape f st (Reads n l) (takes f p st n l.from l.conf b).inside
  unfolding takes
  takes_shape n l (Inner m) is = inner_shape st.part refl n l m is
  takes_shape n l HeartbeatRequest is = beat_shape (Reads n l) st.part l.from l.conf
  takes_shape n l HeartbeatReply is = nothing (Reads n l)
  takes_shape n l (NextConf members olds len t) is = nothing (Reads n l)
  takes_shape n l AskBase is = nothing (Reads n l)
  takes_shape n l (BasePart at front) is = based_shape (Reads n l) st.joining refl l.conf at front
  takes_shape n l (BasePiece at total from_at count front) is = pieced_shape (Reads n l) st.joining refl l.conf at total from_at count front
  takes_shape n l (AskSegment a b) is = nothing (Reads n l)
  takes_shape n l (Segment a es) is = segment_shape (Reads n l) st.joining refl l.conf a es

  sought_shape : (e : Event) (g : Fate) (o : Option Part) → st.part ≡ o → (k : Option Closed) → st.closed ≡ k → (q : ℕ) → Shape g st e (sought g p st o k q).inside
  unfolding sought
  sought_shape e g (Some pt) has k is q = acted_shape e g pt has 0 (Up q) (up_starts q) tt
  sought_shape e ServerDone None has (Some k) is q =
      inr (
        record { conf = _; fate = ServerDone; input = Up q; number = 0 },
        refl,
        record {
          fate = refl;
          known = omega (arith, ap (λ (o : Option Part). latest_in o st.closed) has, ap (λ (o : Option Closed). latest_in None o) is);
          caused = tt;
          starts = λ s. absurd (up_starts q s);
        },
      )
  sought_shape e ServerStopped None has (Some k) is q = nothing e
  sought_shape e g None has None is q = nothing e

  seeks_shape : (e : Event) (q : ℕ) (b : Body) → Shape f st e (seeks f p st q b).inside
  unfolding seeks
  seeks_shape e q b = either e (is_some st.joining || is_request b) _ _ (nothing e) (sought_shape e f st.part refl st.closed refl q)

  reads_shape : (n : ℕ) (l : Letter) → Shape f st (Reads n l) (reads f p st n l).inside
  unfolding reads
  reads_shape n l =
      either (Reads n l) (is_some st.joining && not (is_for_joining l.body)) _ _ (nothing (Reads n l))
      (either (Reads n l) (nat_lt l.conf (latest st)) _ _ (nothing (Reads n l))
      (either (Reads n l) (nat_lt (latest st) l.conf && not (is_ahead l.body)) _ _ (seeks_shape (Reads n l) l.from l.body) (takes_shape n l l.body refl)))

  led_shape : (e : Event) (pt : Part) → st.part ≡ Some pt → (n : Option ℕ) → Shape f st e (led f p st pt n).inside
  unfolding led
  led_shape e pt has None = nothing e
  led_shape e pt has (Some n) = acted_shape e f pt has 0 (Elected n) (elected_starts n) tt

  ticks_shape : (e : Event) (j : Option Joining) (o : Option Part) → st.part ≡ o → (n : Option ℕ) → Shape f st e (ticks_in f p st j o n).inside
  ticks_shape e (Some j) o has n = nothing e
  ticks_shape e None None has n = nothing e
  ticks_shape e None (Some pt) has n = led_shape e pt has n

  ticks_alone_shape : (e : Event) (j : Option Joining) (o : Option Part) → st.part ≡ o → (heard : ℕ → Bool) → Shape f st e (ticks_alone_in f p st j o heard).inside
  ticks_alone_shape e (Some j) o has heard = nothing e
  ticks_alone_shape e None None has heard = nothing e
  ticks_alone_shape e None (Some pt) has heard = acted_shape e f pt has 0 (CutOff heard) (cut_off_starts heard) tt

  links_shape : (e : Event) (j : Option Joining) (q : ℕ) (o : Option Part) → st.part ≡ o → Shape f st e (links_in f p st j q o).inside
  links_shape e (Some j) q o has = nothing e
  links_shape e None q None has = nothing e
  links_shape e None q (Some pt) has = either e (is_member nat_eq pt.members q && not (q == p)) _ _ (acted_shape e f pt has 0 (Up q) (up_starts q) tt) (nothing e)

  -- whatever happens at a server
  pub step_shape : (e : Event) → Shape f st e (step f p st e).inside
  unfolding step
  step_shape (Ticks n) = ticks_shape (Ticks n) st.joining st.part refl n
  step_shape (TicksAlone heard) = ticks_alone_shape (TicksAlone heard) st.joining st.part refl heard
  step_shape (Proposes es) = either (Proposes es) (may_propose p st st.part es) _ _ (acted_in_shape (Proposes es) st.part refl (Proposal es) (proposal_starts es) (λ c. tt)) (nothing (Proposes es))
  step_shape Trims = acted_in_shape Trims st.part refl TrimNow trim_starts (λ c. tt)
  step_shape (Links q) = links_shape (Links q) st.joining q st.part refl
  step_shape (Unlinks q) = acted_in_shape (Unlinks q) st.part refl (Down q) (down_starts q) (λ c. refl)
  step_shape (Notes xs) = nothing (Notes xs)
  step_shape (Reads n l) = reads_shape n l
  step_shape (ReadsLong n total l) = answers_shape (ReadsLong n total l) total l

-- ---- as events of the configuration

-- a letter that is read was sent to the server
abbrev pub IfSentTo : List Letter → ℕ → Event → Type 0
IfSentTo soup p (Reads n l) = (slice_get soup n ≡ Some l) × (l.to ≡ p)
IfSentTo soup p (ReadsLong n total l) = (slice_get soup n ≡ Some l) × (l.to ≡ p)
IfSentTo soup p _ = Unit {0}

same_input : (f : Fate) (V : paxos.World) (e : paxos.Event) → paxos.input_of V (with_fate f e) ≡ paxos.input_of V e
unfolding paxos.input_of
same_input ServerDone V e = refl
same_input ServerStopped V e = refl

-- it is taken by the server, as this input
pub taken_as : (soup : List Letter) (p : ℕ) (e : Event) → IfSentTo soup p e → (c : ℕ) (x : Inside) → x.conf ≡ c → Caused e x.conf x.number x.input → (V : paxos.World) → V.packets ≡ inner_of c soup → paxos.input_of V (event_in soup p x) ≡ Some (p, x.input)
unfolding paxos.input_of
taken_as soup p e sent c x here caused V packets = same_input x.fate V (plain_event (place_in x.conf x.number soup) p x.input) ∙ by x.input caused
  where
    letter_at : (e : Event) → IfSentTo soup p e → (n : ℕ) (l : Letter) → e ≡ Reads n l → (slice_get soup n ≡ Some l) × (l.to ≡ p)
    letter_at e s n l is = subst (IfSentTo soup p) is s

    by : (i : Input) → Caused e x.conf x.number i → paxos.input_of V (plain_event (place_in x.conf x.number soup) p i) ≡ Some (p, i)
    by (Elected n) k = refl
    by (Proposal es) k = refl
    by (Up q) k = refl
    by (CutOff heard) k = refl
    by (Down q) k = refl
    by Starts k = refl
    by TrimNow k = refl
    by (Comes q m) k =
        let l : Letter = k.0 in
        let at = letter_at e sent x.number l k.1 in
        let got : slice_get V.packets (place_in x.conf x.number soup) ≡ Some (packet q p m) =
        ap (λ (ps : List Packet). slice_get ps (place_in x.conf x.number soup)) (packets ∙ ap (λ (z : ℕ). inner_of z soup) (sym here ∙ sym k.4))
        ∙ ap (λ (z : ℕ). slice_get (inner_of l.conf soup) (place_in z x.number soup)) (sym k.4)
        ∙ inner_place soup x.number l m at.0 k.2 ∙ ap (λ (z : ℕ). Some (packet z l.to m)) k.3 ∙ ap (λ (z : ℕ). Some (packet q z m)) at.1 in
        ap (λ (o : Option Packet). paxos.taken_by V (paxos.Delivers (place_in x.conf x.number soup)) o) got
