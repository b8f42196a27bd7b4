-- One completed exchange of a ballot's leader with others that make it a majority, and what that decides.
use Rattle.std.specs.Prelude.{◌≡◌, ℕ, suc, ◌+◌, ◌<◌, ◌≤◌, ◌⊎◌, Bool, true, false, ◌==◌, Some, List, [], ◌∷◌, ◌++◌, length, take, slice_get}
use Rattle.op_types.specs.declared.log.Entry.{Entry}
use Rattle.op_paxos.specs.Ledger.{refuses, ledger, known}
use Rattle.op_types.specs.Limits.{positions_end}
use Rattle.op_spec.specs.Machine.{IsAmong}
use Rattle.op_paxos.specs.Logs.{has_stop, fitting}
use Rattle.op_paxos.specs.Nodes.{Promised, PreparingState, LeadingState, Preparing, Leading, Node, majority_passes}
use Rattle.op_paxos.specs.Messages.{Msg, Prepare, Accept, Accepted, packet}
use Rattle.op_paxos.specs.Parts.{promise_messages, sync_messages}
use Rattle.op_paxos.specs.Worlds.{Input, Down, Starts, World, Event, Proposes, Delivers, Stops, input_of, run, start}

-- ---- events by number

-- the world before event number i of these, which begin in w
abbrev pub world_before : List ℕ → World → List Event → ℕ → World
world_before members w events i = run members (take i events) w

-- node p before event number i
abbrev pub node_before : List ℕ → World → List Event → ℕ → ℕ → Node
node_before members w events i p = (world_before members w events i).nodes p

-- packet number k is this message from p to q
abbrev pub IsPacket : World → ℕ → ℕ → ℕ → Msg → Type 0
IsPacket w k p q m = slice_get w.packets k ≡ Some (packet p q m)

-- event number i delivers this message from p to q
pub record Delivery (members : List ℕ) (w : World) (events : List Event) (i p q : ℕ) (m : Msg) : Type 0 where
  pub number : ℕ
  pub event : slice_get events i ≡ Some (Delivers number)
  pub is : IsPacket (world_before members w events i) number p q m

-- between events number i and j x takes no step
abbrev pub RestsBetween : List ℕ → World → List Event → ℕ → ℕ → ℕ → Type 0
RestsBetween members w events x i j =
    (k : ℕ) (e : Event) (input : Input) → i < k → k < j → slice_get events k ≡ Some e
    → input_of (world_before members w events k) e ≡ Some (x, input) → ⊥

-- these messages from p to q are delivered one after the other, the first at event number i
-- and the last at event number j, with no other step of q between
abbrev pub InTurn : List ℕ → World → List Event → ℕ → ℕ → ℕ → ℕ → List Msg → Type 0
InTurn members w events i j p q [] = ⊥
InTurn members w events i j p q (m ∷ []) = (i ≡ j) × Delivery members w events i p q m
InTurn members w events i j p q (m ∷ (k ∷ messages)) =
    Delivery members w events i p q m × ((h : ℕ) × (i < h) × RestsBetween members w events q i h ×
    InTurn members w events h j p q (k ∷ messages))

-- at event number i p sends q this message
pub record Sending (members : List ℕ) (w : World) (events : List Event) (i p q : ℕ) (m : Msg) : Type 0 where
  pub number : ℕ
  pub new : length (world_before members w events i).packets ≤ number
  pub is : IsPacket (world_before members w events (suc i)) number p q m

-- at event number i p sends q all of these messages
abbrev pub SendsAll : List ℕ → World → List Event → ℕ → ℕ → ℕ → List Msg → Type 0
SendsAll members w events i p q messages = (m : Msg) → IsAmong messages m → Sending members w events i p q m

-- at event number i p sends q an Accept of b: these entries, from this start on
abbrev pub SendsAccept : List ℕ → World → List Event → ℕ → ℕ → ℕ → ℕ → ℕ → List Entry → Type 0
SendsAccept members w events i b p q start entries = Sending members w events i p q (Accept b start entries)

-- ---- what disturbs an exchange

-- a stop inside a step
abbrev pub is_stopped : Event → Bool
is_stopped (Stops e) = true
is_stopped _ = false

-- at this input a node starts anew, or loses the session of one of the others
abbrev pub Interrupts : List ℕ → Input → Type 0
Interrupts others Starts = Unit {0}
Interrupts others (Down q) = IsAmong others q
Interrupts others _ = ⊥

-- this event leaves x alone: it is no step of x, or one that x ends,
-- and that is no start and no loss of the session of one of the others
abbrev pub LeavesAlone : List ℕ → ℕ → World → Event → Type 0
LeavesAlone others x w e =
    (i : Input) → input_of w e ≡ Some (x, i) → (is_stopped e ≡ false) × (Interrupts others i → ⊥)

-- from event number i to event number end, x promises nothing above b, and no event before that end disturbs
-- it
pub record IsCalm (members : List ℕ) (w : World) (events : List Event) (b : ℕ) (others : List ℕ)
    (x i end : ℕ) : Type 0 where
  pub promised : (j : ℕ) → i ≤ j → j ≤ end → (node_before members w events j x).promised ≤ b
  pub alone : (j : ℕ) (e : Event) → i ≤ j → j < end → slice_get events j ≡ Some e
      → LeavesAlone others x (world_before members w events j) e

-- ---- where what is proposed comes to stand

-- at event number i, p begins to lead: to the log that it adopts
-- it adds its buffer, as far as a stop-sign and the positions let it
pub record Begins (members : List ℕ) (w : World) (p : ℕ) (events : List Event) (i : ℕ) : Type 0 where
  pub preparation : PreparingState
  pub leadership : LeadingState
  pub preparing : (node_before members w events i p).role ≡ Preparing preparation
  pub leading : (node_before members w events (suc i) p).role ≡ Leading leadership
  pub adopted : List Entry
  pub size : length adopted ≡ leadership.size
  pub log : (node_before members w events (suc i) p).log ≡ adopted ++ fitting adopted preparation.buffer

-- where in a run an entry is proposed: the number of the event, and its place among what is proposed there
abbrev pub Proposed : Type 0
Proposed = ℕ × ℕ

-- what comes at p there is buffered, and p begins to lead later, where it would stand at this place
pub record Buffered (members : List ℕ) (w : World) (p : ℕ) (events : List Event) (at : Proposed)
    (place : ℕ) : Type 0 where
  pub preparation : PreparingState
  pub preparing : (node_before members w events at.0 p).role ≡ Preparing preparation
  pub adds_at : ℕ
  pub later : at.0 < adds_at
  pub begins : Begins members w p events adds_at
  pub is : place ≡ length begins.adopted + (length preparation.buffer + at.1)

-- it stands at this place of p's log: behind what p has,
-- if p leads, and else where its buffer is added
abbrev pub IsPlaced : List ℕ → World → ℕ → List Event → Proposed → ℕ → Type 0
IsPlaced members w p events at place =
    ((l : LeadingState) × ((node_before members w events at.0 p).role ≡ Leading l) ×
    (place ≡ length (node_before members w events at.0 p).log + at.1))
    ⊎ ((x : Buffered members w p events at place) ×
    (place < length (node_before members w events (suc x.adds_at) p).log))

-- or e, which came at p there, is dropped when p begins to lead, after a stop-sign or at the end of positions
pub record Dropped (members : List ℕ) (w : World) (p : ℕ) (events : List Event) (at : Proposed)
    (e : Entry) : Type 0 where
  pub place : ℕ
  pub buffered : Buffered members w p events at place
  -- it waits there until then
  pub held :
      slice_get buffered.begins.preparation.buffer (length buffered.preparation.buffer + at.1) ≡ Some e
  pub gone : length (node_before members w events (suc buffered.adds_at) p).log ≤ place
  pub because_full :
      (has_stop (node_before members w events (suc buffered.adds_at) p).log ≡ true)
      ⊎ (positions_end ≤ length (node_before members w events (suc buffered.adds_at) p).log)

-- ---- the exchange with one other

-- these entries from a on reach over this place
abbrev pub IsIn : ℕ → ℕ → List Entry → Type 0
IsIn place start entries = (start ≤ place) × (place < start + length entries)

-- the five steps of p, which leads b, with q, where something is proposed: each by its event's number
pub record Steps (members : List ℕ) (w : World) (events : List Event) (b p q : ℕ) (at : Proposed)
    : Type 0 where
  -- 1. a Prepare of b from p is delivered to q, whose promise is below b
  pub prepare_at : ℕ
  pub asked : ℕ × ℕ × ℕ
  pub prepared : Delivery members w events prepare_at p q (Prepare b asked.0 asked.1 asked.2)
  pub below : (node_before members w events prepare_at q).promised < b
  -- 2. the Promise that q answered, or each PromisePart sent in its place in the order of sending, is
  -- delivered to p, with no other event at p between the parts: from one event on, and up to another
  pub promise_from : ℕ
  pub promise_at : ℕ
  pub told : Promised
  pub answered : SendsAll members w events prepare_at q p (promise_messages b told)
  pub after_prepare : prepare_at < promise_from
  pub promised : InTurn members w events promise_from promise_at q p (promise_messages b told)
  -- 3. an AcceptSync of b that p sent to q on that Promise, or each AcceptSyncPart sent in its place in the
  -- order of sending, is delivered to q, with no other event at q between the parts
  pub sync_sent : ℕ
  pub sync_from : ℕ
  pub sync_at : ℕ
  pub start : ℕ
  pub rest : List Entry
  pub on_promise : promise_from ≤ sync_sent
  pub sent : SendsAll members w events sync_sent p q (sync_messages b start rest)
  pub after_sending : sync_sent < sync_from
  pub synced : InTurn members w events sync_from sync_at p q (sync_messages b start rest)
  -- 4. each Accept that p sent to q after that AcceptSync (or its parts),
  -- up to a last one, is delivered to q in the order of sending
  pub last : ℕ
  pub accept_at : ℕ → ℕ
  pub accepted : (i a : ℕ) (entries : List Entry) → sync_sent < i → i ≤ last
      → SendsAccept members w events i b p q a entries
      → (sync_at < accept_at i) × Delivery members w events (accept_at i) p q (Accept b a entries)
  pub in_order : (i j a c : ℕ) (first second : List Entry) → sync_sent < i → i < j → j ≤ last
      → SendsAccept members w events i b p q a first → SendsAccept members w events j b p q c second
      → accept_at i < accept_at j
  -- what first carries to q what was proposed is among these:
  -- an Accept that carries it isn't sent sooner than one of them that does
  pub carried : (place i c : ℕ) (entries : List Entry)
      → IsPlaced members w p events at place → SendsAccept members w events i b p q c entries
      → IsIn place c entries
      → ((sync_sent ≤ i) × IsIn place start rest)
      ⊎ ((j a : ℕ) × (entries : List Entry) × (sync_sent < j) × (j ≤ last) × (j ≤ i)
      × SendsAccept members w events j b p q a entries × IsIn place a entries)
  -- 5. the Accepted that q answered last in steps 3 and 4 is delivered to p
  pub ack_sent : ℕ
  pub ack_at : ℕ
  pub size : ℕ
  pub after_sync : sync_at ≤ ack_sent
  pub after_accepts : (i a : ℕ) (entries : List Entry) → sync_sent < i → i ≤ last
      → SendsAccept members w events i b p q a entries → accept_at i ≤ ack_sent
  pub acknowledged : Sending members w events ack_sent q p (Accepted b size)
  pub after_ack : ack_sent < ack_at
  pub acked : Delivery members w events ack_at q p (Accepted b size)

-- ---- the exchange

-- p, which prepares b in w, does the five steps with each of the others,
-- that with it are a majority, and e comes at p meanwhile
pub record Exchange (members : List ℕ) (w : World) (p b : ℕ) (others : List ℕ) (events : List Event)
    (e : Entry) : Type 0 where
  pub preparation : PreparingState
  pub preparing : (w.nodes p).role ≡ Preparing preparation
  pub ballot : preparation.ballot ≡ b
  pub are_members : (q : ℕ) → IsAmong others q → IsAmong members q × (q ≡ p → ⊥)
  pub voters : ℕ → Bool
  pub are_voters : (q : ℕ) → voters q ≡ true → (q ≡ p) ⊎ IsAmong others q
  pub majority : majority_passes members voters ≡ true
  -- e comes at p, alone or with others, and isn't refused
  pub proposed_at : Proposed
  pub entries : List Entry
  pub proposed : slice_get events proposed_at.0 ≡ Some (Proposes p entries)
  pub among : slice_get entries proposed_at.1 ≡ Some e
  pub taken : refuses (node_before members w events proposed_at.0 p) entries ≡ false
  pub steps : (q : ℕ) → IsAmong others q → Steps members w events b p q proposed_at
  -- nothing disturbs p, nor q from its step 1 on until it has answered last
  pub calm : IsCalm members w events b others p 0 (length events)
  pub calm_other : (q : ℕ) (i : IsAmong others q)
      → IsCalm members w events b (p ∷ []) q (steps q i).prepare_at (suc (steps q i).ack_sent)

-- ---- what it decides

-- e stands in the one list of this run, at a place below what p has shown that it knows
abbrev pub IsDecided : List ℕ → ℕ → List Event → ℕ → Entry → ℕ → Type 0
IsDecided members conf events p e place =
    (place < known members conf events p) × (slice_get (ledger members conf events) place ≡ Some e)

-- from every world that a run reaches, one exchange decides what was proposed in it, at its place, unless it
-- was dropped after a stop-sign or at the end of positions
abbrev pub ExchangeDecides : Type 0
ExchangeDecides =
    (members : List ℕ) (conf : ℕ) (early events : List Event) (p b : ℕ) (others : List ℕ) (e : Entry)
    → let w = run members early start in (x : Exchange members w p b others events e)
    → ((place : ℕ) × IsPlaced members w p events x.proposed_at place ×
    IsDecided members conf (early ++ events) p e place)
    ⊎ Dropped members w p events x.proposed_at e

-- a leader that is a majority alone decides what is proposed to it, unless it refuses, at once
abbrev pub AloneDecides : Type 0
AloneDecides =
    (members : List ℕ) (conf : ℕ) (early : List Event) (p : ℕ) (entries : List Entry) (l : LeadingState)
    (k : ℕ) (e : Entry)
    → let node = (run members early start).nodes p in
    node.role ≡ Leading l → majority_passes members (λ q. q == p) ≡ true → refuses node entries ≡ false
    → slice_get entries k ≡ Some e
    → IsDecided members conf (early ++ Proposes p entries ∷ []) p e (length node.log + k)
