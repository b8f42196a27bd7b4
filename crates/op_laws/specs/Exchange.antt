-- One completed exchange of a ballot's leader with others that make it a majority, and what that decides.
use Rattle.std.specs.Prelude.{◌≡◌, ◌<◌, ◌≤◌, ◌⊎◌, ◌+◌, ◌||◌, ◌==◌, ℕ, suc, nat_eq, true, false, List, [], ◌∷◌, ◌++◌, length, take, map, Option, Some, None, slice_get}
use Rattle.std.specs.Set.{is_member}
use Rattle.op_quorum.specs.Quorums.{is_majority, passing}
use Rattle.op_types.specs.Ballots.{is_below}
use Rattle.op_types.specs.Changes.{len_of}
use Rattle.op_types.specs.Cutting.{whole_or_parts}
use Rattle.op_types.specs.Limits.{positions_end}
use Rattle.op_types.specs.RoleStates.{Preparing, Leading}
use Rattle.op_types.specs.Roles as role
use Rattle.op_types.specs.Roles.{Role}
use Rattle.op_types.specs.declared.answers.Cause.{Cause}
use Rattle.op_types.specs.declared.answers.Cause.TheVariants as cause
use Rattle.op_types.specs.declared.ballot.Ballot.{Ballot}
use Rattle.op_types.specs.declared.durable.Part.{Part}
use Rattle.op_types.specs.declared.events.Input.TheVariants as input
use Rattle.op_runs.specs.declared.events.What.TheVariants as what
use Rattle.op_types.specs.declared.log.Entry.{Entry}
use Rattle.op_types.specs.declared.log.Entry.TheVariants as entry
use Rattle.op_types.specs.declared.messages.Body.{Body}
use Rattle.op_types.specs.declared.messages.Body.TheVariants as body
use Rattle.op_types.specs.declared.role.Promised.{Promised}
use Rattle.op_types.specs.declared.runs.PromisedRun.{PromisedRun}
use Rattle.op_runs.specs.declared.summary.Line.{Line}
use Rattle.op_runs.specs.declared.summary.Line.TheVariants as line
use Rattle.op_spec.specs.Machine.{IsAmong}
use Rattle.op_protocol.specs.Parts.{pending, sync_bodies}
use Rattle.op_protocol.specs.Configurations.{latest_of}
use Rattle.op_runs.specs.World.{World, Node, Up, Happening, Doing, Steps, Tells, Deed, deed_of, node_at, run_of}
use Rattle.op_runs.specs.Run.{Execution, first_execution, execution_of}
use Rattle.op_laws.specs.Runs.{RunInRange}
use Rattle.op_laws.specs.Led.{IsBelowAt}
use Rattle.op_laws.specs.Proposals.{Proposal, event_of, entries_for, IsTaken}
use Rattle.op_laws.specs.Alone.{IsKnownAt}

-- a ballot of a configuration, and the node that leads it
pub record Term : Type 0 where
  pub conf : ℕ
  pub leader : ℕ
  pub ballot : Ballot

-- ---- happenings and messages by number

-- the world before happening number i of these, which begin in w
abbrev pub before : World → List Happening → ℕ → World
before w hs i = run_of w (take i hs)

-- node p before happening number i
abbrev pub node_before : World → List Happening → ℕ → ℕ → Option Node
node_before w hs i p = node_at (before w hs i).nodes p

-- message number k is one of this configuration from p to q that says this
abbrev pub IsMessage : World → ℕ → ℕ → ℕ → ℕ → Body → Type 0
IsMessage w k conf p q b =
    slice_get w.messages k ≡ Some (record { from = p; to = q; message = record { conf = conf; body = b } })

-- happening number i delivers this message from p to q
pub record Delivery (w : World) (hs : List Happening) (conf i p q : ℕ) (b : Body) : Type 0 where
  pub happening : Happening
  pub is : slice_get hs i ≡ Some happening
  pub number : ℕ
  pub delivers : happening.event.what ≡ what.Deliver number
  pub message : IsMessage (before w hs i) number conf p q b

-- at happening number i p sends q this message
pub record Sending (w : World) (hs : List Happening) (conf i p q : ℕ) (b : Body) : Type 0 where
  pub number : ℕ
  pub new : length (before w hs i).messages ≤ number
  pub message : IsMessage (before w hs (suc i)) number conf p q b

-- at happening number i p sends q all of these messages
abbrev pub SendsAll : World → List Happening → ℕ → ℕ → ℕ → ℕ → List Body → Type 0
SendsAll w hs conf i p q bodies = (b : Body) → IsAmong bodies b → Sending w hs conf i p q b

-- what only tells of a node
abbrev pub IsTold : Doing → Type 0
IsTold (Tells x) = Unit {0}
IsTold _ = ⊥

-- nothing is done at q by this deed
abbrev pub LeavesAlone : ℕ → Option Deed → Type 0
LeavesAlone q None = Unit {0}
LeavesAlone q (Some d) = d.pid ≡ q → IsTold d.doing

-- between happenings number i and j nothing is done at q
abbrev pub RestsBetween : World → List Happening → ℕ → ℕ → ℕ → Type 0
RestsBetween w hs q i j =
    (k : ℕ) (h : Happening) → i < k → k < j → slice_get hs k ≡ Some h
    → LeavesAlone q (deed_of (before w hs k).messages h.event.what)

-- these messages from p to q are delivered one after the other, the first at happening number i
-- and the last at happening number j, and nothing is done at q between
abbrev pub InTurn : World → List Happening → ℕ → ℕ → ℕ → ℕ → ℕ → List Body → Type 0
InTurn w hs conf i j p q [] = ⊥
InTurn w hs conf i j p q (b ∷ []) = (i ≡ j) × Delivery w hs conf i p q b
InTurn w hs conf i j p q (b ∷ (c ∷ bodies)) =
    Delivery w hs conf i p q b × ((h : ℕ) × (i < h) × RestsBetween w hs q i h ×
    InTurn w hs conf h j p q (c ∷ bodies))

-- at happening number i the leader of a term sends q an Accept: these entries, from this start on
abbrev pub SendsAccept : World → List Happening → ℕ → Term → ℕ → ℕ → List Entry → Type 0
SendsAccept w hs i x q start entries =
    Sending w hs x.conf i x.leader q (body.Accept x.ballot start entries)

-- ---- what disturbs an exchange

-- the node is up in the term's configuration, joins no other one, and has promised nothing above the ballot
pub record KeepsTo (x : Term) (n : Node) : Type 0 where
  pub up : n.status ≡ Up
  pub stays : n.state.durable.joining ≡ None
  pub part : Part
  pub has : n.state.durable.part ≡ Some part
  pub conf : part.conf ≡ x.conf
  pub low : is_below x.ballot part.promised ≡ false

-- the same, where the node is there
abbrev pub IfKeepsTo : Term → Option Node → Type 0
IfKeepsTo x None = ⊥
IfKeepsTo x (Some n) = KeepsTo x n

-- q is one of them
abbrev pub IsOne : List ℕ → ℕ → Type 0
IsOne others q = is_member nat_eq others q ≡ true

-- a doing ends no session with one of these
abbrev pub KeepsSessions : List ℕ → Doing → Type 0
KeepsSessions others (Steps (input.Down q)) = IsOne others q → ⊥
KeepsSessions others _ = Unit {0}

-- a deed ends no session of this node with one of these
abbrev pub KeepsSessionsOf : List ℕ → ℕ → Option Deed → Type 0
KeepsSessionsOf others q None = Unit {0}
KeepsSessionsOf others q (Some d) = d.pid ≡ q → KeepsSessions others d.doing

-- from happening number i to number end, q keeps to the term before each, and no happening before that end
-- ends a session of it with one of the others
pub record IsCalm (w : World) (hs : List Happening) (x : Term) (others : List ℕ) (q i end : ℕ) : Type 0 where
  pub up : (j : ℕ) → i ≤ j → j ≤ end → IfKeepsTo x (node_before w hs j q)
  pub sessions : (j : ℕ) (h : Happening) → i ≤ j → j < end → slice_get hs j ≡ Some h
      → KeepsSessionsOf others q (deed_of (before w hs j).messages h.event.what)

-- the node is there, and up
abbrev pub IsUpThere : Option Node → Type 0
IsUpThere None = ⊥
IsUpThere (Some n) = n.status ≡ Up

-- ---- where what is proposed comes to stand

-- a node's role
abbrev pub node_role : Option Node → Role
node_role None = role.Idle
node_role (Some n) = n.state.volatile.role

-- how long a part's log is
abbrev pub part_len : Option Part → ℕ
part_len None = 0
part_len (Some p) = len_of p

-- the same of a node
abbrev pub node_len : Option Node → ℕ
node_len None = 0
node_len (Some n) = part_len n.state.durable.part

-- at happening number i, p begins to lead with the log that it adopts
pub record Begins (w : World) (p : ℕ) (hs : List Happening) (i : ℕ) : Type 0 where
  pub preparation : Preparing
  pub leadership : Leading
  pub preparing : node_role (node_before w hs i p) ≡ role.Preparing preparation
  pub leading : node_role (node_before w hs (suc i) p) ≡ role.Leading leadership

-- where in a run an entry is proposed: the number of the happening, and its place among what is proposed
-- there
abbrev pub Proposed : Type 0
Proposed = ℕ × ℕ

-- what comes at p there is buffered, and p begins to lead later, where it would stand at this place behind
-- the log that is adopted
pub record IsBuffered (w : World) (p : ℕ) (hs : List Happening) (at : Proposed) (place : ℕ) : Type 0 where
  pub preparation : Preparing
  pub preparing : node_role (node_before w hs at.0 p) ≡ role.Preparing preparation
  pub adds_at : ℕ
  pub later : at.0 < adds_at
  pub begins : Begins w p hs adds_at
  pub is : place ≡ begins.leadership.adopted_len + (length preparation.buffer + at.1)

-- it stands at this place of p's log: behind what p has,
-- if p leads, and else where its buffer is added
abbrev pub IsPlaced : World → ℕ → List Happening → Proposed → ℕ → Type 0
IsPlaced w p hs at place =
    ((l : Leading) × (node_role (node_before w hs at.0 p) ≡ role.Leading l) ×
    (place ≡ node_len (node_before w hs at.0 p) + at.1))
    ⊎ ((x : IsBuffered w p hs at place) × (place < node_len (node_before w hs (suc x.adds_at) p)))

-- why a part's log takes nothing more: a stop-sign ends it at this place, or it ends where the positions end
abbrev pub IsFullFor : Cause → Option Part → Type 0
IsFullFor why None = ⊥
IsFullFor (cause.Ballot b) (Some p) = ⊥
IsFullFor (cause.Stop pos) (Some p) = pending p ≡ Some pos
IsFullFor cause.End (Some p) = positions_end ≤ len_of p

-- the same of a node
abbrev pub IsFullAt : Cause → Option Node → Type 0
IsFullAt why None = ⊥
IsFullAt why (Some n) = IsFullFor why n.state.durable.part

-- or e, which came at p there, is dropped when p begins to lead, after a stop-sign or at the
-- end of positions: p's log then takes nothing more
pub record IsDropped (w : World) (p : ℕ) (hs : List Happening) (at : Proposed) (e : Entry) : Type 0 where
  pub place : ℕ
  pub buffered : IsBuffered w p hs at place
  -- it waits there until then
  pub held : slice_get (map (λ b. b.entry) buffered.begins.preparation.buffer)
      (length buffered.preparation.buffer + at.1) ≡ Some e
  pub gone : node_len (node_before w hs (suc buffered.adds_at) p) ≤ place
  pub why : Cause
  pub full : IsFullAt why (node_before w hs (suc buffered.adds_at) p)

-- who is told of an entry: the client of a command, by its number; of a stop-sign 0 and 0
abbrev pub asker_of : Entry → ℕ × ℕ
asker_of (entry.Command c) = (c.client, c.seq)
asker_of (entry.Stop s) = (0, 0)

-- by happening number i, p tells whoever proposed the entry that it is dropped, and why: as p's log is then
abbrev pub IsToldDropped : World → ℕ → List Happening → Entry → ℕ → Type 0
IsToldDropped w p hs e i =
    (why : Cause) × IsFullAt why (node_before w hs (suc i) p)
    × (new : List Line) × ((before w hs (suc i)).lines ≡ (before w hs i).lines ++ new)
    × IsAmong new (line.Dropped p (asker_of e).0 (asker_of e).1 why)

-- ---- the exchange with one other

-- these entries from a start on reach over this place
abbrev pub IsIn : ℕ → ℕ → List Entry → Type 0
IsIn place start entries = (start ≤ place) × (place < start + length entries)

-- the promise of b, from what the follower told
abbrev pub promise_body : Ballot → Promised → Body
promise_body b k = body.Promise b k.accepted k.len k.decided k.start k.entries

-- a run of its entries
abbrev pub run_told : Promised → ℕ → List Entry → PromisedRun
run_told k at run =
    record { accepted = k.accepted; len = k.len; decided = k.decided; start = k.start; at = at; run = run }

-- what brings it: itself, or its parts in order
abbrev pub told_bodies : Ballot → Promised → List Body
told_bodies b k =
    whole_or_parts (promise_body b k) (λ at run. body.PromisePart b (run_told k at run)) k.start k.entries

-- the five steps of a term's leader with q, where something is proposed here: each by the number of its
-- happening
pub record FiveSteps (w : World) (hs : List Happening) (x : Term) (q : ℕ) (at : Proposed) : Type 0 where
  -- 1. a Prepare of the ballot is delivered to q, whose promise is below it
  pub prepare_at : ℕ
  pub asked : Ballot × ℕ × ℕ
  pub prepared :
      Delivery w hs x.conf prepare_at x.leader q (body.Prepare x.ballot asked.0 asked.1 asked.2)
  pub below : IsBelowAt x.ballot (node_before w hs prepare_at q)
  -- 2. the Promise that q answered, or each PromisePart sent in its place in the order of sending, is
  -- delivered to the leader, with no other event there between the parts: from one happening on, and up to
  -- another
  pub promise_from : ℕ
  pub promise_at : ℕ
  pub told : Promised
  pub answered : SendsAll w hs x.conf prepare_at q x.leader (told_bodies x.ballot told)
  pub after_prepare : prepare_at < promise_from
  pub promised : InTurn w hs x.conf promise_from promise_at q x.leader (told_bodies x.ballot told)
  -- 3. an AcceptSync that the leader sent to q on that Promise, or each AcceptSyncPart sent in its place in
  -- the order of sending, is delivered to q, with no other event there between the parts
  pub sync_sent : ℕ
  pub sync_from : ℕ
  pub sync_at : ℕ
  pub start : ℕ
  pub rest : List Entry
  pub on_promise : promise_from ≤ sync_sent
  pub sent : SendsAll w hs x.conf sync_sent x.leader q (sync_bodies x.ballot start rest)
  pub after_sending : sync_sent < sync_from
  pub synced : InTurn w hs x.conf sync_from sync_at x.leader q (sync_bodies x.ballot start rest)
  -- 4. each Accept that the leader sent to q after that AcceptSync (or its parts),
  -- up to a last one, is delivered to q in the order of sending
  pub last : ℕ
  pub accept_at : ℕ → ℕ
  pub accepted : (i a : ℕ) (entries : List Entry) → sync_sent < i → i ≤ last
      → SendsAccept w hs i x q a entries
      → (sync_at < accept_at i)
      × Delivery w hs x.conf (accept_at i) x.leader q (body.Accept x.ballot a entries)
  pub in_order : (i j a c : ℕ) (first second : List Entry) → sync_sent < i → i < j → j ≤ last
      → SendsAccept w hs i x q a first → SendsAccept w hs j x q c second → accept_at i < accept_at j
  -- what first carries to q what was proposed is among these:
  -- an Accept that carries it isn't sent sooner than one of them that does
  pub carried : (place i c : ℕ) (entries : List Entry)
      → IsPlaced w x.leader hs at place → SendsAccept w hs i x q c entries → IsIn place c entries
      → ((sync_sent ≤ i) × IsIn place start rest)
      ⊎ ((j a : ℕ) × (entries : List Entry) × (sync_sent < j) × (j ≤ last) × (j ≤ i)
      × SendsAccept w hs j x q a entries × IsIn place a entries)
  -- 5. the Accepted that q answered last in steps 3 and 4 is delivered to the leader
  pub ack_sent : ℕ
  pub ack_at : ℕ
  pub size : ℕ
  pub after_sync : sync_at ≤ ack_sent
  pub after_accepts : (i a : ℕ) (entries : List Entry) → sync_sent < i → i ≤ last
      → SendsAccept w hs i x q a entries → accept_at i ≤ ack_sent
  pub acknowledged : Sending w hs x.conf ack_sent q x.leader (body.Accepted x.ballot size)
  pub after_ack : ack_sent < ack_at
  pub acked : Delivery w hs x.conf ack_at q x.leader (body.Accepted x.ballot size)

-- ---- the exchange

-- the node prepares b
abbrev pub Prepares : Ballot → Role → Type 0
Prepares b role.Idle = ⊥
Prepares b (role.Preparing r) = r.ballot ≡ b
Prepares b (role.Leading l) = ⊥

-- the node takes what is proposed, and the entry stands at this place in it
abbrev pub Takes : Proposal → ℕ → Entry → Option Node → Type 0
Takes proposal place e None = ⊥
Takes proposal place e (Some n) =
    IsTaken n proposal × (slice_get (entries_for n proposal) place ≡ Some e)

-- the entry comes at p there, a stop-sign or a command, alone or with others, and isn't refused
pub record Comes (w : World) (p : ℕ) (hs : List Happening) (at : Proposed) (e : Entry) : Type 0 where
  pub happening : Happening
  pub is : slice_get hs at.0 ≡ Some happening
  pub proposal : Proposal
  pub proposes : happening.event.what ≡ event_of p proposal
  pub taken : Takes proposal at.1 e (node_before w hs at.0 p)

-- a part's members
abbrev pub part_members : Option Part → List ℕ
part_members None = []
part_members (Some p) = p.members

-- the members of a node's configuration
abbrev pub members_at : Option Node → List ℕ
members_at None = []
members_at (Some n) = part_members n.state.durable.part

-- ---- how it ends

-- each of the others has done its five steps by happening number last, and nothing disturbs it from its step
-- 1 on until it has answered last
pub record AllAnswer (w : World) (hs : List Happening) (x : Term) (others : List ℕ) (at : Proposed) (last : ℕ)
    : Type 0 where
  pub steps : (q : ℕ) → IsOne others q → FiveSteps w hs x q at
  pub heard : (q : ℕ) (i : IsOne others q) → (steps q i).promise_at < last
  pub by_last : (q : ℕ) (i : IsOne others q) → (steps q i).ack_at ≤ last
  pub calm : (q : ℕ) (i : IsOne others q)
      → IsCalm w hs x (x.leader ∷ []) q (steps q i).prepare_at (suc (steps q i).ack_sent)

-- the node is past the term's configuration
abbrev pub IsPast : Term → Option Node → Type 0
IsPast x None = ⊥
IsPast x (Some n) = x.conf < latest_of n.state.durable

-- at happening number i an Accepted comes at the leader, by which it closes its configuration
pub record ClosesAt (w : World) (hs : List Happening) (x : Term) (i : ℕ) : Type 0 where
  pub from : ℕ
  pub ballot : Ballot
  pub size : ℕ
  pub delivery : Delivery w hs x.conf i from x.leader (body.Accepted ballot size)
  pub then : IsPast x (node_before w hs (suc i) x.leader)

-- The leader of a term prepares its ballot in w, and the entry comes at it meanwhile. Each of the others, who
-- with it are a majority of its configuration, does the five steps with it, or it closes its configuration.
pub record Exchange (w : World) (hs : List Happening) (x : Term) (others : List ℕ)
    (e : Entry) : Type 0 where
  pub preparing : Prepares x.ballot (node_role (node_at w.nodes x.leader))
  pub are_members : (q : ℕ) → IsOne others q
      → IsOne (members_at (node_at w.nodes x.leader)) q × (q ≡ x.leader → ⊥)
  pub majority :
      is_majority (passing (λ q. q == x.leader || is_member nat_eq others q)
      (members_at (node_at w.nodes x.leader))) (length (members_at (node_at w.nodes x.leader))) ≡ true
  pub proposed_at : Proposed
  pub comes : Comes w x.leader hs proposed_at e
  -- the entry comes before the happening of this number, with which the exchange ends
  pub last : ℕ
  pub in_time : proposed_at.0 < last
  pub ends : AllAnswer w hs x others proposed_at last ⊎ ClosesAt w hs x last
  -- until then nothing disturbs the leader, and it is up after that
  pub calm : IsCalm w hs x others x.leader 0 last
  pub done : IsUpThere (node_before w hs (suc last) x.leader)

-- ---- what it decides

-- An exchange in what comes decides the entry that is proposed in it, in its configuration's list and at its
-- place, unless that is dropped after a stop-sign or at the end of positions: then whoever proposed it is
-- told so by the very step that drops it.
abbrev pub ExchangesDecide : Execution → List Happening → Type 0
ExchangesDecide t hs =
    (x : Term) (others : List ℕ) (e : Entry) (y : Exchange t.world hs x others e)
    → ((place : ℕ) × IsPlaced t.world x.leader hs y.proposed_at place ×
    IsKnownAt (execution_of t hs).machine x.conf x.leader e place)
    ⊎ ((d : IsDropped t.world x.leader hs y.proposed_at e)
    × IsToldDropped t.world x.leader hs e d.buffered.adds_at)

-- so it is from whatever state a run has come to
abbrev pub ExchangeDecides : Type 0
ExchangeDecides =
    (members spares : List ℕ) (early hs : List Happening) → RunInRange members spares (early ++ hs)
    → ExchangesDecide (execution_of (first_execution members spares) early) hs
