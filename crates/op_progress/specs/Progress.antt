-- Rounds over fixed links, and what a majority reaches by them whose members are up and hear one another,
-- whatever happens at all others.
use Rattle.std.specs.Prelude.{◌≡◌, ◌≤◌, ◌⊎◌, ◌||◌, ℕ, zero, suc, nat_eq, Bool, true, false, List, [], ◌∷◌, ◌++◌, length, Option, Some, None, is_some, slice_get}
use Rattle.std.specs.Set.{is_member}
use Rattle.op_quorum.specs.Quorums.{is_majority, passing}
use Rattle.op_types.specs.Ballots.{is_below}
use Rattle.op_types.specs.Ranges.{AreRising, MembersInRange}
use Rattle.op_types.specs.Roles as role
use Rattle.op_types.specs.Roles.{Role}
use Rattle.op_types.specs.declared.ballot.Ballot.{Ballot}
use Rattle.op_types.specs.declared.durable.Part.{Part}
use Rattle.op_types.specs.declared.events.Input.TheVariants as input
use Rattle.op_types.specs.declared.messages.Body.{Body}
use Rattle.op_types.specs.declared.messages.Body.TheVariants as body
use Rattle.op_types.specs.declared.messages.Msg.{Msg}
use Rattle.op_types.specs.declared.role.Promised.{Promised}
use Rattle.op_types.specs.RoleStates.{promise_of}
use Rattle.op_protocol.specs.Parts.{is_admitted}
use Rattle.op_protocol.specs.Promises.{is_usable}
use Rattle.op_protocol.specs.Follower.{suffix_start}
use Rattle.op_runs.specs.declared.events.What.{What}
use Rattle.op_runs.specs.declared.events.What.TheVariants as what
use Rattle.op_runs.specs.World.{World, Node, Sent, Deed, Steps, Done, Happening, deed_of, node_at, first_world, world_after, run_of, all_done}
use Rattle.op_gen.specs.Links.{Links, is_linked, all_links}
use Rattle.op_lockstep.specs.Lockstep.{is_request, is_reply, round}
use Rattle.op_lockstep.specs.Reach.{IsOneOf, AreUpWithRoom, IsNoStop, ProposeNoStop}

-- ---- links

-- These are members, each once, and a majority. Each is linked to each other one of them, and to nobody else.
pub record HearOneAnother (members : List ℕ) (links : Links) (group : List ℕ) : Type 0 where
  pub all_members : (q : ℕ) → IsOneOf group q → IsOneOf members q
  pub rising : AreRising 0 group
  pub majority : is_majority (passing (λ q. is_member nat_eq group q) members) (length members) ≡ true
  pub linked : (p q : ℕ) → IsOneOf group p → IsOneOf group q → (p ≡ q → ⊥) → is_linked links p q ≡ true
  pub apart : (p q : ℕ) → IsOneOf group p → is_linked links p q ≡ true → IsOneOf group q

-- ---- a round

-- whether a message is of a heartbeat round
abbrev pub is_heartbeat : Body → Bool
is_heartbeat b = is_request b || is_reply b

-- a message goes over a link, and is of no heartbeat round
abbrev pub GoesOver : Links → Option Sent → Type 0
GoesOver links None = Unit {0}
GoesOver links (Some m) = (is_linked links m.from m.to ≡ true) × (is_heartbeat m.message.body ≡ false)

-- clients ask, a session begins or ends, a node tells what it knows, or a message that was ever sent over a
-- link, but for heartbeats, is delivered
abbrev pub IsHarmless : Links → World → What → Type 0
IsHarmless links w (what.Deliver i) = GoesOver links (slice_get w.messages i)
IsHarmless links w (what.Commands p cs) = Unit {0}
IsHarmless links w (what.Read p r) = Unit {0}
IsHarmless links w (what.Trim p) = Unit {0}
IsHarmless links w (what.Up p q) = Unit {0}
IsHarmless links w (what.Down p q) = Unit {0}
IsHarmless links w (what.Show p) = Unit {0}
IsHarmless links w (what.Ballots p) = Unit {0}
IsHarmless links w _ = ⊥

-- nothing is done at any of these nodes
abbrev pub IsElsewhere : List ℕ → Option Deed → Type 0
IsElsewhere group None = Unit {0}
IsElsewhere group (Some x) = is_member nat_eq group x.pid ≡ false

-- What may come behind the heartbeats of a round: at other nodes anything, as ticks, stops, faults of disks,
-- starts and messages from wherever; at these what is harmless, and it is done. Nobody proposes a stop-sign.
abbrev pub ComesBehind : List ℕ → Links → World → Happening → Type 0
ComesBehind group links w h =
    IsNoStop h.event.what × (IsElsewhere group (deed_of w.messages h.event.what)
    ⊎ ((h.fate ≡ Done) × IsHarmless links w h.event.what))

-- the same of each of these happenings
abbrev pub AllComeBehind : List ℕ → Links → World → List Happening → Type 0
AllComeBehind group links w [] = Unit {0}
AllComeBehind group links w (h ∷ hs) =
    ComesBehind group links w h × AllComeBehind group links (world_after w h) hs

-- the heartbeats of a round of these members
abbrev pub heartbeats : List ℕ → Links → World → List Happening
heartbeats group links w = all_done (round group links w)

-- a round: its heartbeats, and what comes behind them, in any order, any number of times, or not at all
pub record IsFreeRound (group : List ℕ) (links : Links) (w : World) (hs : List Happening) : Type 0 where
  pub behind : List Happening
  pub is : hs ≡ heartbeats group links w ++ behind
  pub may_come : AllComeBehind group links (run_of w (heartbeats group links w)) behind

-- so many such rounds, one after the other
abbrev pub AreFreeRounds : List ℕ → Links → ℕ → World → List Happening → Type 0
AreFreeRounds group links zero w hs = hs ≡ []
AreFreeRounds group links (suc k) w hs =
    (first : List Happening) × (more : List Happening) × (hs ≡ first ++ more)
    × IsFreeRound group links w first × AreFreeRounds group links k (run_of w first) more

-- ---- a Prepare that comes

-- a node is asked to promise this ballot, by one that has told so much of its log
pub record PrepareSent : Type 0 where
  pub ballot : Ballot
  pub accepted : Ballot
  pub len : ℕ
  pub decided : ℕ

-- the message that asks for it
abbrev pub prepare_of : PrepareSent → Msg
prepare_of a =
    record { conf = 1; body = body.Prepare a.ballot a.accepted a.len a.decided }

-- the message that tells a promise
abbrev pub promise_of_ballot : Ballot → Promised → Msg
promise_of_ballot b k =
    record { conf = 1; body = body.Promise b k.accepted k.len k.decided k.start k.entries }

-- the node has the log from where the one that asks may lack it: it isn't trimmed past that
abbrev pub HasSuffix : PrepareSent → Option Part → Type 0
HasSuffix a None = ⊥
HasSuffix a (Some p) = p.trimmed ≤ suffix_start p a.accepted a.len a.decided

-- the same where the node is there
abbrev pub HasSuffixAt : PrepareSent → Option Node → Type 0
HasSuffixAt a None = ⊥
HasSuffixAt a (Some n) = HasSuffix a n.state.durable.part

-- a Prepare of this ballot comes from s at q, which has what the one that asks may lack
pub record PrepareComes (b : Ballot) (s q : ℕ) (w : World) (h : Happening) : Type 0 where
  pub asking : PrepareSent
  pub is : asking.ballot ≡ b
  pub comes : deed_of w.messages h.event.what
      ≡ Some (record { pid = q; doing = Steps (input.Deliver s (prepare_of asking)) })
  pub has : HasSuffixAt asking (node_at w.nodes q)

-- a promise can be adopted at this part: its entries are admitted, and its log isn't above the own one or
-- goes on from its prefix
abbrev pub MayAdopt : Promised → Option Part → Type 0
MayAdopt k None = ⊥
MayAdopt k (Some p) = (is_admitted p k.start k.entries ≡ true) × (is_usable p k ≡ true)

-- the same of a node
abbrev pub MayAdoptAt : Promised → Option Node → Type 0
MayAdoptAt k None = ⊥
MayAdoptAt k (Some n) = MayAdopt k n.state.durable.part

-- a whole Promise of this ballot comes from q at s, where it can be adopted
pub record PromiseComes (b : Ballot) (q s : ℕ) (w : World) (h : Happening) : Type 0 where
  pub told : Promised
  pub from : told.from ≡ q
  pub comes : deed_of w.messages h.event.what
      ≡ Some (record { pid = s; doing = Steps (input.Deliver told.from (promise_of_ballot b told)) })
  pub may : MayAdoptAt told (node_at w.nodes s)

-- such a thing comes by one of these happenings
abbrev pub ComesBy : (World → Happening → Type 0) → World → List Happening → Type 0
ComesBy P w [] = ⊥
ComesBy P w (h ∷ hs) = P w h ⊎ ComesBy P (world_after w h) hs

-- a round in which it comes behind the heartbeats
pub record RoundWith (P : World → Happening → Type 0) (group : List ℕ) (links : Links) (w : World)
    (hs : List Happening) : Type 0 where
  pub round : IsFreeRound group links w hs
  pub comes : ComesBy P (run_of w (heartbeats group links w)) round.behind

-- ---- what they reach

-- no ballot above this one is promised
abbrev pub IsPromisedUpTo : Ballot → Option Part → Type 0
IsPromisedUpTo b None = ⊥
IsPromisedUpTo b (Some p) = is_below b p.promised ≡ false

-- this ballot is promised
abbrev pub IsPromised : Ballot → Option Part → Type 0
IsPromised b None = ⊥
IsPromised b (Some p) = p.promised ≡ b

-- the same of a node
abbrev pub IsPromisedAt : Ballot → Option Node → Type 0
IsPromisedAt b None = ⊥
IsPromisedAt b (Some n) = IsPromised b n.state.durable.part

-- the node takes this ballot for the leader's, stands for none above it, and has promised none above it
abbrev pub Follows : Ballot → Option Node → Type 0
Follows b None = ⊥
Follows b (Some n) =
    (n.state.volatile.leader ≡ b) × (is_below b n.state.volatile.own ≡ false)
    × IsPromisedUpTo b n.state.durable.part

-- this ballot is prepared or led
abbrev pub PreparesOrLeads : Ballot → Role → Type 0
PreparesOrLeads b role.Idle = ⊥
PreparesOrLeads b (role.Preparing r) = r.ballot ≡ b
PreparesOrLeads b (role.Leading l) = l.ballot ≡ b

-- this ballot is led, or it is prepared and this one's promise is kept
abbrev pub HasPromise : Ballot → ℕ → Role → Type 0
HasPromise b q role.Idle = ⊥
HasPromise b q (role.Preparing r) = (r.ballot ≡ b) × (is_some (promise_of r.promises q) ≡ true)
HasPromise b q (role.Leading l) = l.ballot ≡ b

-- the same of a node
abbrev pub HasPromiseAt : Ballot → ℕ → Option Node → Type 0
HasPromiseAt b q None = ⊥
HasPromiseAt b q (Some n) = HasPromise b q n.state.volatile.role

-- this ballot is led
abbrev pub IsLed : Ballot → Role → Type 0
IsLed b (role.Leading l) = l.ballot ≡ b
IsLed b _ = ⊥

-- the node leads it
abbrev pub LeadsBallot : Ballot → Option Node → Type 0
LeadsBallot b None = ⊥
LeadsBallot b (Some n) = IsLed b n.state.volatile.role

-- the node stands for this ballot, has promised it, and prepares or leads it
abbrev pub StandsFor : Ballot → Option Node → Type 0
StandsFor b None = ⊥
StandsFor b (Some n) =
    (n.state.volatile.own ≡ b) × IsPromised b n.state.durable.part
    × PreparesOrLeads b n.state.volatile.role

-- this member stands for this ballot and prepares or leads it, and all follow it
pub record AgreeOn (group : List ℕ) (s : ℕ) (b : Ballot) (w : World) : Type 0 where
  pub stands : StandsFor b (node_at w.nodes s)
  pub follow : (q : ℕ) → IsOneOf group q → Follows b (node_at w.nodes q)

-- They agree on one ballot of one of them, now and after each further round. Whom its Prepare has reached,
-- and who has what the owner may lack, has promised it from the end of that round on. Whose promise has
-- reached the owner, and can be adopted there, has its promise kept from then on, and once the owner keeps
-- those of all others it leads for ever.
pub record AgreeEverAfter (links : Links) (group : List ℕ) (w : World) : Type 0 where
  pub leader : ℕ
  pub ballot : Ballot
  pub is_one : IsOneOf group leader
  pub agree : (k : ℕ) (hs : List Happening) → AreFreeRounds group links k w hs
      → AgreeOn group leader ballot (run_of w hs)
  pub promise : (q : ℕ) → IsOneOf group q → (k i : ℕ) (hs asking more : List Happening)
      → AreFreeRounds group links k w hs
      → let u : World = run_of w hs in
      RoundWith (λ v h. PrepareComes ballot leader q v h) group links u asking
      → AreFreeRounds group links i (run_of u asking) more
      → IsPromisedAt ballot (node_at (run_of (run_of u asking) more).nodes q)
  pub kept : (q k i : ℕ) (hs telling more : List Happening) → AreFreeRounds group links k w hs
      → let u : World = run_of w hs in
      RoundWith (λ v h. PromiseComes ballot q leader v h) group links u telling
      → AreFreeRounds group links i (run_of u telling) more
      → HasPromiseAt ballot q (node_at (run_of (run_of u telling) more).nodes leader)
  pub leads : (k i : ℕ) (hs more : List Happening) → AreFreeRounds group links k w hs
      → let u : World = run_of w hs in
      ((q : ℕ) → IsOneOf group q → (q ≡ leader → ⊥) → HasPromiseAt ballot q (node_at u.nodes leader))
      → AreFreeRounds group links i u more
      → LeadsBallot ballot (node_at (run_of u more).nodes leader)

-- From every world that a run without stop-signs reaches, over links by which a majority hear one another and
-- nobody else, who are up and whose ballots have room: after four rounds, whatever comes behind their
-- heartbeats and whatever happens at all others, they take one and the same ballot of one of them for the
-- leader's for ever, and none of them promises a ballot above it or stands for one.
abbrev pub MajoritiesAgree : Type 0
MajoritiesAgree =
    (members spares : List ℕ) → MembersInRange members → (early : List Happening) → ProposeNoStop early
    → (links : Links) (group : List ℕ)
    → let w : World = run_of (first_world members spares) early in
    AreUpWithRoom group w → HearOneAnother members links group
    → (hs : List Happening) → AreFreeRounds group links 4 w hs → AgreeEverAfter links group (run_of w hs)

-- so do all members, where they are up and all links between them work
abbrev pub AllAgree : Type 0
AllAgree =
    (members spares : List ℕ) → MembersInRange members → (early : List Happening) → ProposeNoStop early
    → let w : World = run_of (first_world members spares) early in
    AreUpWithRoom members w → (hs : List Happening) → AreFreeRounds members (all_links members) 4 w hs
    → AgreeEverAfter (all_links members) members (run_of w hs)
