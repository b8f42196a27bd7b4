-- Servers that go from one configuration to the next. The first configuration is number 1.
use Rattle.std.specs.Prelude.{ℕ, zero, suc, ◌+◌, ◌-◌, ◌*◌, ◌/◌, Bool, true, false, ◌&&◌, ◌||◌, not, ◌==◌, if◌then◌else◌, min, nat_eq, nat_lt, nat_le, Option, Some, None, is_some, List, [], ◌∷◌, ◌++◌, length, take, drop, slice_get}
use Rattle.std.specs.Set.{is_member}
use Rattle.op_types.specs.Limits.{most_part_bytes}
use Rattle.op_types.specs.Cutting.{cut, parts_from}
use Rattle.op_types.specs.declared.log.Entry.{Entry}
use Rattle.op_types.specs.declared.log.StopSign.{StopSign}
use Rattle.op_spec.specs.Machine.{stop_at_end}
use Rattle.op_paxos.specs.Worlds as paxos
use Rattle.op_paxos.specs.Nodes.{Node, Idle, Role, owner}
use Rattle.op_paxos.specs.Messages.{Msg, PrepareReq, Packet, Effect}
use Rattle.op_paxos.specs.Worlds.{Input, Elected, Proposal, Comes, Up, CutOff, Down, Starts, TrimNow}
use Rattle.op_paxos.specs.Logs.{overflows}

-- a member that has promised and accepted nothing
abbrev pub fresh : Node
fresh =
    record {
      promised = 0;
      accepted = 0;
      log = [];
      decided = 0;
      trimmed = 0;
      staged = [];
      role = Idle;
    }

-- the configuration that a server is in, and its state there
pub record Part : Type 0 where
  pub conf : ℕ
  pub members : List ℕ
  pub node : Node

-- the whole list of the configuration before; what was trimmed of it is kept as a base
pub record Closed : Type 0 where
  pub conf : ℕ
  pub olds : List ℕ
  pub next : List ℕ
  pub list : List Entry
  pub trimmed : ℕ

-- a base stands for the front of a closed list
pub record Base : Type 0 where
  pub at : ℕ
  pub front : List Entry

-- what has come of a base in pieces: the place that it stands for, and which of its bytes
pub record BaseStage : Type 0 where
  pub at : ℕ
  pub has : ℕ → Bool

-- what a server has of the closed list before the configuration that it is to start
pub record Joining : Type 0 where
  pub conf : ℕ
  pub members : List ℕ
  pub olds : List ℕ
  pub len : ℕ
  -- each donor with its trimmed index, rising by id
  pub donors : List (ℕ × ℕ)
  pub base : Option Base
  -- the entries held, by position
  pub held : ℕ → Option Entry
  -- a base that comes in pieces; no opening finds it
  pub stage : Option BaseStage

pub record State : Type 0 where
  pub part : Option Part
  pub closed : Option Closed
  pub joining : Option Joining

-- ---- letters

pub data Body : Type 0 where
  -- a message inside its configuration
  Inner : Msg → Body
  HeartbeatRequest : Body
  HeartbeatReply : Body
  -- these name the configuration to be started
  NextConf : (members olds : List ℕ) (len trimmed : ℕ) → Body
  AskBase : Body
  BasePart : (at : ℕ) → List Entry → Body
  -- so many bytes, from this one of the total on, of a base too long for one message
  BasePiece : (at total from_at count : ℕ) → List Entry → Body
  AskSegment : (from_at until : ℕ) → Body
  Segment : (from_at : ℕ) → List Entry → Body

pub record Letter : Type 0 where
  pub from : ℕ
  pub to : ℕ
  pub conf : ℕ
  pub body : Body

-- a step is done, or its server stops inside it
pub data Fate : Type 0 where
  Done : Fate
  Stopped : Fate

-- what a step is inside its configuration: an input of a member there; a message's is that of this letter's
-- number
pub record Inside : Type 0 where
  pub conf : ℕ
  pub fate : Fate
  pub input : Input
  pub number : ℕ

-- what a step leaves and sends
pub record Stepped : Type 0 where
  pub state : State
  pub sends : List Letter
  pub inside : List Inside

abbrev pub letter : ℕ → ℕ → ℕ → Body → Letter
letter p q c b = record { from = p; to = q; conf = c; body = b }

-- the server's part stays as it is
abbrev pub says : State → List Letter → Stepped
says st sends = record { state = st; sends = sends; inside = [] }

abbrev pub unchanged : State → Stepped
unchanged st = says st []

-- ---- words

-- what a member has decided
abbrev pub decided_list : Node → List Entry
decided_list nd = take nd.decided nd.log

-- the configuration that a server knows last: its part's, or the one after its closed list; 0 where it has
-- neither
abbrev pub latest_in : Option Part → Option Closed → ℕ
latest_in None None = 0
latest_in None (Some k) = suc k.conf
latest_in (Some pt) k = pt.conf

abbrev pub latest : State → ℕ
latest st = latest_in st.part st.closed

abbrev pub latest_members_in : Option Part → Option Closed → List ℕ
latest_members_in None None = []
latest_members_in None (Some k) = k.next
latest_members_in (Some pt) k = pt.members

-- the members of that configuration
abbrev pub latest_members : State → List ℕ
latest_members st = latest_members_in st.part st.closed

-- the messages of a member, as letters of its configuration
abbrev pub wrap : ℕ → List Packet → List Letter
wrap c [] = []
wrap c (m ∷ ms) = letter m.from m.to c (Inner m.msg) ∷ wrap c ms

-- one letter to each of these but p
abbrev pub to_all : ℕ → ℕ → Body → List ℕ → List Letter
to_all p c b [] = []
to_all p c b (q ∷ qs) = if q == p then to_all p c b qs else letter p q c b ∷ to_all p c b qs

-- ---- closing

-- the part that a server has where a configuration begins
abbrev pub new_part : ℕ → List ℕ → Part
new_part c members = record { conf = c; members = members; node = fresh }

-- the configuration after a closed list, from the server's closed list on
abbrev pub next_conf : Closed → Body
next_conf k = NextConf k.next k.olds (length k.list) k.trimmed

-- the news of the next configuration to each of its members that isn't of the closed one
abbrev pub tell : ℕ → Closed → List ℕ → List Letter
tell p k [] = []
tell p k (q ∷ qs) =
    if is_member nat_eq k.olds q then tell p k qs else letter p q (suc k.conf) (next_conf k) ∷ tell p k qs

-- the part becomes a closed list
abbrev pub closed_of : Part → StopSign → Closed
closed_of pt s =
    record {
      conf = pt.conf;
      olds = pt.members;
      next = s.members;
      list = decided_list pt.node;
      trimmed = (pt.node).trimmed;
    }

-- a server goes on behind a closed list: with a part, if it is named
abbrev pub behind : ℕ → Closed → State
behind p k =
    record {
      part = if is_member nat_eq k.next p then Some (new_part (suc k.conf) k.next) else None;
      closed = Some k;
      joining = None;
    }

unfoldable pub close_with : ℕ → State → Part → Option StopSign → Stepped
close_with p st pt None = unchanged (record { part = Some pt; closed = st.closed; joining = st.joining })
close_with p st pt (Some s) = says (behind p (closed_of pt s)) (tell p (closed_of pt s) s.members)

-- ---- a step inside the configuration

abbrev pub fated : Fate → Effect → Effect
fated Done o = o
fated Stopped o = paxos.stopped o

-- a member's step; where its decided list then ends in a stop-sign, the part is closed
unfoldable pub acted : Fate → ℕ → State → Part → ℕ → Input → Stepped
acted f p st pt n i =
    let o = fated f (paxos.step pt.members p pt.node i) in
    let after : Part = record { conf = pt.conf; members = pt.members; node = o.node } in
    let k = close_with p st after (stop_at_end (decided_list o.node)) in
    record {
      state = k.state;
      sends = wrap pt.conf o.sends ++ k.sends;
      inside = record { conf = pt.conf; fate = f; input = i; number = n } ∷ [];
    }

-- an input that is no message
abbrev pub acted_in : Fate → ℕ → State → Option Part → Input → Stepped
acted_in f p st None i = unchanged st
acted_in f p st (Some pt) i = acted f p st pt 0 i

-- a server opens with what it has stored: a member asks to be prepared, unless the server is joining
unfoldable pub restarted : Fate → ℕ → State → Option Part → Stepped
restarted f p st None = unchanged st
restarted f p st (Some pt) =
    let o = fated f (paxos.step pt.members p pt.node Starts) in
    record {
      state =
          record {
            part = Some (record { conf = pt.conf; members = pt.members; node = o.node });
            closed = st.closed;
            joining = st.joining;
          };
      sends = wrap pt.conf o.sends;
      inside = record { conf = pt.conf; fate = f; input = Starts; number = 0 } ∷ [];
    }

-- ---- joining

abbrev pub is_donor : ℕ → List (ℕ × ℕ) → Bool
is_donor q [] = false
is_donor q (d ∷ ds) = (q == d.0) || is_donor q ds

-- a donor more, rising by id
abbrev pub with_donor : ℕ → ℕ → List (ℕ × ℕ) → List (ℕ × ℕ)
with_donor q t [] = (q, t) ∷ []
with_donor q t (d ∷ ds) = if nat_lt q d.0 then (q, t) ∷ d ∷ ds else d ∷ with_donor q t ds

abbrev pub is_new_donor : ℕ → ℕ → Joining → Bool
is_new_donor q t j = nat_le t j.len && (not (is_donor q j.donors) && nat_lt (length j.donors) 255)

abbrev pub new_joining : ℕ → ℕ → List ℕ → List ℕ → ℕ → ℕ → Joining
new_joining q c members olds len t =
    record {
      conf = c;
      members = members;
      olds = olds;
      len = len;
      donors = (q, t) ∷ [];
      base = None;
      held = λ n. None;
      stage = None;
    }

abbrev pub with_joining : State → Joining → State
with_joining st j = record { part = st.part; closed = st.closed; joining = Some j }

-- q tells of configuration c, while the server joins another one or none
abbrev pub begun : State → ℕ → ℕ → List ℕ → List ℕ → ℕ → ℕ → State
begun st q c members olds len t =
    if nat_le t len then with_joining st (new_joining q c members olds len t) else st

unfoldable pub invited_in : State → Option Joining → ℕ → ℕ → List ℕ → List ℕ → ℕ → ℕ → State
invited_in st None q c members olds len t = begun st q c members olds len t
invited_in st (Some j) q c members olds len t =
    if nat_lt j.conf c then begun st q c members olds len t
    else if (j.conf == c) && is_new_donor q t j
    then with_joining st (record j { donors = with_donor q t j.donors })
    else st

unfoldable pub invited : ℕ → State → ℕ → ℕ → List ℕ → List ℕ → ℕ → ℕ → State
invited p st q c members olds len t =
    if is_member nat_eq members p && nat_lt (latest st) c
    then invited_in st st.joining q c members olds len t else st

abbrev pub with_entry : Option Entry → Option (List Entry) → Option (List Entry)
with_entry None es = None
with_entry (Some e) None = None
with_entry (Some e) (Some es) = Some (e ∷ es)

-- the n entries held from a position on, if all are
abbrev pub held_run : (ℕ → Option Entry) → ℕ → ℕ → Option (List Entry)
held_run held a zero = Some []
held_run held a (suc n) = with_entry (held a) (held_run held (suc a) n)

abbrev pub behind_base : Base → Option (List Entry) → Option (List Entry)
behind_base b None = None
behind_base b (Some es) = Some (b.front ++ es)

abbrev pub covered : Option Base → (ℕ → Option Entry) → ℕ → Option (List Entry)
covered None held len = None
covered (Some b) held len = behind_base b (held_run held b.at (len - b.at))

abbrev pub base_place : Option Base → ℕ
base_place None = 0
base_place (Some b) = b.at

-- the closed list with which a joining server starts
abbrev pub joined_list : Joining → List Entry → Closed
joined_list j l =
    record { conf = j.conf - 1; olds = j.olds; next = j.members; list = l; trimmed = base_place j.base }

-- once base and entries held cover the closed list, the server starts
unfoldable pub started : Fate → ℕ → State → Joining → Option (List Entry) → Stepped
started f p st j None = unchanged (with_joining st j)
started f p st j (Some l) =
    let part : Option Part = Some (new_part j.conf j.members) in
    restarted f p (record { part = part; closed = Some (joined_list j l); joining = None }) part

abbrev pub start_if_whole : Fate → ℕ → State → Joining → Stepped
start_if_whole f p st j = started f p st j (covered j.base j.held j.len)

unfoldable pub based : Fate → ℕ → State → Option Joining → ℕ → ℕ → List Entry → Stepped
based f p st None c at front = unchanged st
based f p st (Some j) c at front =
    if (j.conf == c) && (not (is_some j.base) && nat_le at j.len)
    then start_if_whole f p st (record j { base = Some (record { at = at; front = front }) })
    else unchanged st

-- ---- a base in pieces

-- these bytes too
abbrev pub with_bytes : (ℕ → Bool) → ℕ → ℕ → ℕ → Bool
with_bytes has from_at count i = has i || (nat_le from_at i && nat_lt i (from_at + count))

-- pieces of a base for another place begin anew
abbrev pub staged_piece : Option BaseStage → ℕ → ℕ → ℕ → BaseStage
staged_piece None at from_at count = record { at = at; has = with_bytes (λ i. false) from_at count }
staged_piece (Some s) at from_at count =
    record { at = at; has = with_bytes (if s.at == at then s.has else (λ i. false)) from_at count }

-- all of the first so many bytes are there
abbrev pub has_all : (ℕ → Bool) → ℕ → Bool
has_all has zero = true
has_all has (suc n) = has n && has_all has n

-- a piece is staged; once the base is whole it is as if it came so
unfoldable pub completed : Fate → ℕ → State → Joining → ℕ → List Entry → ℕ → BaseStage → Stepped
completed f p st j at front total s =
    if has_all s.has total
    then start_if_whole f p st (record j { base = Some (record { at = at; front = front }); stage = None })
    else unchanged (with_joining st (record j { stage = Some s }))

-- a piece counts while no base is held, where it isn't empty and stands inside the total
abbrev pub is_piece : Joining → ℕ → ℕ → ℕ → ℕ → Bool
is_piece j at total from_at count =
    not (is_some j.base) && (nat_le at j.len && (nat_lt 0 count && nat_le (from_at + count) total))

-- a piece of the base of the configuration that the server joins
unfoldable pub pieced : Fate → ℕ → State → Option Joining → ℕ → ℕ → ℕ → ℕ → ℕ → List Entry → Stepped
pieced f p st None c at total from_at count front = unchanged st
pieced f p st (Some j) c at total from_at count front =
    if (j.conf == c) && is_piece j at total from_at count
    then completed f p st j at front total (staged_piece j.stage at from_at count)
    else unchanged st

-- what came in pieces is gone when a server opens
abbrev pub without_stage : Option Joining → Option Joining
without_stage None = None
without_stage (Some j) = Some (record j { stage = None })

-- the same, of a server
abbrev pub without_pieces : State → State
without_pieces st = record { part = st.part; closed = st.closed; joining = without_stage st.joining }

abbrev pub first_of : Option Entry → Option Entry → Option Entry
first_of None o = o
first_of (Some e) o = Some e

-- a position that is held already keeps its entry
abbrev pub held_with : (ℕ → Option Entry) → ℕ → List Entry → ℕ → Option Entry
held_with held a es n = first_of (held n) (if nat_le a n then slice_get es (n - a) else None)

unfoldable pub got_segment : Fate → ℕ → State → Option Joining → ℕ → ℕ → List Entry → Stepped
got_segment f p st None c a es = unchanged st
got_segment f p st (Some j) c a es =
    if (j.conf == c) && (nat_lt 0 (length es) && nat_le (a + length es) j.len)
    then start_if_whole f p st (record j { held = held_with j.held a es })
    else unchanged st

-- the donor with the greatest trimmed index, and of these the one with the least id
abbrev pub best_donor : ℕ × ℕ → List (ℕ × ℕ) → ℕ × ℕ
best_donor d [] = d
best_donor d (e ∷ ds) = best_donor (if nat_lt d.1 e.1 then e else d) ds

abbrev pub donors_at : ℕ → List (ℕ × ℕ) → List ℕ
donors_at s [] = []
donors_at s (d ∷ ds) = if nat_le d.1 s then d.0 ∷ donors_at s ds else donors_at s ds

-- from s to len in as many parts as there are donors: the i-th to the i-th, unless it is empty or wholly held
abbrev pub ask_parts : ℕ → Joining → ℕ → ℕ → ℕ → List ℕ → List Letter
ask_parts p j s m i [] = []
ask_parts p j s m i (q ∷ qs) =
    let a = s + (i * (j.len - s)) / m in
    let b = s + (suc i * (j.len - s)) / m in
    if nat_lt a b && not (is_some (held_run j.held a (b - a)))
    then letter p q j.conf (AskSegment a b) ∷ ask_parts p j s m (suc i) qs
    else ask_parts p j s m (suc i) qs

abbrev pub ask_segments : ℕ → Joining → ℕ → List Letter
ask_segments p j s = ask_parts p j s (length (donors_at s j.donors)) 0 (donors_at s j.donors)

abbrev pub asks_of : ℕ → Joining → Option Base → List (ℕ × ℕ) → List Letter
asks_of p j (Some b) ds = ask_segments p j b.at
asks_of p j None [] = []
asks_of p j None (d ∷ ds) = letter p (best_donor d ds).0 j.conf AskBase ∷ ask_segments p j (best_donor d ds).1

-- what a joining server asks for at a tick
unfoldable pub asks : ℕ → Joining → List Letter
asks p j = asks_of p j j.base j.donors

-- ---- donors

unfoldable pub gives_base : ℕ → Option Closed → ℕ → ℕ → List Letter
gives_base p None q c = []
gives_base p (Some k) q c =
    if suc k.conf == c then letter p q c (BasePart k.trimmed (take k.trimmed k.list)) ∷ [] else []

-- the pieces of a base of so many bytes, in order: of each as many as a part takes, and of the last the rest
abbrev pub pieces_from : ℕ → ℕ → ℕ → ℕ → List Entry → ℕ → ℕ → ℕ → List Letter
pieces_from p q c at front total from_at zero = []
pieces_from p q c at front total from_at (suc most) =
    if nat_lt from_at total
    then letter p q c (BasePiece at total from_at (min most_part_bytes (total - from_at)) front)
    ∷ pieces_from p q c at front total (from_at + most_part_bytes) most
    else []

-- a closed list's base, whose bytes are so many, in pieces
unfoldable pub gives_pieces : ℕ → Option Closed → ℕ → ℕ → ℕ → List Letter
gives_pieces p None q c total = []
gives_pieces p (Some k) q c total =
    if suc k.conf == c
    then pieces_from p q c k.trimmed (take k.trimmed k.list) total 0 (suc (total / most_part_bytes))
    else []

-- entries of the closed list, in as many segments as they need
unfoldable pub gives_segment : ℕ → Option Closed → ℕ → ℕ → ℕ → ℕ → List Letter
gives_segment p None q c a b = []
gives_segment p (Some k) q c a b =
    if (suc k.conf == c) && (nat_le k.trimmed a && (nat_lt a b && nat_le b (length k.list)))
    then parts_from (λ at run. letter p q c (Segment at run)) a (cut (drop a (take b k.list)))
    else []

-- a message of an older configuration is answered with the news of the next one, if its sender is a member of
-- the latest; so is a new session, where the server has left the closed configuration
unfoldable pub refers : ℕ → State → Option Closed → ℕ → List Letter
refers p st None q = []
refers p st (Some k) q =
    if is_member nat_eq (latest_members st) q then letter p q (suc k.conf) (next_conf k) ∷ [] else []

-- ---- letters come

-- what a joining server reads
abbrev pub is_for_joining : Body → Bool
is_for_joining (NextConf members olds len t) = true
is_for_joining AskBase = true
is_for_joining (BasePart at front) = true
is_for_joining (BasePiece at total from_at count front) = true
is_for_joining (AskSegment a b) = true
is_for_joining (Segment a es) = true
is_for_joining _ = false

-- what may be of a configuration that the server doesn't know
abbrev pub is_ahead : Body → Bool
is_ahead (NextConf members olds len t) = true
is_ahead (BasePart at front) = true
is_ahead (BasePiece at total from_at count front) = true
is_ahead (Segment a es) = true
is_ahead _ = false

unfoldable pub inner : Fate → ℕ → State → Option Part → ℕ → ℕ → ℕ → Msg → Stepped
inner f p st None n q c m = unchanged st
inner f p st (Some pt) n q c m = if pt.conf == c then acted f p st pt n (Comes q m) else unchanged st

abbrev pub answers_beat : ℕ → State → Option Part → ℕ → ℕ → Stepped
answers_beat p st None q c = unchanged st
answers_beat p st (Some pt) q c = says st (letter p q c HeartbeatReply ∷ [])

unfoldable pub takes : Fate → ℕ → State → ℕ → ℕ → ℕ → Body → Stepped
takes f p st n q c (Inner m) = inner f p st st.part n q c m
takes f p st n q c HeartbeatRequest = answers_beat p st st.part q c
takes f p st n q c HeartbeatReply = unchanged st
takes f p st n q c (NextConf members olds len t) = unchanged (invited p st q c members olds len t)
takes f p st n q c AskBase = says st (gives_base p st.closed q c)
takes f p st n q c (BasePart at front) = based f p st st.joining c at front
takes f p st n q c (BasePiece at total from_at count front) =
    pieced f p st st.joining c at total from_at count front
takes f p st n q c (AskSegment a b) = says st (gives_segment p st.closed q c a b)
takes f p st n q c (Segment a es) = got_segment f p st st.joining c a es

-- whether it asks for something itself: for a Prepare, or for a closed list
abbrev pub is_request : Body → Bool
is_request (Inner PrepareReq) = true
is_request AskBase = true
is_request (AskSegment a b) = true
is_request _ = false

-- a server asks q for a Prepare in the latest configuration that it knows, whether it is a member there
-- or not;
-- one that knows none sends what does nothing but show that it knows none
unfoldable pub sought : Fate → ℕ → State → Option Part → Option Closed → ℕ → Stepped
sought f p st (Some pt) k q = acted f p st pt 0 (Up q)
sought Done p st None (Some k) q =
    record {
      state = st;
      sends = letter p q (suc k.conf) (Inner PrepareReq) ∷ [];
      inside = record { conf = suc k.conf; fate = Done; input = Up q; number = 0 } ∷ [];
    }
sought Stopped p st None (Some k) q = unchanged st
sought f p st None None q = says st (letter p q 0 HeartbeatReply ∷ [])

-- A message of a configuration that the server doesn't know comes from q: so q knows of a later one, and
-- tells of the next one again when it is asked in the latest that the server knows.
unfoldable pub seeks : Fate → ℕ → State → ℕ → Body → Stepped
seeks f p st q b =
    if is_some st.joining || is_request b then unchanged st else sought f p st st.part st.closed q

-- letter number n comes
unfoldable pub reads : Fate → ℕ → State → ℕ → Letter → Stepped
reads f p st n m =
    if is_some st.joining && not (is_for_joining m.body) then unchanged st
    else if nat_lt m.conf (latest st) then says st (refers p st st.closed m.from)
    else if nat_lt (latest st) m.conf && not (is_ahead m.body) then seeks f p st m.from m.body
    else takes f p st n m.from m.conf m.body

-- whether it asks for a base
abbrev pub asks_base : Body → Bool
asks_base AskBase = true
asks_base _ = false

-- a letter comes that asks for a base, which takes so many bytes: too many for one message. How many bytes a
-- base takes is not known here, so that what happens tells it.
unfoldable pub answers_long : ℕ → State → ℕ → Letter → Stepped
answers_long p st total m =
    if asks_base m.body && (m.conf == latest st)
    then says st (gives_pieces p st.closed m.from m.conf total) else unchanged st

-- ---- a server's step

pub data Event : Type 0 where
  -- a tick, and the ballot that its round elected, if it is the server's own
  Ticks : Option ℕ → Event
  -- a tick whose round heard no majority: these members, which it heard, are asked for a Prepare
  TicksAlone : (heard : ℕ → Bool) → Event
  -- these are proposed together
  Proposes : List Entry → Event
  Trims : Event
  Links : ℕ → Event
  Unlinks : ℕ → Event
  -- it says something to these, of a configuration each, that has no effect on servers
  Notes : List (ℕ × ℕ) → Event
  Reads : (number : ℕ) → Letter → Event
  -- the same, where what it asks for takes this many bytes, and goes in pieces
  ReadsLong : (number total : ℕ) → Letter → Event

abbrev pub is_idle : Role → Bool
is_idle Idle = true
is_idle _ = false

-- what is proposed together is refused as a whole: behind a stop-sign, past the positions, and without a
-- leader, where no ballot is promised, or the own one is given up
abbrev pub may_propose_in : ℕ → Node → List Entry → Bool
may_propose_in p nd es =
    not (overflows nd.log es) && (nat_lt 0 nd.promised && not ((owner nd.promised == p) && is_idle nd.role))

abbrev pub may_propose : ℕ → State → Option Part → List Entry → Bool
may_propose p st None es = false
may_propose p st (Some pt) es = not (is_some st.joining) && may_propose_in p pt.node es

-- a tick that is this inside the configuration asks for heartbeats first
abbrev pub ticked : Fate → ℕ → State → Part → Input → Stepped
ticked f p st pt i =
    let k = acted f p st pt 0 i in
    record {
      state = k.state;
      sends = to_all p pt.conf HeartbeatRequest pt.members ++ k.sends;
      inside = k.inside;
    }

unfoldable pub led : Fate → ℕ → State → Part → Option ℕ → Stepped
led f p st pt None = says st (to_all p pt.conf HeartbeatRequest pt.members)
led f p st pt (Some n) = ticked f p st pt (Elected n)

abbrev pub ticks_in : Fate → ℕ → State → Option Joining → Option Part → Option ℕ → Stepped
ticks_in f p st (Some j) pt n = says st (asks p j)
ticks_in f p st None None n = unchanged st
ticks_in f p st None (Some pt) n = led f p st pt n

abbrev pub ticks_alone_in : Fate → ℕ → State → Option Joining → Option Part → (ℕ → Bool) → Stepped
ticks_alone_in f p st (Some j) pt heard = unchanged st
ticks_alone_in f p st None None heard = unchanged st
ticks_alone_in f p st None (Some pt) heard = ticked f p st pt (CutOff heard)

abbrev pub links_in : Fate → ℕ → State → Option Joining → ℕ → Option Part → Stepped
links_in f p st (Some j) q pt = unchanged st
links_in f p st None q None = says st (refers p st st.closed q)
links_in f p st None q (Some pt) =
    if is_member nat_eq pt.members q && not (q == p) then acted f p st pt 0 (Up q) else unchanged st

-- letters that have no effect on servers
abbrev pub notes : ℕ → List (ℕ × ℕ) → List Letter
notes p [] = []
notes p (x ∷ xs) = letter p x.0 x.1 HeartbeatReply ∷ notes p xs

unfoldable pub step : Fate → ℕ → State → Event → Stepped
step f p st (Ticks n) = ticks_in f p st st.joining st.part n
step f p st (TicksAlone heard) = ticks_alone_in f p st st.joining st.part heard
step f p st (Proposes es) =
    if may_propose p st st.part es then acted_in f p st st.part (Proposal es) else unchanged st
step f p st Trims = acted_in f p st st.part TrimNow
step f p st (Links q) = links_in f p st st.joining q st.part
step f p st (Unlinks q) = acted_in f p st st.part (Down q)
step f p st (Notes xs) = says st (notes p xs)
step f p st (Reads n m) = reads f p st n m
step f p st (ReadsLong n total m) = answers_long p st total m
