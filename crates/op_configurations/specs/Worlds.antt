-- All servers, what they have sent, and the run's machine: its lists are the ledger.
use Rattle.std.specs.Prelude.{ℕ, max, Bool, true, false, ◌&&◌, ◌||◌, ◌==◌, if◌then◌else◌, nat_eq, Option, Some, None, List, [], ◌∷◌, ◌++◌, length, take, drop, slice_get, fold}
use Rattle.std.specs.Set.{is_member}
use Rattle.op_types.specs.declared.log.Entry.{Entry}
use Rattle.op_spec.specs.Machine.{Machine, first_machine}
use Rattle.op_spec.specs.Ledger.{machine_proposing}
use Rattle.op_paxos.specs.Messages.{packet}
use Rattle.op_paxos.specs.Worlds as paxos
use Rattle.op_spec.specs.Machine.{with_at}
use Rattle.op_paxos.specs.Messages.{Packet}
use Rattle.op_paxos.specs.Worlds.{Input, Elected, Proposal, Comes, Up, CutOff, Starts, TrimNow}
use Rattle.op_configurations.specs.Servers.{Part, Closed, Joining, State, Letter, Body, Inner, Inside, Stepped, unchanged, Fate, Done, Stopped, Event, Proposes, Reads, ReadsLong, decided_list, new_part, restarted, without_pieces, may_propose, step}

-- a server runs, or it is down: then the event in which it stopped is kept, if it stopped inside one
pub data Life : Type 0 where
  Running : Life
  Down : Option Event → Life

pub record Server : Type 0 where
  pub state : State
  pub life : Life

-- all servers, all letters that were sent, and what has happened inside each configuration, as events of its
-- own world
pub record World : Type 0 where
  pub servers : ℕ → Server
  pub soup : List Letter
  pub inner : ℕ → List paxos.Event

pub data Happening : Type 0 where
  -- an event at p that is no letter
  At : (fate : Fate) (p : ℕ) → Event → Happening
  -- letter n of all that were sent comes to its addressee
  Delivers : (fate : Fate) (n : ℕ) → Happening
  -- letter n comes, which asks for a base that takes this many bytes: too many for one message
  DeliversLong : (fate : Fate) (n total : ℕ) → Happening
  -- p stops between steps
  Stops : (p : ℕ) → Happening
  -- p opens: with the state from before the event in which it stopped, or from after it
  Opens : (p : ℕ) (after : Bool) → Happening

-- a letter is read only where it was sent
abbrev pub is_letter : Event → Bool
is_letter (Reads n m) = true
is_letter (ReadsLong n total m) = true
is_letter _ = false

-- ---- inside a configuration

abbrev pub inner_with : ℕ → ℕ → ℕ → ℕ → Body → List Packet → List Packet
inner_with c from to conf (Inner m) ms = if conf == c then packet from to m ∷ ms else ms
inner_with c from to conf _ ms = ms

-- the messages of a configuration among these letters
abbrev pub inner_of : ℕ → List Letter → List Packet
inner_of c [] = []
inner_of c (m ∷ ms) = inner_with c m.from m.to m.conf m.body (inner_of c ms)

-- the number of a letter among the messages of its configuration
abbrev pub place_in : ℕ → ℕ → List Letter → ℕ
place_in c n soup = length (inner_of c (take n soup))

abbrev pub with_fate : Fate → paxos.Event → paxos.Event
with_fate Done e = e
with_fate Stopped e = paxos.Stops e

-- a member's input as an event, where a message comes by this number
abbrev pub plain_event : ℕ → ℕ → Input → paxos.Event
plain_event i p (Elected n) = paxos.Leads p n
plain_event i p (Proposal es) = paxos.Proposes p es
plain_event i p (Comes q m) = paxos.Delivers i
plain_event i p (Up q) = paxos.Links p q
plain_event i p (CutOff heard) = paxos.Asks p heard
plain_event i p (paxos.Down q) = paxos.Unlinks p q
plain_event i p Starts = paxos.Restarts p
plain_event i p TrimNow = paxos.Trims p

abbrev pub event_in : List Letter → ℕ → Inside → paxos.Event
event_in soup p x = with_fate x.fate (plain_event (place_in x.conf x.number soup) p x.input)

-- those of configuration c
abbrev pub events_in : List Letter → ℕ → ℕ → List Inside → List paxos.Event
events_in soup p c [] = []
events_in soup p c (x ∷ xs) =
    if c == x.conf then event_in soup p x ∷ events_in soup p c xs else events_in soup p c xs

-- ---- what happens

abbrev pub with_server : World → ℕ → Server → List Letter → List Inside → World
with_server w p sv letters inside =
    record {
      servers = with_at p sv w.servers;
      soup = w.soup ++ letters;
      inner = λ c. w.inner c ++ events_in w.soup p c inside;
    }

unfoldable pub stepped : World → Fate → ℕ → State → Event → World
stepped w Done p st e =
    let o : Stepped = step Done p st e in
    with_server w p (record { state = o.state; life = Running }) o.sends o.inside
stepped w Stopped p st e = with_server w p (record { state = st; life = Down (Some e) }) [] []

-- nothing happens at a server that is down
unfoldable pub at_server : World → Fate → ℕ → Life → Event → World
at_server w f p Running e = stepped w f p (w.servers p).state e
at_server w f p (Down o) e = w

unfoldable pub delivered : World → Fate → (Letter → Event) → Option Letter → World
delivered w f read None = w
delivered w f read (Some m) = at_server w f m.to (w.servers m.to).life (read m)

unfoldable pub stops : World → ℕ → Life → World
stops w p Running = with_server w p (record { state = (w.servers p).state; life = Down None }) [] []
stops w p (Down o) = w

-- the stored state that an opening finds
unfoldable pub found : ℕ → Bool → State → Option Event → Stepped
found p true st (Some e) =
    record { state = (step Stopped p st e).state; sends = []; inside = (step Stopped p st e).inside }
found p true st None = unchanged st
found p false st o = unchanged st

-- a joining server asks nothing when it opens
abbrev pub opening_fate : Option Joining → Fate
opening_fate None = Done
opening_fate (Some j) = Stopped

unfoldable pub opened : World → ℕ → Stepped → World
opened w p o =
    let st = without_pieces o.state in
    let k = restarted (opening_fate st.joining) p st st.part in
    with_server w p (record { state = k.state; life = Running }) k.sends (o.inside ++ k.inside)

unfoldable pub opens : World → ℕ → Bool → Life → World
opens w p after Running = w
opens w p after (Down o) = opened w p (found p after (w.servers p).state o)

unfoldable pub happens : World → Happening → World
happens w (At f p e) = if is_letter e then w else at_server w f p (w.servers p).life e
happens w (Delivers f n) = delivered w f (Reads n) (slice_get w.soup n)
happens w (DeliversLong f n total) = delivered w f (ReadsLong n total) (slice_get w.soup n)
happens w (Stops p) = stops w p (w.servers p).life
happens w (Opens p after) = opens w p after (w.servers p).life

unfoldable pub run : List Happening → World → World
run [] w = w
run (h ∷ hs) w = run hs (happens w h)

abbrev pub first_part : List ℕ → ℕ → Option Part
first_part first p = if is_member nat_eq first p then Some (new_part 1 first) else None

-- each member of the first configuration has its part; another server waits for a later one
unfoldable pub start : List ℕ → World
start first =
    record {
      servers = λ p.
          record {
            state = record { part = first_part first p; closed = None; joining = None };
            life = Running;
          };
      soup = [];
      inner = λ c. [];
    }

-- a server's state after these happenings
abbrev pub state_of : List ℕ → List Happening → ℕ → State
state_of first hs p = ((run hs (start first)).servers p).state

-- ---- what a server shows

-- how much a server's part has decided of a configuration
abbrev pub part_decided : Option Part → ℕ → ℕ
part_decided None c = 0
part_decided (Some pt) c = if c == pt.conf then (pt.node).decided else 0

-- how much a closed list has of a configuration: all
abbrev pub closed_decided : Option Closed → ℕ → ℕ
closed_decided None c = 0
closed_decided (Some k) c = if c == k.conf then length k.list else 0

-- a server's decided index in a configuration
abbrev pub decided_in : State → ℕ → ℕ
decided_in st c = max (part_decided st.part c) (closed_decided st.closed c)

abbrev pub part_entries : Option Part → ℕ → List Entry
part_entries None c = []
part_entries (Some pt) c = if c == pt.conf then decided_list pt.node else []

abbrev pub closed_entries : Option Closed → ℕ → List Entry
closed_entries None c = []
closed_entries (Some k) c = if c == k.conf then k.list else []

-- what a server has decided of a configuration
abbrev pub entries_in : State → ℕ → List Entry
entries_in st c = part_entries st.part c ++ closed_entries st.closed c

abbrev pub has_part : Option Part → ℕ → Bool
has_part None c = false
has_part (Some pt) c = c == pt.conf

-- a server shows its state: each list that it has decided more of gets its entries from the list's end on
abbrev pub machine_showing : Machine → ℕ → State → Machine
machine_showing m p st =
    record {
      lists = λ c. m.lists c ++ drop (length (m.lists c)) (entries_in st c);
      known = λ q c. if q == p then max (m.known q c) (decided_in st c) else m.known q c;
      proposed = m.proposed;
      opened = λ q c. m.opened q c || (q == p && has_part st.part c);
    }

-- ---- the run's machine

abbrev pub reader : Option Letter → Option ℕ
reader None = None
reader (Some m) = Some m.to

-- the server at which something happens
abbrev pub actor : World → Happening → Option ℕ
actor w (At f p e) = Some p
actor w (Delivers f n) = reader (slice_get w.soup n)
actor w (DeliversLong f n total) = reader (slice_get w.soup n)
actor w (Stops p) = Some p
actor w (Opens p after) = Some p

-- each of these is proposed in the part's configuration
abbrev pub proposed_in : Machine → Option Part → List Entry → Machine
proposed_in m None es = m
proposed_in m (Some pt) es = fold (λ x e. machine_proposing x pt.conf e) m es

-- what a running server doesn't refuse is proposed in its configuration, whether its step then ends or not
abbrev pub proposed_at : Machine → Server → ℕ → Event → Life → Machine
proposed_at m sv p (Proposes es) Running =
    if may_propose p sv.state (sv.state).part es then proposed_in m (sv.state).part es else m
proposed_at m sv p (Proposes es) (Down o) = m
proposed_at m sv p _ l = m

abbrev pub proposed_by : Machine → World → Happening → Machine
proposed_by m w (At f p e) = proposed_at m (w.servers p) p e (w.servers p).life
proposed_by m w _ = m

abbrev pub shown_by : Machine → World → Option ℕ → Machine
shown_by m w None = m
shown_by m w (Some p) = machine_showing m p (w.servers p).state

-- the machine after something happened
unfoldable pub machine_with : Machine → World → Happening → Machine
machine_with m w h = shown_by (proposed_by m w h) (happens w h) (actor w h)

unfoldable pub machine_after : List Happening → World → Machine → Machine
machine_after [] w m = m
machine_after (h ∷ hs) w m = machine_after hs (happens w h) (machine_with m w h)

-- the machine of a run
unfoldable pub machine_of : List ℕ → List Happening → Machine
machine_of first hs = machine_after hs (start first) (first_machine first)
