-- What else the driver is told: connections that begin and end, bytes that were written, ticks,
-- and where in the run it is.
use Rattle.std.specs.Prelude.{◌-◌, ◌++◌, ◌∷◌, [], ℕ, List, length, take, drop, false, ◌==◌, ◌&&◌, nat_le, nat_lt, if◌then◌else◌, Option, Some, None}
use Rattle.std.specs.Int.{w8, w32}
use Rattle.std.specs.List.{find as first}
use Rattle.std.specs.Map.{keys_of}
use Rattle.std.specs.BTreeMap.{insert_entry}
use Rattle.std.specs.FinMap as map
use Rattle.std.specs.Ordering.{nat_cmp}
use Rattle.op_types.specs.declared.events.Input.TheVariants as input
use Rattle.op_fields.specs.Form.{encoded}
use Rattle.op_frame.specs.Framing.{Stream, stream_of}
use Rattle.op_serving.specs.declared.kind.Kind.{Kind}
use Rattle.op_serving.specs.declared.kind.Kind.TheVariants.{Unknown, Peer, Client}
use Rattle.op_serving.specs.declared.session.Session.{Session}
use Rattle.op_serving.specs.Cores.{wants_trim}
use Rattle.op_serving.specs.Wire.{peer_head, client_head}
use Rattle.op_serving.specs.State.{Loop, Table, without, without_asker, find, changed, is_open, kind_at, next}
use Rattle.op_serving.specs.Inputs.{State, Luck, begins, takes, noting, calm, give}
use Rattle.op_serving.specs.Reading.{peer_byte, peer_limit, hello_len}

-- before the first turn no connection is open
abbrev pub fresh : ℕ → Loop
fresh me = record {
  me = me;
  peers = [];
  sessions = [];
  askers = map.empty;
  gathered = [];
  brought = [];
  behind = [];
  place = record { turn = 0; at = 0; inputs = 0; frames = 0 };
  lost = [];
  closes = [];
  downs = [];
  ending = false;
}

-- a peer is known, and has no session
abbrev pub knowing : ℕ → Loop → Loop
knowing q s = record s { peers = insert_entry nat_cmp s.peers q None }

-- where in the run: at a happening, from 1; 0 stands for tick and dials, 65 for writes
abbrev pub happens_at : ℕ → Loop → Loop
happens_at i s = record s { place = record s.place { at = i; frames = 0 } }

abbrev pub turn_begins : Loop → Loop
turn_begins s = record s { place = record s.place { turn = next s.place.turn; at = 0; frames = 0 } }

abbrev pub at_happening : ℕ → State → State
at_happening i s = record s { loop = happens_at i s.loop }

abbrev pub turn_begun : State → State
turn_begun s = record s { loop = turn_begins s.loop }

-- the hello of a peer: the byte and its id
unfoldable pub hello : ℕ → List ℕ
hello me = encoded w8 peer_byte ++ encoded w32 me

-- a peer that is dialled sends no hello, and frames at once
abbrev pub stream_for : Kind → Stream
stream_for (Peer q h) = stream_of peer_head peer_limit []
stream_for _ = stream_of client_head 0 []

-- what waits for it at once: a dialler's hello
abbrev pub first_bytes : Kind → ℕ → List ℕ
first_bytes (Peer q h) me = hello me
first_bytes _ me = []

-- a dialled connection is its peer's session at once
abbrev pub dialled_to : Kind → ℕ → Table (Option ℕ) → Table (Option ℕ)
dialled_to (Peer q h) c t = changed (λ _. Some c) q t
dialled_to _ c t = t

abbrev pub made_session : Kind → ℕ → Session
made_session kind me = record { kind = kind; frames = stream_for kind; queue = first_bytes kind me }

-- a new connection has a session
abbrev pub joining : ℕ → Kind → Loop → Loop
joining c kind s = record s {
  peers = dialled_to kind c s.peers;
  sessions = insert_entry nat_cmp s.sessions c (made_session kind s.me);
}

-- a connection without a session is to be closed
abbrev pub closed_new : ℕ → Loop → Loop
closed_new c s = record s {
  askers = without_asker c s.askers;
  gathered = without c s.gathered;
  brought = without c s.brought;
  behind = without c s.behind;
  closes = s.closes ++ c ∷ [];
}

abbrev pub joined : Luck → ℕ → Kind → State → State
joined l c kind s = calm l
    (noting (begins c (first_bytes kind s.loop.me)) (record s { loop = joining c kind s.loop }))

abbrev pub accepted : Luck → ℕ → State → State
accepted l c s = if is_open c s.loop then s else joined l c Unknown s

abbrev pub dialled : Luck → ℕ → ℕ → State → State
dialled l q c s = if is_open c s.loop then s else joined l c (Peer q hello_len) s

-- a tick is due
abbrev pub ticked : Luck → State → State
ticked l s = give l [] input.Tick s

-- Right behind it the node gives itself a wish to trim, where so many entries that it has decided are not
-- trimmed. It is no client's, so that nobody is told what becomes of it; one that doesn't lead refuses it.
abbrev pub trimmed : Luck → Option ℕ → State → State
trimmed l every s = if wants_trim every s.node then give l [] input.TrimNow s else s

-- ---- writes

-- what waits for a connection; what is left of a dialler's hello goes out first
abbrev pub queue_in : Option Session → List ℕ
queue_in None = []
queue_in (Some x) = elim x.kind [
  | Unknown ↦ x.queue
  | Peer q h ↦ if h == 0 then x.queue else take h x.queue
  | Client ↦ x.queue
]

abbrev pub waiting : ℕ → State → List ℕ
waiting c s = queue_in (find c s.loop.sessions)

-- the least connection from this one on for which bytes wait
abbrev pub waiting_from : ℕ → Table Session → Option ℕ
waiting_from low t = first (λ c. nat_le low c && nat_lt 0 (length (queue_in (find c t)))) (keys_of t)

-- a connection took so many bytes
abbrev pub hello_less : ℕ → Kind → Kind
hello_less n (Peer q h) = Peer q (h - n)
hello_less n Unknown = Unknown
hello_less n Client = Client

abbrev pub without_bytes : ℕ → Session → Session
without_bytes n x = record x { kind = hello_less n x.kind; queue = drop n x.queue }

-- the peer to whom a dialler's hello went out whole, by whose session it was before and is now
abbrev pub up_peer : Option Kind → Option Kind → Option ℕ
up_peer (Some (Peer q h)) (Some (Peer p left)) = if h == 0 then None else if left == 0 then Some q else None
up_peer _ _ = None

-- that peer goes up
abbrev pub up_at : Luck → Option ℕ → State → State
up_at l None s = s
up_at l (Some q) s = give l [] (input.Up q) s

-- a connection took so many bytes of what waits for it
abbrev pub taken_of : ℕ → ℕ → Loop → Loop
taken_of c n s = record s { sessions = changed (without_bytes n) c s.sessions }

abbrev pub taken_by : ℕ → ℕ → State → State
taken_by c n s = noting (takes c (take n (waiting c s))) (record s { loop = taken_of c n s.loop })

abbrev pub wrote : Luck → ℕ → ℕ → State → State
wrote l c n s =
    let t : State = taken_by c n s in up_at l (up_peer (kind_at c s.loop) (kind_at c t.loop)) t
