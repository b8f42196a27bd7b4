-- What is kept beside a node that is served, and what each thing that is done makes of it in ample memory.
use Rattle.std.specs.Prelude.{◌+◌, ◌++◌, ◌∷◌, [], ℕ, min, List, length, flat_map, Bool, false, not, ◌==◌, nat_lt, if◌then◌else◌, Option, Some, None, is_some, option_map}
use Rattle.std.specs.List.{list_any}
use Rattle.std.specs.Map.{lookup, set_value, keys_of}
use Rattle.std.specs.BTreeMap.{is_at}
use Rattle.std.specs.Ordering.{nat_cmp, bool_cmp, ordering_then}
use Rattle.std.specs.FinMap as map
use Rattle.std.specs.declared.cmp.Ordering.{Ordering}
use Rattle.op_types.specs.declared.log.Command.{Command}
use Rattle.op_types.specs.declared.messages.Msg.{Msg}
use Rattle.op_serving.specs.declared.kind.Kind.{Kind}
use Rattle.op_serving.specs.declared.kind.Kind.TheVariants.{Unknown, Peer, Client}
use Rattle.op_serving.specs.declared.session.Session.{Session}
use Rattle.op_serving.specs.declared.mark.Mark.{Mark}
use Rattle.op_serving.specs.declared.mark.Place.{Place}

-- ---- tables by connection or id

abbrev pub Table : Type 0 → Type 0
Table X = List (ℕ × X)

-- the entry of a number
abbrev pub find : {X : Type 0} → ℕ → Table X → Option X
find c t = lookup (is_at (nat_cmp c)) t

-- with another entry in its place
abbrev pub set : {X : Type 0} → ℕ → X → Table X → Table X
set c x t = set_value (is_at (nat_cmp c)) t x

-- without it
abbrev pub without : {X : Type 0} → ℕ → Table X → Table X
without c [] = []
without c (e ∷ t) = if is_at (nat_cmp c) e.0 then without c t else e ∷ without c t

-- with the entry changed, if there is one
abbrev pub changed_at : {X : Type 0} → (X → X) → ℕ → Option X → Table X → Table X
changed_at f c None t = t
changed_at f c (Some x) t = set c (f x) t

abbrev pub changed : {X : Type 0} → (X → X) → ℕ → Table X → Table X
changed f c t = changed_at f c (find c t) t

-- ---- what is kept

-- a command or a read, by its client and its number
abbrev pub Key : Type 0
Key = ℕ × ℕ

abbrev pub pair_cmp : Key → Key → Ordering
pair_cmp p q = ordering_then (nat_cmp p.0 q.0) (nat_cmp p.1 q.1)

-- what a client waits for: whether it is a read, and which one
abbrev pub Awaited : Type 0
Awaited = Bool × Key

abbrev pub awaited_cmp : Awaited → Awaited → Ordering
awaited_cmp p q = ordering_then (bool_cmp p.0 q.0) (pair_cmp p.1 q.1)

-- who asked last for it: the connection of a session that is there
abbrev pub Askers : Type 0
Askers = map.FinMap awaited_cmp ℕ

-- the askers that a table names
abbrev pub askers_in : List (Awaited × ℕ) → Askers
askers_in es = map.from_entries es

-- whoever asked at a connection waits no more
abbrev pub is_conn : ℕ → Option ℕ → Bool
is_conn c None = false
is_conn c (Some d) = d == c

abbrev pub without_asker : ℕ → Askers → Askers
without_asker c t = map.retain_keys t (λ key. not (is_conn c (map.get t key)))

-- what is kept beside the node
pub record Loop : Type 0 where
  pub me : ℕ
  pub peers : Table (Option ℕ)  -- each peer, and the connection of its last session
  pub sessions : Table Session  -- each open connection
  pub askers : Askers
  pub gathered : Table Command  -- commands that were read and are not given yet, each with its connection
  pub brought : Table (ℕ × Msg)  -- messages that were read and are not given yet, each with its sender
  pub behind : Table (List ℕ)  -- frames for which there was no room, in order
  pub place : Place  -- where in the run: turn, happening, inputs, frames
  pub lost : List Mark
  pub closes : List ℕ  -- the connections that are to be closed, in order
  pub downs : List ℕ  -- the peers whose Down is to be given, in order
  pub ending : Bool  -- whether an end request was read

-- which node it is, and the servers that it knows: its peers and itself
pub record Roster : Type 0 where
  pub me : ℕ
  pub ids : List ℕ

abbrev pub roster_of : Loop → Roster
roster_of s = record { me = s.me; ids = keys_of s.peers }

-- whether a server is one of these
abbrev pub is_known : List ℕ → ℕ → Bool
is_known ids q = list_any (is_at (nat_cmp q)) ids

-- the first of these members that is none of the servers
abbrev pub stranger_in : List ℕ → List ℕ → Option ℕ
stranger_in ids [] = None
stranger_in ids (m ∷ ms) = if is_known ids m then stranger_in ids ms else Some m

-- whose session a connection is
abbrev pub kind_at : ℕ → Loop → Option Kind
kind_at c s = option_map (λ x. x.kind) (find c s.sessions)

-- a connection has a session
abbrev pub is_open : ℕ → Loop → Bool
is_open c s = is_some (find c s.sessions)

-- ---- sessions

-- bytes wait for a connection
abbrev pub with_bytes : List ℕ → Session → Session
with_bytes bytes x = record x { queue = x.queue ++ bytes }

abbrev pub waits_for : ℕ → List ℕ → Loop → Loop
waits_for c bytes s = record s { sessions = changed (with_bytes bytes) c s.sessions }

-- the connection of a peer's session, if it is still that
abbrev pub if_its : ℕ → ℕ → Option Session → Option ℕ
if_its q c None = None
if_its q c (Some x) =
    elim x.kind [ Unknown ↦ None | Peer p h ↦ if p == q then Some c else None | Client ↦ None ]

abbrev pub open_of : ℕ → Option (Option ℕ) → Table Session → Option ℕ
open_of q None t = None
open_of q (Some None) t = None
open_of q (Some (Some c)) t = if_its q c (find c t)

abbrev pub session_of : ℕ → Loop → Option ℕ
session_of q s = open_of q (find q s.peers) s.sessions

-- whose Down is to be given once a session of this kind is over: a peer's that had its Up
abbrev pub down_of : Kind → List ℕ
down_of Unknown = []
down_of (Peer q h) = if h == 0 then q ∷ [] else []
down_of Client = []

-- A session is over: it waits for nothing, what it brought that was not given yet and its frames go with it,
-- its connection is to be closed, and its peer goes down.
abbrev pub left_at : ℕ → Option Kind → Loop → Loop
left_at c None s = s
left_at c (Some kind) s = record s {
  sessions = without c s.sessions;
  askers = without_asker c s.askers;
  gathered = without c s.gathered;
  brought = without c s.brought;
  behind = without c s.behind;
  closes = s.closes ++ c ∷ [];
  downs = s.downs ++ down_of kind;
}

abbrev pub left_by : ℕ → Loop → Loop
left_by c s = left_at c (kind_at c s) s

-- one more, up to the last value of a u64
abbrev pub next : ℕ → ℕ
next n = min (n + 1) 18446744073709551615

-- one more input came
abbrev pub counted : Loop → Loop
counted s = record s { place = record s.place { inputs = next s.place.inputs } }

-- ---- how much may wait

-- how many bytes may wait for a connection
abbrev pub most_waiting : ℕ
most_waiting = 16777216

-- more bytes wait for a session than may
abbrev pub is_overfull : Option Session → Bool
is_overfull None = false
is_overfull (Some x) = nat_lt most_waiting (length x.queue)

-- Such a session is over. That counts as an input does: what is lost before it is of another place than what
-- is lost behind it.
abbrev pub shed_at : ℕ → Loop → Loop
shed_at c s = if is_overfull (find c s.sessions) then counted (left_by c s) else s

abbrev pub shed_each : List ℕ → Loop → Loop
shed_each [] s = s
shed_each (c ∷ cs) s = shed_each cs (shed_at c s)

-- the connection of a peer's last session
abbrev pub conn_of : ℕ × Option ℕ → List ℕ
conn_of (q, None) = []
conn_of (q, Some c) = c ∷ []

-- all such sessions are over: first those of peers, by rising id
unfoldable pub shed : Loop → Loop
shed s = shed_each (flat_map conn_of s.peers ++ keys_of s.sessions) s
