-- What a text of settings sets.
use Rattle.std.specs.Prelude.{◌≡◌, ◌⊎◌, ◌≤◌, ◌^◌, ℕ, Bool, false, List, [], length, map, codes, decimal, pos, Option, Some, None, IsUtf8, All, Contains}
use Rattle.std.specs.Map.{keys_of}
use Rattle.toml.specs.Data.{Data, Members as Table, integer, array, string, boolean, get_member}
use Rattle.toml.specs.Data.{table as subtable}
use Rattle.toml.specs.Parse.{parse_document}
use Rattle.toml.specs.View.{items_of}
use Rattle.op_types.specs.Ranges.{IsPid, IsMember, AreRising, MembersInRange}
use Rattle.op_outside.specs.declared.net.Addr.{Addr}
use Rattle.op_setup.specs.declared.config.Settings.{Settings}
use Rattle.op_setup.specs.Addresses.{AddrInRange, addr_text}
use Rattle.op_setup.specs.Identities.{IsClusterName}

-- the most milliseconds between two ticks
abbrev pub most_tick_ms : ℕ
most_tick_ms = 60000

-- the most turns of the serving loop
abbrev pub most_turns : ℕ
most_turns = 10 ^ 12

-- the most untrimmed entries at which a leader may be set to trim by itself
abbrev pub most_trim_every : ℕ
most_trim_every = 10 ^ 12

-- the most nodes of a cluster
abbrev pub most_peers : ℕ
most_peers = 62

-- a node's id and its address
abbrev pub Peer : Type 0
Peer = ℕ × Addr

-- the text is the table's, in TOML
abbrev pub IsToml : List ℕ → Table → Type 0
IsToml text table = IsUtf8 text × (parse_document text ≡ Some table)

-- the key has a number from 1 to `most`
pub record HasNumber (table : Table) (key : List ℕ) (most : ℕ) (n : ℕ) : Type 0 where
  pub there : get_member key table ≡ Some (integer (pos n))
  pub least : 1 ≤ n
  pub greatest : n ≤ most

-- the milliseconds between two ticks
abbrev pub SetsTickMs : Table → ℕ → Type 0
SetsTickMs table n = HasNumber table (codes "tick_ms") most_tick_ms n

-- the turns of the serving loop
abbrev pub SetsTurns : Table → ℕ → Type 0
SetsTurns table n = HasNumber table (codes "turns") most_turns n

-- an id in TOML
abbrev pub id_data : ℕ → Data
id_data id = integer (pos id)

-- the members of the first configuration, as an array of rising ids
pub record SetsMembers (table : Table) (members : List ℕ) : Type 0 where
  pub there : get_member (codes "members") table ≡ Some (array (items_of (map id_data members)))
  pub in_range : MembersInRange members

-- a row of a table is the peer's: its key is the id, its value the address as text
pub record IsRow (key : List ℕ) (value : Data) (peer : Peer) : Type 0 where
  pub id : IsPid peer.0
  pub addr : AddrInRange peer.1
  pub key_text : key ≡ decimal peer.0
  pub value_text : value ≡ string (addr_text peer.1)

-- the peer has a row
abbrev pub HasPeer : Table → Peer → Type 0
HasPeer rows peer =
    (key : List ℕ) × (value : Data) × (get_member key rows ≡ Some value) × IsRow key value peer

-- the row is that of some of these peers
abbrev pub IsSomePeers : List Peer → List ℕ → Data → Type 0
IsSomePeers peers key value = (peer : Peer) × Contains peers peer × IsRow key value peer

-- the rows are these peers', by rising id
pub record AreRows (rows : Table) (peers : List Peer) : Type 0 where
  pub rising : AreRising 0 (keys_of peers)
  pub each : All (HasPeer rows) peers
  pub all : (key : List ℕ) (value : Data) → get_member key rows ≡ Some value → IsSomePeers peers key value

-- the key `peers` has a table of these peers
abbrev pub HasPeers : Table → List Peer → Type 0
HasPeers table peers =
    (rows : Table) × (get_member (codes "peers") table ≡ Some (subtable rows)) × AreRows rows peers

-- the nodes of the cluster, every member among them
pub record SetsPeers (table : Table) (members : List ℕ) (peers : List Peer) : Type 0 where
  pub there : HasPeers table peers
  pub some : 1 ≤ length peers
  pub few : length peers ≤ most_peers
  pub together : All (Contains (keys_of peers)) members

-- the disks are mirrored where the key says so; absent, it says that they aren't
abbrev pub SetsMirror : Table → Bool → Type 0
SetsMirror table b =
    let value = get_member (codes "mirror") table in
    (value ≡ Some (boolean b)) ⊎ ((value ≡ None) × (b ≡ false))

-- the nodes that never vote, as an array of rising ids: each is a peer's, and none is a member's, too
pub record HasObservers (table : Table) (members : List ℕ) (peers : List Peer) (ids : List ℕ) : Type 0 where
  pub there : get_member (codes "observers") table ≡ Some (array (items_of (map id_data ids)))
  pub rising : AreRising 0 ids
  pub peers_are : All (Contains (keys_of peers)) ids
  pub apart : (id : ℕ) → IsMember ids id → IsMember members id → ⊥

-- these nodes never vote; absent, the key says that there are none
abbrev pub SetsObservers : Table → List ℕ → List Peer → List ℕ → Type 0
SetsObservers table members peers ids =
    HasObservers table members peers ids
    ⊎ ((get_member (codes "observers") table ≡ None) × (ids ≡ []))

-- at how many untrimmed entries a leader trims by itself; absent, it never does
abbrev pub SetsTrimEvery : Table → Option ℕ → Type 0
SetsTrimEvery table None = get_member (codes "trim_every") table ≡ None
SetsTrimEvery table (Some n) = HasNumber table (codes "trim_every") most_trim_every n

-- the name of the cluster; absent, it has none
abbrev pub SetsCluster : Table → Option (List ℕ) → Type 0
SetsCluster table None = get_member (codes "cluster") table ≡ None
SetsCluster table (Some name) = (get_member (codes "cluster") table ≡ Some (string name)) × IsClusterName name

-- the own id, where there is one, is a peer's
abbrev pub IsAmong : List Peer → Option ℕ → Type 0
IsAmong peers None = Unit {0}
IsAmong peers (Some id) = Contains (keys_of peers) id

-- the table sets these, for the node of this id or for a cluster
pub record AreSettings (table : Table) (id : Option ℕ) (s : Settings) : Type 0 where
  pub tick_ms : SetsTickMs table s.tick_ms
  pub turns : SetsTurns table s.turns
  pub members : SetsMembers table s.members
  pub peers : SetsPeers table s.members s.peers
  pub mirror : SetsMirror table s.is_mirrored
  pub observers : SetsObservers table s.members s.peers s.observers
  pub trim_every : SetsTrimEvery table s.trim_every
  pub cluster : SetsCluster table s.cluster
  pub own : IsAmong s.peers id

-- the text sets these; other keys are ignored
abbrev pub IsSettings : List ℕ → Option ℕ → Settings → Type 0
IsSettings text id s = (table : Table) × IsToml text table × AreSettings table id s
