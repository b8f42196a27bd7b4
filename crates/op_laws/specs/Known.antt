-- What is trimmed, and what was ever sent, is true of the list machine.
use Rattle.std.specs.Prelude.{◌≡◌, ◌≤◌, ℕ, ◌+◌, ◌-◌, List, length, take, drop, Some, All}
use Rattle.op_types.specs.Joinings.{Base}
use Rattle.op_types.specs.declared.durable.Part.{Part}
use Rattle.op_types.specs.declared.durable.Closed.{Closed}
use Rattle.op_types.specs.declared.durable.Joining.{Joining}
use Rattle.op_types.specs.declared.durable.Durable.{Durable}
use Rattle.op_types.specs.declared.log.Entry.{Entry}
use Rattle.op_types.specs.declared.runs.Piece.{Piece}
use Rattle.op_types.specs.declared.messages.Body.{Body}
use Rattle.op_types.specs.declared.messages.Body.TheVariants as body
use Rattle.op_spec.specs.Machine.{Machine, IsAmong, members_of}
use Rattle.op_spec.specs.Service.{base_bytes, service_of}
use Rattle.op_spec.specs.Stands.{BaseStands, prefix_of}
use Rattle.op_runs.specs.World.{Happening}
use Rattle.op_runs.specs.Run.{Execution, first_execution, execution_of}
use Rattle.op_laws.specs.Runs.{RunInRange}

-- every one of these has known a configuration's list so far
abbrev pub AllKnow : Machine → List ℕ → ℕ → ℕ → Type 0
AllKnow m members conf x = (q : ℕ) → IsAmong members q → x ≤ m.known q conf

-- nothing is trimmed of a part, of a closed list or in a base that a member of its configuration never knew
pub record TrimmedIsKnown (m : Machine) (d : Durable) : Type 0 where
  pub part : (p : Part) → d.part ≡ Some p → AllKnow m p.members p.conf p.trimmed
  pub closed : (l : Closed) → d.closed ≡ Some l → AllKnow m l.olds l.conf l.trimmed
  pub base : (j : Joining) (b : Base) → d.joining ≡ Some j → j.base ≡ Some b
      → AllKnow m j.olds (j.conf - 1) b.0

-- what is trimmed at a node is known to every member of that configuration
abbrev pub TrimsAreKnown : Execution → Type 0
TrimsAreKnown t = All (λ n. TrimmedIsKnown t.machine n.state.durable) t.world.nodes

-- so it is after every run
abbrev pub EveryTrimIsKnown : Type 0
EveryTrimIsKnown =
    (members spares : List ℕ) (hs : List Happening) → RunInRange members spares hs
    → TrimsAreKnown (execution_of (first_execution members spares) hs)

-- the news of a configuration are true: who is in it and in the one before, and how long that one's list is
pub record NewsIsTrue (first : List ℕ) (lists : ℕ → List Entry) (conf : ℕ) (members olds : List ℕ)
    (len trimmed : ℕ) : Type 0 where
  pub members_are : members ≡ members_of first lists conf
  pub olds_are : olds ≡ members_of first lists (conf - 1)
  pub len_is : len ≡ length (lists (conf - 1))
  pub within : trimmed ≤ len

-- these entries stand in the list from this position on
pub record SegmentIsTrue (list : List Entry) (at : ℕ) (entries : List Entry) : Type 0 where
  pub within : at + length entries ≤ length list
  pub entries_are : entries ≡ take (length entries) (drop at list)

-- these bytes stand at their place in the base of the list's entries before a position
pub record PieceIsTrue (lists : ℕ → List Entry) (conf : ℕ) (p : Piece) : Type 0 where
  pub within : p.at ≤ length (lists conf)
  pub total : p.total ≡ length (base_bytes (service_of (prefix_of lists conf p.at)))
  pub inside : p.from + length p.bytes ≤ p.total
  pub bytes :
      p.bytes ≡ take (length p.bytes) (drop p.from (base_bytes (service_of (prefix_of lists conf p.at))))

-- What a message of a configuration says is true: news, a base, a piece of one and a segment of the list
-- before, how much its sender has decided, and that every member knows what is to be trimmed.
abbrev pub BodyIsTrue : List ℕ → Machine → ℕ → ℕ → Body → Type 0
BodyIsTrue first m from conf (body.NextConf members olds len trimmed) =
    NewsIsTrue first m.lists conf members olds len trimmed
BodyIsTrue first m from conf (body.BasePart at bytes) = BaseStands m.lists (conf - 1) (at, bytes)
BodyIsTrue first m from conf (body.BasePiece p) = PieceIsTrue m.lists (conf - 1) p
BodyIsTrue first m from conf (body.Segment at entries) = SegmentIsTrue (m.lists (conf - 1)) at entries
BodyIsTrue first m from conf (body.Decide n x) = x ≤ m.known from conf
BodyIsTrue first m from conf (body.Progress n x) = x ≤ m.known from conf
BodyIsTrue first m from conf (body.Trim x) = AllKnow m (members_of first m.lists conf) conf x
BodyIsTrue first m from conf _ = Unit {0}

-- each message that was ever sent is true, where these are the members of configuration 1
abbrev pub MessagesAreTrue : List ℕ → Execution → Type 0
MessagesAreTrue members t =
    All (λ s. BodyIsTrue members t.machine s.from s.message.conf s.message.body) t.world.messages

-- so it is after every run
abbrev pub EveryMessageIsTrue : Type 0
EveryMessageIsTrue =
    (members spares : List ℕ) (hs : List Happening) → RunInRange members spares hs
    → MessagesAreTrue members (execution_of (first_execution members spares) hs)
