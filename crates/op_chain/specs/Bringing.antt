-- What an input brings to a node that joins, and the service that it has once it has all.
use Rattle.std.specs.Prelude.{◌≡◌, ◌||◌, ℕ, Bool, true, false, List, [], ◌∷◌, Option, Some, None, nat_lt, option_map, fold, IfSome, if◌then◌else◌}
use Rattle.op_types.specs.Changes.{joining_with}
use Rattle.op_types.specs.Joinings.{Base, cover_of}
use Rattle.op_types.specs.Stages.{Pieces}
use Rattle.op_types.specs.declared.changes.Change.{Change}
use Rattle.op_types.specs.declared.changes.Change.TheVariants as change
use Rattle.op_types.specs.declared.durable.Joining.{Joining}
use Rattle.op_types.specs.declared.events.Input.{Input}
use Rattle.op_types.specs.declared.events.Input.TheVariants as input
use Rattle.op_types.specs.declared.log.Entry.{Entry}
use Rattle.op_types.specs.declared.messages.Body.{Body}
use Rattle.op_types.specs.declared.messages.Body.TheVariants as body
use Rattle.op_types.specs.declared.messages.Msg.{Msg}
use Rattle.op_types.specs.declared.runs.Piece.{Piece}
use Rattle.op_types.specs.declared.turn.Turn.{Turn}
use Rattle.op_types.specs.declared.turn.Turn.TheVariants as turn
use Rattle.op_spec.specs.Service.{Service}
use Rattle.op_kv.specs.Bases.{IsBase}
use Rattle.op_kv.specs.Maps.{MapState}
use Rattle.op_protocol.specs.Joining.{takes_base, brought_to, joined_service}
use Rattle.op_segments.specs.Brought.{held_base}
use Rattle.op_chain.specs.declared.brought.Brought.{Brought}
use Rattle.op_chain.specs.declared.brought.Brought.TheVariants as brought

-- what an input brings to a node with so much of a base, where this is the latest configuration that it knows
abbrev pub brings : ℕ → Option Joining → Option Pieces → Input → Option (List Change)
brings latest j o (input.Deliver q m) = if nat_lt m.conf latest then None else brought_to j o m.conf m.body
brings latest j o x = None

-- changes by which a node holds what some message brings, with some pieces of a base
abbrev pub IsBrought : Joining → List Change → Type 0
IsBrought j batch = (o : Option Pieces) × (c : ℕ) × (b : Body) × (brought_to (Some j) o c b ≡ Some batch)

-- what is held after these changes
abbrev pub joining_after : Joining → List Change → Joining
joining_after j batch = fold joining_with j batch

-- the base that is held is one, if any is
abbrev pub HasBase : Joining → Type 0
HasBase j = IfSome j.base (λ b. IsBase b.1)

-- the service after the closed list that base and entries cover, if they do
abbrev pub joined : Option Base → Option (List Entry) → Option Service
joined (Some b) (Some entries) = Some (joined_service b entries)
joined b entries = None

-- the service is there exactly where all is held after these changes, and is the one after the closed list
abbrev pub IfJoined : Joining → List Change → Option MapState → Type 0
IfJoined j batch m =
    option_map (λ s. s.service) m ≡ joined (joining_after j batch).base (cover_of (joining_after j batch))

-- a node that joins holds these changes, with the service where it has all then
abbrev pub IsHeld : Joining → List Change → Brought → Type 0
IsHeld j batch (brought.Changes held m) = (held ≡ batch) × IfJoined j batch m
IsHeld j batch (brought.Nothing y) = ⊥

-- A piece completes a base that the node takes, of these bytes; or it brings nothing.
abbrev pub IsCompleted : Joining → Option Pieces → ℕ → Piece → Option (List ℕ) → Type 0
IsCompleted j o c p None = brought_to (Some j) o c (body.BasePiece p) ≡ None
IsCompleted j o c p (Some bytes) =
    IsBase bytes
    × ((takes_base j c p.at bytes ≡ true)
    × (brought_to (Some j) o c (body.BasePiece p) ≡ Some (held_base j p.at bytes)))

-- a message that brings nothing
abbrev pub nothing_of : ℕ → ℕ → Body → Brought
nothing_of q c b = brought.Nothing (input.Deliver q (record { conf = c; body = b }))

-- a message brings these changes; or it brings nothing, and this input is its delivery
abbrev pub BringsOf : Joining → Option Pieces → ℕ → Msg → Brought → Type 0
BringsOf j o q m (brought.Changes batch s) =
    (brought_to (Some j) o m.conf m.body ≡ Some batch) × IfJoined j batch s
BringsOf j o q m (brought.Nothing y) =
    (brought_to (Some j) o m.conf m.body ≡ None) × (y ≡ input.Deliver q m)

-- an input brings these changes, with the service where the node has all then;
-- or it brings nothing, and this is it
abbrev pub Brings : ℕ → Option Joining → Option Pieces → Input → Brought → Type 0
Brings latest j o x (brought.Changes batch m) =
    (brings latest j o x ≡ Some batch) × ((k : Joining) × (j ≡ Some k) × IfJoined k batch m)
Brings latest j o x (brought.Nothing y) = (brings latest j o x ≡ None) × (y ≡ x)

-- ---- beside a base

-- whether a change brings a base
abbrev pub is_join_base : Change → Bool
is_join_base (change.JoinBase at bytes) = true
is_join_base c = false

-- whether one of these does
abbrev pub has_base : List Change → Bool
has_base [] = false
has_base (c ∷ batch) = is_join_base c || has_base batch

-- the turn by which no piece of a base stays staged beside a base
abbrev pub turn_beside : Option Base → Turn
turn_beside None = turn.Stay
turn_beside (Some b) = turn.DropPieces

-- the same, where a node that joins holds these changes
abbrev pub turn_holding : Option Joining → List Change → Turn
turn_holding None batch = turn.Stay
turn_holding (Some j) batch = turn_beside (joining_after j batch).base
