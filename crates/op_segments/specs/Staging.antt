-- How a piece of a base is staged, and the base that it completes.
use Rattle.std.specs.Prelude.{◌≡◌, ◌==◌, ◌&&◌, ◌+◌, ◌≤◌, ℕ, Bool, false, List, [], length, take, drop, replicate, Option, Some, None, if◌then◌else◌}
use Rattle.op_types.specs.Limits.{most_part_bytes}
use Rattle.op_types.specs.Stages.{Pieces, with_piece, whole_bytes}
use Rattle.op_types.specs.declared.durable.Joining.{Joining}
use Rattle.op_types.specs.declared.runs.Piece.{Piece}
use Rattle.op_types.specs.declared.turn.Turn.{Turn}
use Rattle.op_types.specs.declared.turn.Turn.TheVariants as turn
use Rattle.op_protocol.specs.State.{Volatile, PartStep}
use Rattle.op_protocol.specs.Joining.{storing, takes_piece}

-- the piece of the base at a position, from a place among its bytes on
abbrev pub piece_of : ℕ → List ℕ → ℕ → Piece
piece_of at bytes from =
    record { at = at; total = length bytes; from = from; bytes = take most_part_bytes (drop from bytes) }

-- the bytes of a piece's base, if with the piece all of them are there
abbrev pub whole_with : Option Pieces → Piece → Option (List ℕ)
whole_with o p = whole_bytes (with_piece o p).bytes

-- the same, if the node takes the piece
abbrev pub completed : Joining → Option Pieces → ℕ → Piece → Option (List ℕ)
completed j o c p = if takes_piece j c p then whole_with o p else None

-- ---- turns

-- what a turn makes of the pieces that are staged
abbrev pub pieces_in : Turn → Option Pieces → Option Pieces
pieces_in (turn.StagePiece p fresh) o = Some (with_piece o p)
pieces_in turn.DropPieces o = None
pieces_in t o = o

-- at each node that has so much staged of a base, a turn does this step
abbrev pub StagesAs : Option Pieces → Turn → (Volatile → PartStep) → Type 0
StagesAs o t step =
    (v : Volatile) →
    (let w : Volatile = record v { pieces = o } in
    storing (record w { pieces = pieces_in t o }) [] ≡ step w)

-- ---- room

-- these pieces are of a piece's base
abbrev pub are_of : Piece → Option Pieces → Bool
are_of p None = false
are_of p (Some s) = s.at == p.at && length s.bytes == p.total

-- no byte came yet of a piece's base
abbrev pub none_came : Piece → Pieces
none_came p = record { at = p.at; bytes = replicate p.total None }

-- A piece stands inside its base. It goes to the pieces of its base that are staged, or else to these, to
-- which no byte came.
pub record PieceHasRoom (p : Piece) (fresh staged : Option Pieces) : Type 0 where
  pub inside : p.from + length p.bytes ≤ p.total
  pub empty : are_of p staged ≡ false → fresh ≡ Some (none_came p)

-- the turn changes the staged pieces alone, and there is room for what it adds
abbrev pub HasRoomToPiece : Turn → Option Pieces → Type 0
HasRoomToPiece turn.Stay o = Unit {0}
HasRoomToPiece turn.DropPieces o = Unit {0}
HasRoomToPiece (turn.StagePiece p fresh) o = PieceHasRoom p fresh o
HasRoomToPiece t o = ⊥
