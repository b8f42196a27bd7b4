-- The bytes of a call of a disk in memory.
use Rattle.std.specs.Prelude.{ℕ, ◌≤◌, List, take}
use Rattle.op_memory.specs.declared.piece.Kept.{Kept}
use Rattle.op_memory.specs.declared.piece.Kept.TheVariants.{Short, Long}

-- so many bytes lie in a piece itself
abbrev pub short_len : ℕ
short_len = 16

-- bytes, wherever they lie
pub record Bytes : Type 0 where
  pub items : List ℕ

-- those that lie here
abbrev pub bytes_of : Kept → Bytes
bytes_of (Short bytes len) = record { items = take len bytes }
bytes_of (Long bytes) = record { items = bytes.items }

-- there are no more than have room
abbrev pub IsSoundPiece : Kept → Type 0
IsSoundPiece (Short bytes len) = len ≤ short_len
IsSoundPiece (Long bytes) = Unit {0}
