-- What comes in parts is staged in memory until all that belongs together is there: entries of a log, and the
-- bytes of a base.
use Rattle.std.specs.Prelude.{◌==◌, ◌&&◌, ℕ, zero, suc, ◌+◌, nat_le, List, [], ◌∷◌, ◌++◌, length, take, drop, filter, replicate, Option, Some, None, if◌then◌else◌}
use Rattle.op_types.specs.declared.log.Entry.{Entry}
use Rattle.op_types.specs.declared.runs.Piece.{Piece}
use Rattle.op_types.specs.Joinings.{Held, held_at}

-- ---- entries

-- an entry before those that follow it, if it is staged
abbrev pub front_with : Option Entry → List Entry → List Entry
front_with None entries = []
front_with (Some e) entries = e ∷ entries

-- so many staged entries from a position on, up to the first gap
abbrev pub front_up_to : ℕ → Held → ℕ → List Entry
front_up_to zero staged at = []
front_up_to (suc most) staged at = front_with (held_at staged at) (front_up_to most staged (at + 1))

-- the staged entries from a position on, up to the first gap
abbrev pub front_from : Held → ℕ → List Entry
front_from staged at = front_up_to (length staged) staged at

-- those below a position leave
abbrev pub staged_from : Held → ℕ → Held
staged_from staged at = filter (λ x. nat_le at x.0) staged

-- ---- bytes of a base

-- what came so far of a base: where in the closed list it stands, and each of its bytes, if it came
pub record Pieces : Type 0 where
  pub at : ℕ
  pub bytes : List (Option ℕ)

-- a place that has its byte keeps it
abbrev pub kept_or : Option ℕ → ℕ → Option ℕ
kept_or None b = Some b
kept_or (Some c) b = Some c

-- bytes come to the places from the first on
abbrev pub bytes_with : List (Option ℕ) → List ℕ → List (Option ℕ)
bytes_with [] bytes = []
bytes_with (o ∷ held) [] = o ∷ held
bytes_with (o ∷ held) (b ∷ bytes) = kept_or o b ∷ bytes_with held bytes

-- the same, to the places from this one on
abbrev pub bytes_with_at : List (Option ℕ) → ℕ → List ℕ → List (Option ℕ)
bytes_with_at held from bytes = take from held ++ bytes_with (drop from held) bytes

-- what came so far of the base at a position, with so many bytes: another base begins anew
abbrev pub bytes_of : Option Pieces → ℕ → ℕ → List (Option ℕ)
bytes_of None at total = replicate total None
bytes_of (Some p) at total = if p.at == at && length p.bytes == total then p.bytes else replicate total None

-- a piece more
abbrev pub with_piece : Option Pieces → Piece → Pieces
with_piece o p = record { at = p.at; bytes = bytes_with_at (bytes_of o p.at p.total) p.from p.bytes }

-- a byte before those that follow it, if all are there
abbrev pub with_byte : Option ℕ → Option (List ℕ) → Option (List ℕ)
with_byte None bytes = None
with_byte (Some b) None = None
with_byte (Some b) (Some bytes) = Some (b ∷ bytes)

-- the bytes, if all came
abbrev pub whole_bytes : List (Option ℕ) → Option (List ℕ)
whole_bytes [] = Some []
whole_bytes (o ∷ held) = with_byte o (whole_bytes held)
