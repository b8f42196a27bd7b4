-- Bytes after a length of one, two or eight bytes.
use Rattle.std.specs.Prelude.{◌≡◌, ◌<◌, ◌^◌, ◌++◌, ◌⊎◌, ℕ, List, length, ◌==◌, if◌then◌else◌}
use Rattle.std.specs.Int.{Width, w8, w16, w64}
use Rattle.op_fields.specs.Form.{encoded}

-- the width of a number of so many bytes
abbrev pub width_of : ℕ → Width
width_of width = if width == 1 then w8 else if width == 2 then w16 else w64

-- a length takes one, two or eight bytes
abbrev pub IsWidth : ℕ → Type 0
IsWidth width = (width ≡ 1) ⊎ (width ≡ 2) ⊎ (width ≡ 8)

-- a length of this width can tell so many bytes
abbrev pub FitsWidth : ℕ → ℕ → Type 0
FitsWidth width n = ((width ≡ 1) × (n < 2 ^ 8)) ⊎ ((width ≡ 2) × (n < 2 ^ 16)) ⊎ ((width ≡ 8) × (n < 2 ^ 64))

-- the length and the bytes
abbrev pub counted_text : ℕ → List ℕ → List ℕ
counted_text width bytes = encoded (width_of width) (length bytes) ++ bytes
