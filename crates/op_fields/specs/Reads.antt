-- What holds of a format: what is read is encoded so, and what is encoded so is read.
use Rattle.std.specs.Prelude.{◌≡◌, ◌<◌, ◌≤◌, ◌+◌, ◌++◌, ◌^◌, ℕ, List, length, drop, get_or, Ok}
use Rattle.std.specs.Int.{Width, w8, w16, w32, w64, w128}
use Rattle.op_fields.specs.Form.{Form, whole}

-- each is a byte
abbrev pub IsBytes : List ℕ → Type 0
IsBytes bytes = (i : ℕ) → get_or bytes i 0 < 256

-- one, two, four or eight bytes
abbrev pub IsFieldWidth : Width → Type 0
IsFieldWidth w8 = Unit {0}
IsFieldWidth w16 = Unit {0}
IsFieldWidth w32 = Unit {0}
IsFieldWidth w64 = Unit {0}
IsFieldWidth w128 = ⊥

-- a number of this width is below it
abbrev pub limit_of : Width → ℕ
limit_of w8 = 2 ^ 8
limit_of w16 = 2 ^ 16
limit_of w32 = 2 ^ 32
limit_of w64 = 2 ^ 64
limit_of w128 = 2 ^ 128

-- this text stands at a place, and ends at the next
pub record Took (bytes : List ℕ) (at : ℕ) (text : List ℕ) (next : ℕ) : Type 0 where
  pub split : drop at bytes ≡ text ++ drop next bytes
  pub place : next ≡ at + length text
  pub within : next ≤ length bytes

-- a value that is read is encoded there, and one that is encoded there is read
pub record Reads {A : Type 0} (f : Form A) : Type 0 where
  pub takes : (bytes : List ℕ) (at : ℕ) (x : A × ℕ) → IsBytes bytes → at ≤ length bytes →
      f.read bytes at ≡ Ok x → Took bytes at (f.text x.0) x.1 × f.fits x.0
  pub again : (bytes : List ℕ) (at : ℕ) (a : A) (rest : List ℕ) → f.fits a → at ≤ length bytes →
      drop at bytes ≡ f.text a ++ rest → f.read bytes at ≡ Ok (a, at + length (f.text a))

-- the same of whole bodies
pub record ReadsWhole {A : Type 0} (f : Form A) : Type 0 where
  pub takes : (bytes : List ℕ) (a : A) → IsBytes bytes → whole f bytes ≡ Ok a → (bytes ≡ f.text a) × f.fits a
  pub again : (a : A) → f.fits a → whole f (f.text a) ≡ Ok a
