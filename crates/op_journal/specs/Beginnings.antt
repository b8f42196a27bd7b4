-- How an area is begun.
use Rattle.std.specs.Prelude.{◌≡◌, ◌≢◌, ◌⊎◌, ◌≤◌, ℕ, Bool, true, false, List, [], ◌∷◌, ◌++◌, length, slice_index, Result, IfOk, OnOk}
use Rattle.std.specs.Prelude.{codes}
use Rattle.std.specs.Int.{w64}
use Rattle.op_fields.specs.Form.{encoded}
use Rattle.op_outside.specs.Disks.{DiskState, IsAtRest, LeavesOnly}
use Rattle.op_journal.specs.Areas.{open_gate, closed_gate, format_version, number_of, new_head, record_text, HoldsRecords, IsSettled}
use Rattle.op_journal.specs.Readings.{IsNew}

-- the generation of the first area of a disk
abbrev pub first_generation : ℕ
first_generation = 1

-- no area is there
abbrev pub HasNone : List ℕ → Type 0
HasNone bytes = (closed : Bool) × IsNew bytes closed

-- What a format can begin on: a closed gate before more bytes, as is told,
-- or else a byte at most, or an open gate.
abbrev pub IsFormattable : List ℕ → Bool → Type 0
IsFormattable bytes false = (length bytes ≤ 1) ⊎ (slice_index bytes 0 ≡ open_gate)
IsFormattable bytes true = IsNew bytes true

-- the bytes from before a format, or no area
abbrev pub IsOldOrNone : List ℕ → List ℕ → Type 0
IsOldOrNone old image = (image ≡ old) ⊎ HasNone image

-- this text after a closed gate
pub record IsAfterClosed (text bytes : List ℕ) : Type 0 where
  pub gate : ℕ
  pub closed : gate ≢ open_gate
  pub is : bytes ≡ gate ∷ text

-- a header after its gate: the magic, the version and the generation
abbrev pub header_after_gate : ℕ → List ℕ
header_after_gate generation = codes "OMNIPAX" ++ number_of format_version ∷ encoded w64 generation

-- an area of one record after its gate, up to the closed gate
abbrev pub area_after_gate : ℕ → List ℕ → List ℕ
area_after_gate generation body =
    header_after_gate generation ++ open_gate ∷ (record_text body ++ closed_gate ∷ [])

-- an area of one record, up to the closed gate
abbrev pub new_area : ℕ → List ℕ → List ℕ
new_area generation body = open_gate ∷ area_after_gate generation body

-- What is done to a disk whose images have P: where it answers Ok the disk holds this text after an open gate
-- and nothing more, and each image then is that. A crash at any moment leaves what has P, or that.
pub record OpensGate {T E : Type 0} (P : List ℕ → Type 0) (text : List ℕ) (old new : DiskState)
    (result : Result T E) : Type 0 where
  pub written : old.obeys → OnOk result (new.content ≡ open_gate ∷ text)
  pub rests : old.obeys → OnOk result (IsAtRest new)
  pub crash : IsAtRest old → LeavesOnly (λ image. P image ⊎ (image ≡ open_gate ∷ text)) old new

-- What a format, in the version of now, does to a disk: where it answers Ok the disk holds the area of this
-- record and nothing more, and each image then is that. A crash at any moment leaves the bytes from before,
-- no area, or the whole new one.
pub record Formats {E : Type 0} (generation : ℕ) (body : List ℕ) (old new : DiskState)
    (result : Result ℕ E) : Type 0 where
  pub written : old.obeys → IfOk result (λ _. new.content ≡ new_area generation body)
  pub begun : IsAtRest old → IfOk result (λ end. IsSettled (new_head generation) (body ∷ []) end new)
  pub crash : IsAtRest old → LeavesOnly (λ image. IsOldOrNone old.content image
      ⊎ HoldsRecords (new_head generation) (body ∷ []) image) old new
