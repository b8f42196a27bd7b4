-- How the body of the record of a step begins.
use Rattle.std.proofs.Common.{◌≡◌, ◌<◌, ◌%◌, ℕ, List, [], ◌∷◌, ◌++◌, ap, ◌∙◌, arith}
use Rattle.std.specs.Int.{w8}
use Rattle.std.specs.List.{flat_map}
use Rattle.op_fields.specs.Form.{encoded}
use Rattle.op_types.specs.declared.changes.Change.{Change}
use Rattle.op_record.specs.Forms.{change, step_text}

-- a byte is encoded as itself
one_byte : (n : ℕ) → n < 256 → encoded w8 n ≡ n ∷ []
unfolding encoded
one_byte n small = let is : n % 256 ≡ n = omega arith in ap (λ (k : ℕ). k ∷ []) is

-- its tag and the count of its changes
pub step_head : (count : ℕ) → count < 256 → (changes : List Change) → step_text count changes ≡ 2 ∷ count ∷ flat_map change.text changes
step_head count small changes =
    ap (λ (b : List ℕ). encoded w8 2 ++ (b ++ flat_map change.text changes)) (one_byte count small) ∙ ap (λ (b : List ℕ). b ++ (count ∷ flat_map change.text changes)) (one_byte 2 (omega arith))
