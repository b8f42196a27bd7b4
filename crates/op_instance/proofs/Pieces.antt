-- The pieces of a base, one after the other.
use Rattle.std.proofs.Common.{◌≡◌, ℕ, suc, ◌+◌, ◌-◌, ◌*◌, ◌<◌, List, ◌∷◌, ap, ◌∙◌, arith}
use Rattle.op_types.specs.Limits.{most_part_bytes}
use Rattle.op_types.specs.declared.messages.Body.TheVariants as body
use Rattle.op_protocol.specs.Joining.{base_pieces}
use Rattle.op_segments.specs.Staging.{piece_of}

-- one piece, and those behind it
pub pieces_more : (at : ℕ) (bytes : List ℕ) (i count : ℕ) → i < count
    → base_pieces at bytes (i * most_part_bytes) (count - i) ≡ body.BasePiece (piece_of at bytes (i * most_part_bytes)) ∷ base_pieces at bytes ((i + 1) * most_part_bytes) (count - (i + 1))
pieces_more at bytes i count lt =
    let more : count - i ≡ suc (count - (i + 1)) = omega arith in
    let next : i * most_part_bytes + most_part_bytes ≡ (i + 1) * most_part_bytes = omega arith in
    ap (λ (k : ℕ). base_pieces at bytes (i * most_part_bytes) k) more
    ∙ ap (λ (k : ℕ). body.BasePiece (piece_of at bytes (i * most_part_bytes)) ∷ base_pieces at bytes k (count - (i + 1))) next
