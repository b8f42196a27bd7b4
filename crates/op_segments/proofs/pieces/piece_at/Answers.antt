use Rattle.std.proofs.Common.{ℕ, List, take, ap, ◌∙◌}
use Rattle.op_types.specs.Limits.{most_part_bytes}
use Rattle.op_segments.proofs.LeastTaken.{take_least}
use Rattle.op_segments.proofs.pieces.piece_at.Goals as goal

pub returns : goal.returns
returns c =
    let rest : List ℕ = c.bytes_from-rest.result.now in
    ap (λ (k : ℕ). take k rest) c.min-count.ensures ∙ take_least most_part_bytes rest ∙ ap (λ (bs : List ℕ). take most_part_bytes bs) c.bytes_from-rest.ensures
