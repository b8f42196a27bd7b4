use Rattle.std.proofs.Common.{◌≡◌, ℕ, ◌+◌, ◌-◌, ◌*◌, ◌<◌, ◌++◌, ◌∷◌, [], List, length, sym, ap, ◌∙◌, subst, append_assoc}
use Rattle.op_types.specs.Limits.{most_part_bytes}
use Rattle.op_types.specs.declared.messages.Body.{Body}
use Rattle.op_types.specs.declared.messages.Body.TheVariants as body
use Rattle.op_types.specs.declared.messages.Msg.{Msg}
use Rattle.op_types.specs.declared.runs.Piece.{Piece}
use Rattle.op_protocol.specs.Joining.{base_pieces, piece_count}
use Rattle.op_protocol.specs.Parts.{message, messages}
use Rattle.op_segments.specs.Staging.{piece_of}
use Rattle.op_instance.proofs.Pieces.{pieces_more}
use Rattle.op_instance.proofs.joining.push_pieces.Goals as goal

pub loop-i-preserved : goal.loop-i-preserved
loop-i-preserved c =
    let conf = c.args.conf in
    let to = c.args.to in
    let at = c.args.closed.now.trimmed in
    let bytes : List ℕ = c.args.closed.now.base in
    let i = c.loop-i.i in
    let count : ℕ = piece_count (length bytes) in
    let rest : List (ℕ × Msg) = messages conf to (base_pieces at bytes ((i + 1) * most_part_bytes) (count - (i + 1))) in
    let told : Piece → ℕ × Msg = λ x. message conf to (body.BasePiece x) in
    let same : c.in_ok-piece.piece ≡ piece_of at bytes (i * most_part_bytes) = c.in_ok-piece.ensures ∙ ap (λ (bs : List ℕ). piece_of at bs (i * most_part_bytes)) c.as_slice-bytes.ensures in
    let within : i < count = subst (λ (k : ℕ). i < k) (c.piece_count-count.ensures ∙ ap (λ (bs : List ℕ). piece_count (length bs)) c.as_slice-bytes.ensures) c.loop-i-test.true in
    ap (λ (s : List (ℕ × Msg)). s ++ rest) c.in_ok-push.ensures.ok
    ∙ append_assoc c.loop-i.sends (told c.in_ok-piece.piece ∷ []) rest
    ∙ ap (λ (x : Piece). c.loop-i.sends ++ told x ∷ rest) same
    ∙ ap (λ (bodies : List Body). c.loop-i.sends ++ messages conf to bodies) (sym (pieces_more at bytes i count within))
    ∙ c.loop-i.invariant
