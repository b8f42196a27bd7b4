use Rattle.std.proofs.Common.{◌≡◌, ℕ, ◌+◌, ◌-◌, ◌*◌, ◌<◌, ◌++◌, ◌∷◌, [], List, length, sym, ap, ◌∙◌, subst, append_assoc}
use Rattle.op_types.specs.Limits.{most_part_bytes}
use Rattle.op_types.specs.declared.messages.Body.{Body}
use Rattle.op_types.specs.declared.messages.Body.TheVariants as body
use Rattle.op_types.specs.declared.messages.Msg.{Msg}
use Rattle.op_types.specs.declared.messages.Watch.TheVariants as watch
use Rattle.op_types.specs.declared.runs.Piece.{Piece}
use Rattle.op_protocol.specs.Joining.{piece_count}
use Rattle.op_protocol.specs.Parts.{message, messages}
use Rattle.op_protocol.specs.Watched.{watch_pieces}
use Rattle.op_segments.specs.Staging.{piece_of}
use Rattle.op_watch.proofs.FirstShown.{pieces_more}
use Rattle.op_watch.proofs.showing.show_base.Goals as goal

pub loop-i-preserved : goal.loop-i-preserved
loop-i-preserved c =
    let k = c.args.decided in
    let to = c.args.to in
    let members : List ℕ = k.members.now in
    let bytes : List ℕ = k.base.now in
    let i = c.loop-i.i in
    let count : ℕ = piece_count (length bytes) in
    let rest : List (ℕ × Msg) =
    messages k.conf to
    (watch_pieces members k.trimmed bytes ((i + 1) * most_part_bytes) (count - (i + 1))) in
    let told : List ℕ → Piece → ℕ × Msg = λ ms x. message k.conf to (body.Watch (watch.Base ms x)) in
    let same : c.in_ok-piece.piece ≡ piece_of k.trimmed bytes (i * most_part_bytes) =
    c.in_ok-piece.ensures
    ∙ ap (λ (bs : List ℕ). piece_of k.trimmed bs (i * most_part_bytes)) c.as_slice-bytes.ensures in
    let within : i < count =
    subst (λ (n : ℕ). i < n) (c.piece_count-count.ensures
    ∙ ap (λ (bs : List ℕ). piece_count (length bs)) c.as_slice-bytes.ensures) c.loop-i-test.true in
    let copied : c.in_ok-copy.field-0 ≡ members =
    c.in_ok-copy.ensures ∙ c.in_ok-members.ensures ∙ c.copy.ensures in
    ap (λ (s : List (ℕ × Msg)). s ++ rest) c.in_ok-push.ensures.ok
    ∙ ap (λ (ms : List ℕ). (c.loop-i.sends ++ told ms c.in_ok-piece.piece ∷ []) ++ rest) copied
    ∙ append_assoc c.loop-i.sends (told members c.in_ok-piece.piece ∷ []) rest
    ∙ ap (λ (x : Piece). c.loop-i.sends ++ told members x ∷ rest) same
    ∙ ap (λ (bodies : List Body). c.loop-i.sends ++ messages k.conf to bodies)
    (sym (pieces_more members k.trimmed bytes i count within))
    ∙ c.loop-i.invariant
