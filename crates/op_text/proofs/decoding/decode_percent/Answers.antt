use Rattle.std.proofs.Common.{◌≡◌, ◌<◌, [], ◌∷◌, length, get_or, ap, arith}
use Rattle.op_text.specs.Percent.{AreEncoded, IsEncoded, percent}
use Rattle.op_text.proofs.DecodedBytes.{encoded_whole, encoded_each}
use Rattle.op_text.proofs.FoundAlike.{ok_found_as}
use Rattle.op_text.proofs.decoding.decode_percent.Goals as goal
use Rattle.op_text.proofs.decoding.decode_percent.Goals.{in_default-via-then-word-lt2+in_default-1, in_default-via-else-word-lt2}

pub returns-in_default : goal.returns-in_default
returns-in_default c =
    let word = c.args.word.now in
    let some : 0 < length word = grind arith in
    let other : word ≡ percent ∷ [] → ⊥ = λ e.
    let one : length word ≡ 1 = ap length e in
    let first : get_or word 0 0 ≡ percent = ap (λ l. get_or l 0 0) e in
    elim c.in_default.branch [ in_default-via-then-word-lt2+in_default-1 w ↦ grind arith | in_default-via-else-word-lt2 w ↦ grind arith ] in
    ok_found_as (AreEncoded word) (IsEncoded word) (λ b h. encoded_whole word b some h) (λ b h. encoded_each word b other h) c.all_bytes.result c.all_bytes.ensures
