use Rattle.std.proofs.Common.{◌≡◌, length, sym, ap, ◌∙◌, arith}
use Rattle.op_text.proofs.UnambiguousEncoding.{one_encoding_of}
use Rattle.op_text.proofs.DecodedBytes.{too_long}
use Rattle.op_text.proofs.decoding.decoded_within.Goals as goal
use Rattle.op_text.proofs.decoding.decoded_within.Goals.{else-least-count-via-then-least-count+else-count-most, else-least-count-via-else-least-count}

pub returns-then-most-word : goal.returns-then-most-word
returns-then-most-word c = λ bytes (low, high, is). too_long c.args.word.now c.args.most c.requires c.if-most-word.true bytes high is.1

pub returns-else-least-count : goal.returns-else-least-count
returns-else-least-count c = λ bytes (low, high, is).
    let found = rw c.in-Some.is at c.in_ok-blob.ensures in
    let same = one_encoding_of bytes c.in-Some.blob is.0 found.0 (is.1 ∙ sym found.1) in
    let count : length c.as_slice-count.result.now ≡ length bytes = ap length (c.as_slice-count.ensures ∙ sym same) in
    elim c.else-least-count.branch [ else-least-count-via-then-least-count+else-count-most w ↦ omega arith | else-least-count-via-else-least-count w ↦ omega arith ]
