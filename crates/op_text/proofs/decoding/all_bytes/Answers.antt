use Rattle.std.proofs.Common.{◌≡◌, ◌<◌, length, sym, ◌∙◌, arith}
use Rattle.op_text.proofs.DecodedBytes.{read_nothing, read_more, read_all, none_here}
use Rattle.op_text.proofs.PlainBytes.{plain_encoded}
use Rattle.op_text.proofs.decoding.all_bytes.Goals as goal

pub loop-rest-init : goal.loop-rest-init
loop-rest-init c = read_nothing _ _ c.in_ok-bytes.ensures.items

pub loop-rest-preserved : goal.loop-rest-preserved
loop-rest-preserved c =
    let some : 0 < length c.loop-rest.rest.now = grind arith in
    read_more _ _ c.in-Some.byte _ _ _ c.loop-rest.invariant some c.in-Some.ensures.found c.in_ok-push.ensures.items

pub returns-then-all_plain : goal.returns-then-all_plain
returns-then-all_plain c = rw c.in_ok-from_slice.ensures (plain_encoded c.args.word.now (sym c.all_plain.ensures ∙ c.if-all_plain.true))

pub returns-in_default : goal.returns-in_default
returns-in_default c =
    let some : 0 < length c.loop-rest.rest.now = grind arith in
    c.loop-rest.invariant.none (none_here _ some c.in_default.ensures.none)

pub returns : goal.returns
returns c =
    let end : length c.loop-rest.rest.now ≡ 0 = grind arith in
    rw c.in_ok-from_vec.ensures (read_all _ _ _ c.loop-rest.invariant end)
