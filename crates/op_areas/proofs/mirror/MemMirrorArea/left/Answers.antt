use Rattle.op_areas.proofs.Pairs.{pair_no_more}
use Rattle.op_areas.proofs.mirror.MemMirrorArea.left.Goals as goal

pub returns : goal.returns
returns c =
    let first = c.in_ok-left_of in
    let second = c.in_ok-left_of-2 in
    pair_no_more c.args.copies.now (record { first = first.field-0; second = second.field-0 }) first.ensures.killed first.ensures.left second.ensures.killed second.ensures.left
