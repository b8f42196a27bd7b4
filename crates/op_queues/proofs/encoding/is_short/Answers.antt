use Rattle.std.proofs.Common.{rules, sym, ◌∙◌, length}
use Rattle.std.proofs.lemmas.Bool.{leb-true, le-leb}
use Rattle.op_types.specs.Limits.{most_peer_body, most_part_bytes}
use Rattle.op_msg.specs.Forms.{addressed}
use Rattle.op_msg.specs.Sizes.{carried_size}
use Rattle.op_msg.proofs.Frames.{frame_fits}
use Rattle.op_serving.proofs.Fits.{counted_fits}
use Rattle.op_queues.proofs.encoding.is_short.Goals as goal

pub returns-clause-fits : goal.returns-clause-fits
returns-clause-fits c = λ short.
    let m = c.args.m.now in
    let few = leb-true (carried_size m.body) most_part_bytes (sym c.carries_part.ensures ∙ short) in
    counted_fits c.args.from c.args.to m c.read_counts.ensures
    ∙ le-leb (length (addressed.text (c.args.from, c.args.to, m))) most_peer_body (frame_fits (c.args.from, c.args.to, m) (search rules) few)
