use Rattle.std.proofs.Common.{◌≡◌, ◌<◌, ◌++◌, ap, length, length-append, arith, rules}
use Rattle.std.specs.Prelude.{◌^◌}
use Rattle.op_types.specs.Changes.{durable_after}
use Rattle.op_types.specs.Rooms.{no_needs, with_room}
use Rattle.op_record.specs.Behind.{appending}
use Rattle.op_record.specs.Forms.{body}
use Rattle.op_record.specs.declared.body.Rec.TheVariants.{Whole}
use Rattle.op_record.proofs.Short.{short_fits}
use Rattle.op_store.proofs.Bodies.{body_of}
use Rattle.op_store.proofs.framing.framed_behind.Goals as goal

pub returns : goal.returns
returns c =
    let r = Whole (durable_after (with_room no_needs c.args.durable.now) (appending c.args.added.now c.args.decided)) in
    let start = c.in_ok-bytes.bytes.items in
    let bytes = c.put_whole_behind.new.out in
    let is : bytes.items ≡ start ++ body.text r = search rules in
    let small : length (body.text r) < 2 ^ 64 = omega (arith, length-append start (body.text r), ap length is, bytes.ok, bytes.small) in
    body_of r c.finish.result (short_fits r c.requires small) (c.finish.ensures start (body.text r) (search rules) is)
