use Rattle.std.proofs.Common.{sym, ap, subst, ◌∙◌}
use Rattle.std.specs.Prelude.{IfOk}
use Rattle.op_types.specs.Changes.{durable_after}
use Rattle.op_types.specs.Rooms.{no_needs, with_room}
use Rattle.op_types.specs.declared.durable.Durable.{Durable}
use Rattle.op_record.specs.Ranges.{DurableInRange}
use Rattle.op_record.specs.declared.body.Rec.TheVariants.{Whole}
use Rattle.op_record.proofs.Rests.{in_range_rests}
use Rattle.op_store.specs.Records.{IsBodyOf}
use Rattle.op_store.proofs.BatchesInRange.{batch_after}
use Rattle.op_node.proofs.checkpointing.framed_copy.Goals as goal

pub framed_whole-requires : goal.framed_whole-requires
framed_whole-requires c =
    let is = c.in_ok-after.ensures in
    let range : DurableInRange (durable_after (with_room no_needs c.args.durable.now) c.args.batch.now) = batch_after (with_room no_needs c.args.durable.now) c.args.batch.now c.requires.range c.requires.batch.each c.requires.applies in
    subst (λ (d : Durable). DurableInRange (with_room no_needs d)) (sym is) (subst DurableInRange (sym (in_range_rests _ range)) range)

pub returns : goal.returns
returns c =
    let is = c.in_ok-after.ensures in
    let range : DurableInRange (durable_after (with_room no_needs c.args.durable.now) c.args.batch.now) = batch_after (with_room no_needs c.args.durable.now) c.args.batch.now c.requires.range c.requires.batch.each c.requires.applies in
    subst (λ (d : Durable). IfOk c.framed_whole.result (IsBodyOf (Whole d))) (ap (λ (d : Durable). with_room no_needs d) is ∙ in_range_rests _ range) c.framed_whole.ensures
