use Rattle.std.proofs.Common.{List, sym, ap, subst, ◌∙◌}
use Rattle.std.specs.Prelude.{IfOk}
use Rattle.op_types.specs.Changes.{durable_after}
use Rattle.op_types.specs.Rooms.{no_needs, with_room}
use Rattle.op_types.specs.declared.changes.Change.{Change}
use Rattle.op_types.specs.declared.durable.Durable.{Durable}
use Rattle.op_record.specs.Ranges.{DurableInRange}
use Rattle.op_record.specs.declared.body.Rec.TheVariants.{Whole}
use Rattle.op_store.specs.Records.{IsBodyOf}
use Rattle.op_store.proofs.BatchesInRange.{batch_after}
use Rattle.op_node.proofs.checkpointing.framed_after.Goals as goal

pub framed_behind-requires : goal.framed_behind-requires
framed_behind-requires c =
    let d : Durable = with_room no_needs c.args.durable.now in
    let same = c.in-Some.ensures d ∙ ap (λ (batch : List Change). durable_after d batch) c.as_slice.ensures in
    subst DurableInRange (sym same) (batch_after d c.args.batch.now c.requires.range c.requires.batch.each c.requires.applies)

pub returns-in-Some : goal.returns-in-Some
returns-in-Some c =
    let d : Durable = with_room no_needs c.args.durable.now in
    let same = c.in-Some.ensures d ∙ ap (λ (batch : List Change). durable_after d batch) c.as_slice.ensures in
    subst (λ (after : Durable). IfOk c.framed_behind.result (IsBodyOf (Whole after))) same c.framed_behind.ensures
