use Rattle.std.proofs.Common.{◌≡◌, ◌++◌, sym, subst}
use Rattle.std.specs.Prelude.{OnOk}
use Rattle.op_types.specs.Rooms.{no_needs, with_room}
use Rattle.op_types.specs.declared.durable.Durable.{Durable}
use Rattle.op_record.specs.Ranges.{DurableInRange}
use Rattle.op_record.specs.Forms.{body}
use Rattle.op_record.specs.declared.body.Rec.TheVariants.{Whole}
use Rattle.op_record.proofs.Appending.{appending_nothing}
use Rattle.op_record.proofs.body.put_whole.Goals as goal

pub put_whole_behind-requires : goal.put_whole_behind-requires
put_whole_behind-requires c = subst DurableInRange (sym (appending_nothing (with_room no_needs c.args.durable.now))) c.requires

pub returns-clause-ok : goal.returns-clause-ok
returns-clause-ok c =
    subst (λ (d : Durable). OnOk c.put_whole_behind.result (c.put_whole_behind.new.out.items ≡ c.args.out.now.items ++ body.text (Whole d))) (appending_nothing (with_room no_needs c.args.durable.now)) c.put_whole_behind.ensures.ok
