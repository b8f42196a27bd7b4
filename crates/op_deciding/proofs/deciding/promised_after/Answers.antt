use Rattle.std.proofs.Common.{sym, ap, ◌∙◌, take}
use Rattle.op_types.specs.Changes.{part_with}
use Rattle.op_types.specs.declared.changes.Change.{Change}
use Rattle.op_types.specs.declared.durable.Part.{Part}
use Rattle.op_protocol.specs.Parts.{part_after}
use Rattle.op_deciding.proofs.Decided.{one_more, none_promised}
use Rattle.op_deciding.proofs.deciding.promised_after.Goals as goal
use Rattle.op_deciding.proofs.deciding.promised_after.Goals.{in-Promise, in_default}

pub changes-preserved : goal.changes-preserved
changes-preserved c =
    let p = c.args.part.now in
    let before = part_after p (take c.changes.change-index c.args.batch.now) in
    let more = ap (λ (q : Part). q.promised) (one_more p c.args.batch.now c.changes.change-index c.change-item.result c.changes-test.true c.change-item.is) in
    elim c.match-change.branch [
      | in-Promise w ↦ w.promised-is ∙ sym (more ∙ ap (λ (d : Change). (part_with before d).promised) w.in-Promise.is)
      | in_default w ↦ w.promised-is ∙ c.changes.invariant ∙ sym (more ∙ none_promised before c.change-item.result w.in_default.not-Promise)
    ]
