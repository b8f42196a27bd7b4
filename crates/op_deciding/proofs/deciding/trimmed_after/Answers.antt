use Rattle.std.proofs.Common.{sym, ap, ◌∙◌, take}
use Rattle.op_types.specs.Changes.{part_with}
use Rattle.op_types.specs.declared.changes.Change.{Change}
use Rattle.op_types.specs.declared.durable.Part.{Part}
use Rattle.op_protocol.specs.Parts.{part_after}
use Rattle.op_deciding.proofs.Decided.{one_more, none_trimmed}
use Rattle.op_deciding.proofs.deciding.trimmed_after.Goals as goal
use Rattle.op_deciding.proofs.deciding.trimmed_after.Goals.{in-Trim, in_default}

pub changes-preserved : goal.changes-preserved
changes-preserved c =
    let p = c.args.part.now in
    let before = part_after p (take c.changes.change-index c.args.batch.now) in
    let more = ap (λ (q : Part). q.trimmed) (one_more p c.args.batch.now c.changes.change-index c.change-item.result c.changes-test.true c.change-item.is) in
    elim c.match-change.branch [
      | in-Trim w ↦ w.trimmed-is ∙ sym (more ∙ ap (λ (d : Change). (part_with before d).trimmed) w.in-Trim.is)
      | in_default w ↦ w.trimmed-is ∙ c.changes.invariant ∙ sym (more ∙ none_trimmed before c.change-item.result (λ x base. w.in_default.not-Trim x base))
    ]
