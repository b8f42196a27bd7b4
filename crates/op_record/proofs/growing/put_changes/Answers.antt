use Rattle.std.proofs.Common.{rules, List, ℕ, take, subst}
use Rattle.std.specs.List.{flat_map}
use Rattle.op_fields.specs.Prefixes.{KeepsPrefix}
use Rattle.op_fields.proofs.Prefixes.{kept_through}
use Rattle.op_record.specs.Forms.{change}
use Rattle.op_record.proofs.growing.put_changes.Goals as goal

pub returns-in_err-put_change-clause-err : goal.returns-in_err-put_change-clause-err
returns-in_err-put_change-clause-err c =
    let new : List ℕ = c.put_change.new.out.items in
    let kept : KeepsPrefix c.args.out.now.items new =
    kept_through c.args.out.now.items (flat_map change.text (take c.changes.c-index c.as_slice-c-items.result.now)) new (subst (λ (p : List ℕ). KeepsPrefix p new) c.changes.invariant c.in_err-put_change.ensures.err) in
    search rules
