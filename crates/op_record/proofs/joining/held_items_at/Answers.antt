use Rattle.std.proofs.Common.{rules, ◌+◌}
use Rattle.op_fields.proofs.ItemSteps.{of_form}
use Rattle.op_record.specs.Forms.{held_entry}
use Rattle.op_record.proofs.HeldReads.{items_rise}
use Rattle.op_record.proofs.joining.held_items_at.Goals as goal

pub returns-clause-read : goal.returns-clause-read
returns-clause-read c = of_form (held_entry c.args.len) (λ x. x.0 + 1) c.args.count c.args.bytes.now c.args.first c.items_at.result (c.items_at.ensures (λ low. (held_entry c.args.len low).read) (λ x. x.0 + 1) c.args.bytes.now (λ at low r p q is. search rules))

pub returns-clause-rising : goal.returns-clause-rising
returns-clause-rising c = items_rise c.args.len c.args.count c.args.bytes.now c.args.first c.items_at.result
    (of_form (held_entry c.args.len) (λ x. x.0 + 1) c.args.count c.args.bytes.now c.args.first c.items_at.result (c.items_at.ensures (λ low. (held_entry c.args.len low).read) (λ x. x.0 + 1) c.args.bytes.now (λ at low r p q is. search rules)))
