use Rattle.std.proofs.Common.{rules}
use Rattle.op_fields.proofs.ItemSteps.{of_form}
use Rattle.op_record.specs.Forms.{donor}
use Rattle.op_record.proofs.joining.donor_items_at.Goals as goal

pub returns : goal.returns
returns c = of_form (donor c.args.len) (λ d. d.0) c.args.count c.args.bytes.now c.args.first c.items_at.result (c.items_at.ensures (λ low. (donor c.args.len low).read) (λ d. d.0) c.args.bytes.now (λ at low r p q is. search rules))
