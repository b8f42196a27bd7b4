use Rattle.std.proofs.Common.{rules}
use Rattle.op_fields.proofs.ItemSteps.{of_form}
use Rattle.op_msg.specs.Forms.{forwarded}
use Rattle.op_msg.proofs.forwards.forwarded_items_at.Goals as goal

pub returns : goal.returns
returns c = of_form (λ _. forwarded) (λ _. 0) c.args.count c.args.bytes.now c.args.first c.items_at.result (c.items_at.ensures (λ _. forwarded.read) (λ _. 0) c.args.bytes.now (λ at low r p q is. search rules))
