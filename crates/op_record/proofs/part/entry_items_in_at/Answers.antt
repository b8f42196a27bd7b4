use Rattle.std.proofs.Common.{rules}
use Rattle.op_fields.proofs.ItemSteps.{of_form}
use Rattle.op_record.specs.Forms.{entry_in}
use Rattle.op_record.proofs.part.entry_items_in_at.Goals as goal

pub returns : goal.returns
returns c = of_form (λ _. entry_in c.args.conf) (λ _. 0) c.args.count c.args.bytes.now c.args.first c.items_at.result (c.items_at.ensures (λ _. (entry_in c.args.conf).read) (λ _. 0) c.args.bytes.now (λ at low r p q is. search rules))
