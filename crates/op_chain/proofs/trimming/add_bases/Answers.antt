use Rattle.std.proofs.Common.{◌≡◌, Some, sym, ap, ◌∙◌}
use Rattle.op_protocol.specs.Rows.{based_batch}
use Rattle.op_chain.specs.Trimming.{trims}
use Rattle.op_chain.proofs.Trims.{batch_stays}
use Rattle.op_chain.proofs.trimming.add_bases.Goals as goal

pub returns-else-trims : goal.returns-else-trims
returns-else-trims c =
    let batch = c.args.batch.now in
    let part = c.in-Some.part in
    let none = ap trims (sym c.as_slice.ensures) ∙ sym c.trims.ensures ∙ c.if-trims.false in
    let same : batch ≡ based_batch (Some part) batch = sym (batch_stays part batch none) in
    rw c.in-Some.is same
