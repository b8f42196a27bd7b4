use Rattle.std.proofs.Common.{◌≡◌, sym, ◌∙◌, arith}
use Rattle.op_setup.proofs.RisingIds.{decimal_tells}
use Rattle.op_setup.proofs.member_ids.id_above.Goals as goal

pub returns-else-low-id : goal.returns-else-low-id
returns-else-low-id c = λ x h.
    let found = c.in_ok-id.ensures in
    let same : c.in_ok-id.id ≡ x = decimal_tells c.in_ok-id.id x found.0.1 h.2.1 (sym found.1 ∙ c.bytes.ensures ∙ h.0) in
    omega (arith, c.if-low-id.false, h.1)
