use Rattle.std.proofs.Common.{sym, ◌∙◌}
use Rattle.op_chain.proofs.joining.bring.Goals as goal

pub hold_base-requires-clause-takes : goal.hold_base-requires-clause-takes
hold_base-requires-clause-takes c = (c.args.message.conf, sym c.takes_base.ensures.takes ∙ c.if-takes_base.true)

pub hold_base-requires-in-Some-clause-takes : goal.hold_base-requires-in-Some-clause-takes
hold_base-requires-in-Some-clause-takes c =
    let whole = rw c.in-Some.is at c.in_ok-base-in-BasePiece.ensures in (c.args.message.conf, whole.1.0)
