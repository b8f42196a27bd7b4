use Rattle.std.proofs.Common.{List, sym, subst}
use Rattle.op_types.specs.declared.changes.Change.{Change}
use Rattle.op_chain.specs.Bringing.{IsBrought}
use Rattle.op_chain.proofs.Takes.{base_is_brought}
use Rattle.op_chain.proofs.joining.hold_base.Goals as goal

pub hold-requires-clause-brought : goal.hold-requires-clause-brought
hold-requires-clause-brought c =
    let j = c.args.joining.now in
    subst (λ (b : List Change). IsBrought j b) (sym c.in_ok-batch.ensures) (base_is_brought j c.requires.takes.0 c.args.at c.args.base c.requires.takes.1)
