use Rattle.std.proofs.Common.{List, sym, subst}
use Rattle.op_types.specs.declared.changes.Change.{Change}
use Rattle.op_chain.specs.Bringing.{IsBrought}
use Rattle.op_chain.proofs.Takes.{entries_are_brought}
use Rattle.op_chain.proofs.joining.hold_entries.Goals as goal

pub hold-requires-clause-brought : goal.hold-requires-clause-brought
hold-requires-clause-brought c =
    let j = c.args.joining.now in
    subst (λ (b : List Change). IsBrought j b) (sym c.in_ok-batch.ensures) (entries_are_brought j c.requires.takes.0 c.args.at c.args.entries c.requires.takes.1)
