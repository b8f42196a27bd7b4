use Rattle.std.proofs.Common.{rules, tests, ◌≡◌, sym, ◌∙◌}
use Rattle.std.proofs.lemmas.Iterator.{YieldsList-from_slice}
use Rattle.std.proofs.lemmas.Iterator.Search.{position_from_yields_List}
use Rattle.op_setup.proofs.FirstBytes.{first_at, first_of}
use Rattle.op_setup.proofs.identity.split.Goals as goal

pub returns-in_default-clause-none : goal.returns-in_default-clause-none
returns-in_default-clause-none c = λ before after cut.
    let at : c.position.result ≡ first_at c.args.byte c.args.text.now = position_from_yields_List _ _ _ _ c.position.ensures.ran (YieldsList-from_slice c.args.text.now cc) (λ x b q k. search (rules, tests)) in
    let is = sym c.in_default.is ∙ at ∙ first_of c.args.byte c.args.text.now before after cut in absurd cc
