use Rattle.std.proofs.Common.{[], ◌∷◌, All, sym, subst}
use Rattle.std.proofs.lemmas.List.Elements.{All-nil, All-cons, All-append}
use Rattle.op_core.specs.Groups.{EndsAs, GoesOn, ToldInRange}
use Rattle.op_core.proofs.Came.{goes_alone}
use Rattle.op_core.proofs.stepping.step_alone.Goals as goal

pub returns-clause-goes : goal.returns-clause-goes
returns-clause-goes g c rest =
    let state = g.D.Disk.state in
    let r = c.step_one-result.result in
    subst (λ e. GoesOn state (EndsAs e) c.args.core.now (c.args.input ∷ rest) rest c.args.results.now.items c.push_reserved.new.self.items c.step_one-result.new.core) (sym c.end_of-end.ensures)
    (goes_alone state c.args.core.now c.step_one-result.new.core c.args.input rest r c.args.results.now.items c.push_reserved.new.self.items c.requires.alone c.push_reserved.ensures.items c.step_one-result.ensures.steps)

pub returns-clause-given : goal.returns-clause-given
returns-clause-given g c all =
    let r = c.step_one-result.result in
    subst (All ToldInRange) (sym c.push_reserved.ensures.items)
    (All-append ToldInRange c.args.results.now.items (r ∷ []) all (All-cons ToldInRange r [] c.step_one-result.ensures.given (All-nil ToldInRange)))
