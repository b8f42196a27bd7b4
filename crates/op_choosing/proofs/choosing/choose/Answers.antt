use Rattle.std.proofs.Common.{◌≡◌, ℕ, List, sym, ap, ◌∙◌, subst}
use Rattle.op_protocol.specs.Promises.{Choice, best, own_choice}
use Rattle.op_choosing.specs.Choosing.{offered, choice_shown, ChoiceFits}
use Rattle.op_choosing.proofs.Fits.{best_fits}
use Rattle.op_choosing.proofs.choosing.choose.Goals as goal

pub returns-clause-fits : goal.returns-clause-fits
returns-clause-fits c =
    let p = c.args.member.now.part.now in
    let promises = offered c.args.offers.now in
    let is : choice_shown c.best.result ≡ best p promises p.members (own_choice p) =
    c.best.ensures ∙ (ap (λ (ms : List ℕ). best p promises ms (choice_shown c.own_candidate.result)) c.as_slice-members.ensures ∙ ap (λ (o : Choice). best p promises p.members o) c.own_candidate.ensures) in
    subst (ChoiceFits p) (sym is) (best_fits p promises c.requires.positions c.requires.promises)
