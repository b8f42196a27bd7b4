use Rattle.std.proofs.Common.{rules, tests, ◌≡◌, ◌+◌, Some, length, sym, ap, ◌∙◌}
use Rattle.std.proofs.lemmas.Iterator.{YieldsList-from_slice}
use Rattle.std.proofs.lemmas.Iterator.Search.{position_from_yields_List}
use Rattle.op_text.proofs.Rests.{rest_of}
use Rattle.op_setup.proofs.AddressTexts.{colon_at, colon_after, port_after}
use Rattle.op_setup.proofs.addresses.after_colon.Goals as goal

pub returns-in_default : goal.returns-in_default
returns-in_default c = λ host port h e.
    let at : c.position.result ≡ colon_at c.args.text.now = position_from_yields_List _ _ _ _ c.position.ensures.ran (YieldsList-from_slice c.args.text.now cc) (λ x b q k. search (rules, tests)) in
    let is = sym c.in_default.is ∙ at ∙ colon_after c.args.text.now host port h e in absurd cc

pub returns : goal.returns
returns c = λ host port h e.
    let at : c.position.result ≡ colon_at c.args.text.now = position_from_yields_List _ _ _ _ c.position.ensures.ran (YieldsList-from_slice c.args.text.now cc) (λ x b q k. search (rules, tests)) in
    let is : Some c.in-Some.at ≡ Some (length host) = sym c.in-Some.is ∙ at ∙ colon_after c.args.text.now host port h e in
    let place : c.in-Some.at ≡ length host = cc in
    ap Some (rest_of (c.in-Some.at + 1) c.args.text.now ∙ rw place (port_after c.args.text.now host port e))
