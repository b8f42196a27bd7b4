use Rattle.std.proofs.Common.{rules, ◌≡◌, [], Bool, true, false, if◌then◌else◌, ap}
use Rattle.op_types.specs.declared.events.Input.TheVariants as input
use Rattle.op_serving.specs.Cores.{wants_trim}
use Rattle.op_serving.specs.Inputs.{State, give}
use Rattle.op_serving.specs.Turns.{trimmed}
use Rattle.op_driver.specs.Driver.{with_deeds}
use Rattle.op_driver.proofs.Draining.{gives_does}
use Rattle.op_driver.proofs.Handling.{does_as, nothing_does}
use Rattle.op_driver.proofs.driver.Driver.trim.Goals as goal

pub returns-then-wants_trim-clause-does : goal.returns-then-wants_trim-clause-does
returns-then-wants_trim-clause-does g c =
    let d = c.args.self.now in
    let wants : wants_trim c.args.every d.node ≡ true = search rules in
    does_as (λ l s. give l [] input.TrimNow s) (λ l s. trimmed l c.args.every s)
    (λ l before. let s : State = with_deeds before d in ap (λ (b : Bool). if b then give l [] input.TrimNow s else s) wants)
    (gives_does (λ l s. give l [] input.TrimNow s) c.give.ensures.gives)

pub returns-else-wants_trim-clause-does : goal.returns-else-wants_trim-clause-does
returns-else-wants_trim-clause-does g c =
    let d = c.args.self.now in
    let none : wants_trim c.args.every d.node ≡ false = search rules in
    nothing_does (λ l s. trimmed l c.args.every s) d
    (λ l before. let s : State = with_deeds before d in ap (λ (b : Bool). if b then give l [] input.TrimNow s else s) none)
