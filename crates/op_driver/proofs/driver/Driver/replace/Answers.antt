use Rattle.std.proofs.Common.{rules, ap, ◌≡◌, None}
use Rattle.op_serving.specs.State.{session_of}
use Rattle.op_serving.specs.Reading.{replaced}
use Rattle.op_driver.specs.Driver.{with_deeds}
use Rattle.op_driver.proofs.Handling.{nothing_does}
use Rattle.op_driver.proofs.driver.Driver.replace.Goals as goal

pub returns-in_default-clause-does : goal.returns-in_default-clause-does
returns-in_default-clause-does g c =
    let d = c.args.self.now in
    let none : session_of c.args.peer d.loop ≡ None = search rules in
    nothing_does (λ l s. replaced l (session_of c.args.peer d.loop) s) d (λ l before. ap (λ o. replaced l o (with_deeds before d)) none)
