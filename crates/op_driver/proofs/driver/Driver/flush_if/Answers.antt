use Rattle.std.proofs.Common.{Bool, if◌then◌else◌, ap}
use Rattle.op_serving.specs.Inputs.{flushed}
use Rattle.op_driver.specs.Driver.{with_deeds}
use Rattle.op_driver.proofs.Handling.{nothing_does}
use Rattle.op_driver.proofs.driver.Driver.flush_if.Goals as goal

pub returns-else-full-clause-does : goal.returns-else-full-clause-does
returns-else-full-clause-does g c =
    let d = c.args.self.now in
    nothing_does (λ l s. if c.args.full then flushed l s else s) d (λ l before. let s = with_deeds before d in ap (λ (b : Bool). if b then flushed l s else s) c.if-full.false)
