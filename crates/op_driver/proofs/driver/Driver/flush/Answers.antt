use Rattle.std.proofs.Common.{rules, ◌≡◌, [], refl}
use Rattle.op_serving.specs.Inputs.{all_gathered, flushed}
use Rattle.op_driver.proofs.Draining.{gives_does}
use Rattle.op_driver.proofs.Handling.{flush_nothing}
use Rattle.op_driver.proofs.driver.Driver.flush.Goals as goal

pub returns-then-has_gathered-clause-does : goal.returns-then-has_gathered-clause-does
returns-then-has_gathered-clause-does g c = gives_does (λ l s. flushed l s) c.flush_some.ensures.gives

pub returns-else-has_gathered-clause-does : goal.returns-else-has_gathered-clause-does
returns-else-has_gathered-clause-does g c =
    let none : all_gathered c.args.self.now.loop ≡ [] = search rules in
    flush_nothing c.args.self.now none

pub returns-else-has_gathered-clause-rests : goal.returns-else-has_gathered-clause-rests
returns-else-has_gathered-clause-rests g c = record { turn = refl; at = refl; none = c.requires }
