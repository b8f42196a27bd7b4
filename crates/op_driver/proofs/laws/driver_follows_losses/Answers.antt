use Rattle.std.proofs.Common.{sym, ◌∙◌}
use Rattle.op_driver.proofs.laws.driver_follows_losses.Goals as goal

pub returns : goal.returns
returns g c f d a b x y l before k calm m rest = sym (x.is l before k calm) ∙ y.is l before m rest
