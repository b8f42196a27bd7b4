use Rattle.std.proofs.Common.{◌∷◌}
use Rattle.op_core.proofs.Came.{goes_broken}
use Rattle.op_core.proofs.groups.go_on.Goals as goal

pub returns-in-Broke-clause-goes : goal.returns-in-Broke-clause-goes
returns-in-Broke-clause-goes g c =
    goes_broken g.D.Disk.state c.args.core.now c.step_some.new.core (c.args.first ∷ c.args.inputs.now.items) c.step_some.new.inputs.items c.lose_next.new.inputs.items c.args.results.now.items c.step_some.new.results.items c.lose_next.new.results.items
    c.in-Broke.ensures.goes c.lose_next.ensures.lost
