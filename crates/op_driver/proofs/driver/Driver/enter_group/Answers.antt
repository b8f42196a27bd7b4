use Rattle.std.proofs.Common.{rules, subst, ◌≤◌, length}
use Rattle.op_serving.specs.Losses.{most_marks}
use Rattle.op_driver.specs.Driver.{Served}
use Rattle.op_driver.proofs.Grouping.{from_full}
use Rattle.op_driver.proofs.driver.Driver.enter_group.Goals as goal

pub returns-then-is_full-clause-gives : goal.returns-then-is_full-clause-gives
returns-then-is_full-clause-gives g c =
    let full : most_marks ≤ length c.self.inside.sessions.lost = search rules in
    from_full c.args.ungiven.now c.clear.new.self c.args.self.now c.clear.ensures (subst (λ (d : Served _). most_marks ≤ length d.loop.lost) c.self.view_is full)

pub returns-clause-gives : goal.returns-clause-gives
returns-clause-gives g c = rw (← c.self.view_is) c.give.ensures.gives
