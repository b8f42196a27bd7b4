use Rattle.std.proofs.Common.{rules, ap, arith}
use Rattle.op_driver.proofs.Dealing.{greet_closed, greet_goes}
use Rattle.op_serving.specs.Counts.{most_inputs}
use Rattle.op_driver.specs.Driver.{Served}
use Rattle.op_queues.proofs.Counting.{most_links}
use Rattle.op_driver.proofs.driver.Driver.greet.Goals as goal

pub returns-then-not-is_open-clause-taken : goal.returns-then-not-is_open-clause-taken
returns-then-not-is_open-clause-taken g c = let way = c.make_way.ensures in greet_closed g.K.Core.line c.args.conn c.args.frames c.args.peer (search rules) way.does way.stays way.none (search rules)

pub returns-clause-taken : goal.returns-clause-taken
returns-clause-taken g c = let way = c.make_way.ensures in greet_goes g.K.Core.line c.args.conn c.args.frames c.args.peer (search rules) way.does way.stays c.requires.frames (search rules) c.link.ensures c.give.ensures.gives

pub returns-clause-most : goal.returns-clause-most
returns-clause-most g c = omega (arith, c.give.ensures.most, c.make_way.ensures.most, ap (λ (x : Served _). most_inputs x.loop) c.link.ensures, most_links c.args.peer c.args.conn c.make_way.new.self.loop)
