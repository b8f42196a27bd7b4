use Rattle.op_server.specs.Servers.{IsSame}
use Rattle.op_server.specs.declared.server.Server.{Server}
use Rattle.op_server.proofs.Adopts.{plans_alone}
use Rattle.op_server.proofs.Sound.{same_chain}
use Rattle.op_server.proofs.server.Server.plan_alone.Goals as goal

pub returns-clause-plans : goal.returns-clause-plans
returns-clause-plans c =
    let old = c.args.self.now in
    let mid : Server = record old { chain = c.plan.new.self } in
    let same : IsSame old mid = same_chain old c.plan.new.self c.plan.ensures.same c.requires.admits.sound in
    plans_alone mid c.args.input c.in_ok-chain.chain c.nothing.result c.nothing.ensures same.sound c.requires.none c.requires.other c.in_ok-chain.ensures.plans
