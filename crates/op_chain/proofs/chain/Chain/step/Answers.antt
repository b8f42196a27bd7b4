use Rattle.std.proofs.Common.{ap, ◌∙◌}
use Rattle.std.proofs.lemmas.Result.{on_ok_weaker}
use Rattle.op_chain.specs.Waiting.{with_waiters}
use Rattle.op_chain.proofs.chain.Chain.step.Goals as goal

pub returns-clause-waiters : goal.returns-clause-waiters
returns-clause-waiters c =
    on_ok_weaker c.step.result (λ row. c.in-Ok.ensures.room ∙ ap (with_waiters c.args.self.now.waiting.waiting) c.commands_of.ensures) c.step.ensures.step
