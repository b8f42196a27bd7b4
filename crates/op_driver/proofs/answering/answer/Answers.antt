use Rattle.std.proofs.Common.{◌≡◌, Err, rules}
use Rattle.op_serving.specs.declared.node.StepFail.TheVariants.{DiskFail}
use Rattle.op_driver.proofs.Telling.{answered_fault}
use Rattle.op_driver.proofs.answering.answer.Goals as goal

pub returns-in-Err-DiskFail : goal.returns-in-Err-DiskFail
returns-in-Err-DiskFail c =
    let is : c.args.answer ≡ Err (DiskFail c.in-Err-DiskFail.count) = search rules in
    answered_fault c.args.wanted c.args.failed c.args.answer c.in-Err-DiskFail.count is c.give_up_unless.ensures c.excuse.ensures
