use Rattle.op_fields.proofs.Formats.{wide}
use Rattle.op_fields.proofs.laws.numbers.Goals as goal

pub returns-clause-size : goal.returns-clause-size
returns-clause-size c w n here = (wide w here).len n

pub returns-clause-again : goal.returns-clause-again
returns-clause-again c w n here fit = (wide w here).again n fit

pub returns-clause-back : goal.returns-clause-back
returns-clause-back c w bytes here fits size = (wide w here).back bytes size fits
