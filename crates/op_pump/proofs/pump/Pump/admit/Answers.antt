use Rattle.std.proofs.Common.{rules}
use Rattle.op_pump.proofs.Steps.{admit_open, admit_new}
use Rattle.op_pump.proofs.pump.Pump.admit.Goals as goal

pub returns-then-is_open-clause-acts : goal.returns-then-is_open-clause-acts
returns-then-is_open-clause-acts g c = admit_open c.args.conn c.args.kind (search rules)

pub returns-clause-acts : goal.returns-clause-acts
returns-clause-acts g c = admit_new (search rules) c.join.ensures.acts
