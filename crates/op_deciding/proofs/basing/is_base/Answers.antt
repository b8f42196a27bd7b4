use Rattle.std.proofs.Common.{arith}
use Rattle.op_deciding.proofs.Bases.{test_is}
use Rattle.op_deciding.proofs.basing.is_base.Goals as goal

pub returns-clause-same : goal.returns-clause-same
returns-clause-same c = test_is c.is_base.result c.args.bytes.now (λ i. omega (arith, c.type_inv.bytes i)) (omega arith) c.is_base.ensures
