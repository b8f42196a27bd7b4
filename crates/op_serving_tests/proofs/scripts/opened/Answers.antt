use Rattle.std.proofs.Common.{arith}
use Rattle.op_serving_tests.proofs.scripts.opened.Goals as goal

pub returns-in-Ok : goal.returns-in-Ok
returns-in-Ok c = c.opened_nodes_can_be_served.ensures _ 1 _ c.in_ok-first.first c.in_ok-second.second _ _ c.in-Ok.ensures.opened (omega arith, omega arith)
