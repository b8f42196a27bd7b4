use Rattle.op_driver.proofs.Counting.{Counts}
use Rattle.op_driver.proofs.answering.count_all.Given as goal

abbrev pub invariant-loop-result : goal.invariant-loop-result
invariant-loop-result l = Counts l.results l.result-index l.fn.sessions l.sessions
