use Rattle.op_types.proofs.CutRuns.{IsBegun}
use Rattle.op_types.proofs.cutting.run_len.Given as goal

abbrev pub invariant-loop-i : goal.invariant-loop-i
invariant-loop-i l = IsBegun l.entries l.i l.used
