use Rattle.std.proofs.Common.{drop}
use Rattle.op_memory.specs.Images.{state_of, fresh}
use Rattle.op_memory.proofs.Gathering.{Gathering}
use Rattle.op_memory.proofs.pends.gather_all.Given as goal

abbrev pub invariant-calls : goal.invariant-calls
invariant-calls l = Gathering (state_of (fresh l.fn.base.items) l.calls) (drop l.call-index l.calls) l.pends
