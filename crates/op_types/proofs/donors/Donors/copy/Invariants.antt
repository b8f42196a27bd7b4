use Rattle.std.proofs.Common.{◌≡◌, take}
use Rattle.op_types.proofs.donors.Donors.copy.Given as goal

abbrev pub invariant-loop-pid : goal.invariant-loop-pid
invariant-loop-pid l = l.donors ≡ take l.pid-index l.self
