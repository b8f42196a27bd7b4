use Rattle.std.proofs.Common.{◌≡◌, drop}
use Rattle.op_protocol.specs.Parts.{has_stop}
use Rattle.op_plans.proofs.admitting.has_stop.Given as goal

abbrev pub invariant-loop-entry : goal.invariant-loop-entry
invariant-loop-entry l = has_stop l.entries ≡ has_stop (drop l.entry-index l.entries)
