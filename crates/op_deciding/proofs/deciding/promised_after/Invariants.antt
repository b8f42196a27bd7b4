use Rattle.std.proofs.Common.{◌≡◌, take}
use Rattle.op_protocol.specs.Parts.{part_after}
use Rattle.op_deciding.proofs.deciding.promised_after.Given as goal

abbrev pub invariant-changes : goal.invariant-changes
invariant-changes l = l.promised ≡ (part_after l.part (take l.change-index l.batch)).promised
