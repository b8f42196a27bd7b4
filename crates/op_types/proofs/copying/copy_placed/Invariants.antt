use Rattle.std.proofs.Common.{◌≡◌, take}
use Rattle.op_types.proofs.copying.copy_placed.Given as goal

abbrev pub invariant-loop-place : goal.invariant-loop-place
invariant-loop-place l = l.copies.items ≡ take l.place-index l.placed
