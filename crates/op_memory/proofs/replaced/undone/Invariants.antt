use Rattle.std.proofs.Common.{◌≡◌, ◌≤◌, length, take}
use Rattle.op_memory.specs.Undoing.{undone}
use Rattle.op_memory.proofs.replaced.undone.Given as goal

abbrev pub invariant-calls : goal.invariant-calls
invariant-calls l = record { within : l.count ≤ length l.replaced; left : undone (take l.count l.replaced) l.bytes.items ≡ undone l.replaced l.fn.bytes.items }

abbrev pub decreases-calls : goal.decreases-calls
decreases-calls l = l.count
