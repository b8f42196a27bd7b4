-- What clients wait for, in range.
use Rattle.op_serving.specs.State.{Awaited}
use Rattle.op_serving.specs.Ranges.{KeyInRange}

-- the client and the number of what is waited for are in range
abbrev pub AwaitedInRange : Awaited → Type 0
AwaitedInRange a = KeyInRange a.1
