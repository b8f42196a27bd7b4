-- A fact of the line that a refusal names.
use Rattle.std.specs.Prelude.{ℕ, Result, Ok, Err}
use Rattle.op_sched.specs.declared.schedule.SchedFail.{SchedFail}
use Rattle.op_sched.specs.declared.schedule.SchedFail.TheVariants.{BadLine, NoMemory}

-- if the text is refused for a line, P holds of the line
abbrev pub IfBadLine : {T : Type 0} → Result T SchedFail → (ℕ → Type 0) → Type 0
IfBadLine (Ok x) P = Unit {0}
IfBadLine (Err (BadLine line)) P = P line
IfBadLine (Err NoMemory) P = Unit {0}
