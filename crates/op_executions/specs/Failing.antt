-- Why a run didn't end.
use Rattle.std.specs.Prelude.{ℕ, Result, Ok, Err}
use Rattle.op_executions.specs.declared.fail.RunFail.{RunFail}
use Rattle.op_executions.specs.declared.fail.RunFail.TheVariants as run

-- a refusal of the event of this number
abbrev pub IfBadEvent : {T : Type 0} → Result T RunFail → (ℕ → Type 0) → Type 0
IfBadEvent (Ok x) P = Unit {0}
IfBadEvent (Err (run.BadEvent index)) P = P index
IfBadEvent (Err run.NoMemory) P = Unit {0}
