-- A read of a source in memory, or a write of a sink, as its script has it.
use Rattle.std.specs.Prelude.{◌≡◌, ℕ, ◌+◌, ◌-◌, min, List, length, drop, Option, Some, Result, OnOk, OnErr}
use Rattle.op_outside.specs.Causes.{last_count}
use Rattle.op_memory.specs.declared.fault_script.FaultScript.{FaultScript}
use Rattle.op_memory.specs.declared.call_fate.CallFate.TheVariants.{Runs}
use Rattle.op_memory.specs.FaultScripts.{next_fate, MakesCall}

-- one call more was made; it is done only where it was to run, and a failure counts once
pub record FollowsScript {T E : Type 0} (old new : FaultScript) (faults now : ℕ)
    (result : Result T E) : Type 0 where
  pub script : MakesCall old new
  pub runs : OnOk result (next_fate old ≡ Runs)
  pub by_one : OnErr result (now ≡ min (faults + 1) last_count)

-- what is left of these bytes from this place on
abbrev pub left_from : ℕ → List ℕ → Option (List ℕ)
left_from at bytes = Some (drop at bytes)

-- how many bytes a read gives: as there is room, at most so many, and no more than are left
abbrev pub given : ℕ → ℕ → ℕ → List ℕ → ℕ
given room most at bytes = min (min room most) (length bytes - at)
