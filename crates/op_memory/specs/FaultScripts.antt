-- Which calls of a disk in memory, a source or a sink fail, and in which one a disk stops.
use Rattle.std.specs.Prelude.{ℕ, ◌≡◌, ◌+◌, ◌==◌, min, Bool, true, false, ◌||◌, Option, Some, None, List, [], ◌∷◌, ◌++◌, nat_lt, if◌then◌else◌}
use Rattle.std.specs.List.{list_any}
use Rattle.op_outside.specs.Causes.{last_count}
use Rattle.op_memory.specs.declared.fault_script.FaultScript.{FaultScript}
use Rattle.op_memory.specs.declared.call_fate.CallFate.{CallFate}
use Rattle.op_memory.specs.declared.call_fate.CallFate.TheVariants.{Runs, Fails, Stops}

-- the number of the next call, from 1
abbrev pub next_call : FaultScript → ℕ
next_call script = min (script.made + 1) last_count

-- a disk that is to stop in some call stops in this one
abbrev pub reaches : Option ℕ → ℕ → Bool
reaches None call = false
reaches (Some stop) call = if nat_lt call stop then false else true

-- it is told to fail in the next call
abbrev pub fails_next : FaultScript → Bool
fails_next script = script.is_killed || list_any (λ call. call == next_call script) script.fails.items

-- the disk is to stop in the next call: the power is off, or it was told to
abbrev pub stops_next : Bool → FaultScript → Bool
stops_next is_off script = is_off || reaches script.stop (next_call script)

-- it has not stopped, and was told to in the next call
abbrev pub is_due : FaultScript → Bool
is_due script = if script.is_stopped then false else stops_next false script

-- what becomes of the next call, where the power is off or on: it fails after a stop,
-- stops where that is due, fails where it was told to or the disk was killed, and else runs
abbrev pub fate_where : Bool → FaultScript → CallFate
fate_where is_off script =
    if script.is_stopped then Fails else
    if stops_next is_off script then Stops else
    if fails_next script then Fails else Runs

-- the same where the power is on
abbrev pub next_fate : FaultScript → CallFate
next_fate = fate_where false

-- so many calls were made, these are to fail, the disk is to stop in this one, it has or has not, and it was
-- killed or not
pub record IsScript (made : ℕ) (fails : List ℕ) (stop : Option ℕ) (is_stopped is_killed : Bool)
    (script : FaultScript) : Type 0 where
  pub made_is : script.made ≡ made
  pub fails_are : script.fails.items ≡ fails
  pub stop_is : script.stop ≡ stop
  pub stopped_is : script.is_stopped ≡ is_stopped
  pub killed_is : script.is_killed ≡ is_killed

-- nothing has changed
abbrev pub IsSameScript : FaultScript → FaultScript → Type 0
IsSameScript old = IsScript old.made old.fails.items old.stop old.is_stopped old.is_killed

-- one call more was made, where the power was off or on
abbrev pub MakesCallWhere : Bool → FaultScript → FaultScript → Type 0
MakesCallWhere is_off old =
    IsScript (next_call old) old.fails.items old.stop (old.is_stopped || stops_next is_off old) old.is_killed

-- the same where the power is on
abbrev pub MakesCall : FaultScript → FaultScript → Type 0
MakesCall = MakesCallWhere false

-- one call more is to fail
abbrev pub FailsAt : ℕ → FaultScript → FaultScript → Type 0
FailsAt call old = IsScript old.made (old.fails.items ++ call ∷ []) old.stop old.is_stopped old.is_killed

-- the disk is to stop in this call
abbrev pub StopsAt : ℕ → FaultScript → FaultScript → Type 0
StopsAt call old = IsScript old.made old.fails.items (Some call) old.is_stopped old.is_killed

-- each call is to fail
abbrev pub Kills : FaultScript → FaultScript → Type 0
Kills old = IsScript old.made old.fails.items old.stop old.is_stopped true

-- it is told of nothing any more, and is killed if it was
abbrev pub Clears : FaultScript → FaultScript → Type 0
Clears old = IsScript old.made [] None false old.is_killed
