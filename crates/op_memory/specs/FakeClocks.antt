-- A clock in memory.
use Rattle.std.specs.Prelude.{◌≡◌, ◌+◌, min, ℕ, List, drop, Option}
use Rattle.op_outside.specs.Causes.{last_count}
use Rattle.op_memory.specs.Fakes.{first_or}

-- what it answers next, its last answer, by how many milliseconds it goes on after the script,
-- and its answers as told
pub record ClockState : Type 0 where
  pub script : List ℕ
  pub last : ℕ
  pub step : ℕ
  pub told : Option (List ℕ)

-- its next answer
abbrev pub next_time : ClockState → ℕ
next_time c = first_or (min (c.last + c.step) last_count) c.script

-- after it
pub record Ticks (old new : ClockState) : Type 0 where
  pub script : new.script ≡ drop 1 old.script
  pub last : new.last ≡ next_time old
  pub step : new.step ≡ old.step
