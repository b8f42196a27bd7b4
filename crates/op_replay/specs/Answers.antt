-- What an answer says of the input and the output.
use Rattle.std.specs.Prelude.{◌≡◌, ◌⊎◌, ℕ, ◌<◌, ◌+◌, List, length, Option, IfSome}
use Rattle.std.specs.Io.KnownBytes.{IsAtEnd}
use Rattle.op_outside.specs.Causes.{NoFault, RisesWith}
use Rattle.op_outside.specs.Seen.{StreamSeen}
use Rattle.op_outside.specs.Streams.{HasAtLeast, TakesAtMost}
use Rattle.op_input.specs.Inputs.{input_limit}
use Rattle.op_status.specs.declared.status.Status.{Status}
use Rattle.op_status.specs.declared.status.Status.TheVariants as status
use Rattle.op_replay.specs.Called.{IsWithinLimit, IsReported, IsReportedPrefix, IsRefusedAt, IsBadInAllRunsAt, IsValid}

-- the statuses of a replay
abbrev pub AnswersReplay : Status → Type 0
AnswersReplay status.Ended = Unit {0}
AnswersReplay (status.BadSchedule line) = Unit {0}
AnswersReplay status.ReadFault = Unit {0}
AnswersReplay status.WriteFault = Unit {0}
AnswersReplay status.NoMemory = Unit {0}
AnswersReplay status.InputLimit = Unit {0}
AnswersReplay _ = ⊥

-- nothing of a report is written with this status
abbrev pub IsQuiet : Status → Type 0
IsQuiet status.Ended = ⊥
IsQuiet status.WriteFault = ⊥
IsQuiet _ = Unit {0}

-- it ended this way, or there was no memory
abbrev pub IsOrNoMemory : Status → Status → Type 0
IsOrNoMemory expected s = (s ≡ expected) ⊎ (s ≡ status.NoMemory)

-- what the output held before this answer and holds after it
pub record LeavesOutput (answer : Status) (input old new : Option (List ℕ)) : Type 0 where
  -- with success the report of a run of the input was added
  pub ended : answer ≡ status.Ended → IfSome input (λ bytes. IsReported bytes old new)
  -- with a write fault a prefix of that report was added
  pub cut : answer ≡ status.WriteFault → IfSome input (λ bytes. IsReportedPrefix bytes old new)
  -- with any other answer nothing was
  pub quiet : IsQuiet answer → new ≡ old

-- what was left of the input before this answer and is left after it
pub record LeavesInput (answer : Status) (old new : Option (List ℕ)) : Type 0 where
  -- with success all of it was read
  pub ended : answer ≡ status.Ended → IsAtEnd new
  -- one byte more than the limit tells that it is too long, and no more is read
  pub most : TakesAtMost (input_limit + 1) old new

-- Input is refused exactly where it is bad or too long, unless a read fails,
-- which raises the count of faults, or there is no memory.
pub record RefusesInput (answer : Status) (input : Option (List ℕ))
    (faults_before faults_after : ℕ) : Type 0 where
  -- a schedule is refused at the first bad line of a run, and always where each run has it
  pub bad_only_if : (line : ℕ) → answer ≡ status.BadSchedule line
      → IfSome input (λ bytes. IsRefusedAt bytes line)
  pub bad_always : NoFault faults_before faults_after
      → IfSome input
      (λ bytes. (line : ℕ) → IsBadInAllRunsAt bytes line → IsOrNoMemory (status.BadSchedule line) answer)
  -- input above the limit is too long
  pub too_long_only_if : answer ≡ status.InputLimit → HasAtLeast input (input_limit + 1)
  pub too_long_always : NoFault faults_before faults_after
      → IfSome input (λ bytes. input_limit < length bytes → IsOrNoMemory status.InputLimit answer)

-- a valid schedule that isn't too long is replayed, or there is no memory
abbrev pub EndsIfValid : Status → Option (List ℕ) → Type 0
EndsIfValid answer input =
    IfSome input (λ bytes. IsWithinLimit bytes → IsValid bytes → IsOrNoMemory status.Ended answer)

-- What a replay does with its input and its output, each the bytes that it tells
-- and its count of faults. What is written is the report of a run of the schedule,
-- which meets the list machine, and whose lists answer each client.
pub record Replays (answer : Status)
    (input_before input_after output_before output_after : StreamSeen) : Type 0 where
  pub output : LeavesOutput answer input_before.0 output_before.0 output_after.0
  pub input : LeavesInput answer input_before.0 input_after.0
  pub refused : RefusesInput answer input_before.0 input_before.1 input_after.1
  pub read_fault : RisesWith (answer ≡ status.ReadFault) input_before.1 input_after.1
  pub write_fault : RisesWith (answer ≡ status.WriteFault) output_before.1 output_after.1
  pub no_other : AnswersReplay answer
  -- a valid schedule is replayed, unless a stream fails or there is no memory
  pub complete : NoFault input_before.1 input_after.1 → NoFault output_before.1 output_after.1
      → EndsIfValid answer input_before.0
