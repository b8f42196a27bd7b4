-- What a replay is asked, and what it reports.
use Rattle.std.specs.Prelude.{◌≡◌, ◌⊎◌, ℕ, ◌≤◌, List, length, Option}
use Rattle.std.specs.Io.KnownBytes.{Appends}
use Rattle.op_sched.specs.Grammar.{IsSchedule, IsFirstBadLine}
use Rattle.op_sched.specs.Text.{report_of}
use Rattle.op_sched.specs.declared.schedule.Schedule.{Schedule}
use Rattle.op_outside.specs.Streams.{AppendsPrefix}
use Rattle.op_runs.specs.declared.summary.Summary.{Summary}
use Rattle.op_world.specs.Runs.{IsReportOfRun}
use Rattle.op_input.specs.Inputs.{input_limit}
use Rattle.op_replay.specs.Replay.{IsLineOfFirstBad, IsTheBadLine, HaveNoBadLine}

-- the input isn't longer than a schedule may be
abbrev pub IsWithinLimit : List ℕ → Type 0
IsWithinLimit input = length input ≤ input_limit

-- the text is the report of a run of this schedule
pub record IsReportOf (s : Schedule) (text : List ℕ) : Type 0 where
  pub summary : Summary
  -- it is what a run of the events leaves, each of which names members, spares or observers, a stop-sign no
  -- observers, and messages that were sent; the run keeps the laws of every run: it meets the list machine,
  -- each client is answered by the lists that are reported, each exchange of a leader with a majority
  -- decides, wherever it is in the run, each line of a read's value is fresh, and each observer stands
  pub run : IsReportOfRun s.members s.spares s.observers s.is_mirrored s.events summary
  -- the text says it
  pub written : text ≡ report_of summary

-- the input is a schedule, and this text is the report of a run of it
abbrev pub Reports : List ℕ → List ℕ → Type 0
Reports input text = (s : Schedule) × IsSchedule input s × IsReportOf s text

-- the report of a run of the input was written, whole
abbrev pub IsReported : List ℕ → Option (List ℕ) → Option (List ℕ) → Type 0
IsReported input old new = (text : List ℕ) × IsWithinLimit input × Reports input text × Appends old new text

-- a prefix of that report was written
abbrev pub IsReportedPrefix : List ℕ → Option (List ℕ) → Option (List ℕ) → Type 0
IsReportedPrefix input old new =
    (text : List ℕ) × IsWithinLimit input × Reports input text × AppendsPrefix old new text

-- line n is the first that isn't in the grammar or, where all are, in some run that of the first event that
-- names a server that is neither member, nor spare, nor observer, in a stop-sign an observer, or a message
-- that wasn't sent
abbrev pub IsBadAt : List ℕ → ℕ → Type 0
IsBadAt input n =
    IsFirstBadLine input n
    ⊎ ((s : Schedule) × IsSchedule input s
    × IsLineOfFirstBad s.members s.spares s.observers s.is_mirrored s.events n)

-- the input isn't too long, and is refused at this line
abbrev pub IsRefusedAt : List ℕ → ℕ → Type 0
IsRefusedAt input n = IsWithinLimit input × IsBadAt input n

-- the same, and in every run where all lines are in the grammar
abbrev pub IsBadInAllRunsAt : List ℕ → ℕ → Type 0
IsBadInAllRunsAt input n =
    IsWithinLimit input
    × (IsFirstBadLine input n
    ⊎ ((s : Schedule) × IsSchedule input s
    × IsTheBadLine s.members s.spares s.observers s.is_mirrored s.events n))

-- the input is a schedule, each event of which names members, spares or observers, a stop-sign no observers,
-- and messages that were sent, in every run
abbrev pub IsValid : List ℕ → Type 0
IsValid input =
    (s : Schedule) × IsSchedule input s
    × HaveNoBadLine s.members s.spares s.observers s.is_mirrored s.events
