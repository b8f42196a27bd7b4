-- What drills write, and how they end.
use Rattle.std.specs.Prelude.{◌≡◌, ◌++◌, ℕ, List, codes, decimal}
use Rattle.std.specs.List.{flat_map}
use Rattle.std.specs.Io.KnownBytes.{Appends}
use Rattle.op_runs.specs.declared.summary.Summary.{Summary}
use Rattle.op_outside.specs.Causes.{FaultsRose}
use Rattle.op_outside.specs.Seen.{StreamSeen}
use Rattle.op_outside.specs.Streams.{AppendsPrefix}
use Rattle.op_gen.specs.Scenarios.{name_of, members_of, links_of}
use Rattle.op_gen.specs.declared.scenario.Scenario.{Scenario}
use Rattle.op_sched.specs.Summaries.{summary_text}
use Rattle.op_sched.specs.Text.{line_text}
use Rattle.op_world.specs.Drills.{IsReportOfDrill}
use Rattle.op_world.specs.Runs.{IsReportOfDrawn}
use Rattle.op_status.specs.declared.status.Status.{Status}
use Rattle.op_status.specs.declared.status.Status.TheVariants as status

-- ---- a drill of links

-- the output's first line
abbrev pub first_line : Scenario → ℕ → List ℕ
first_line s rounds = codes "links " ++ name_of s ++ codes " " ++ decimal rounds ++ codes "\n"

-- the text is that of this drill
pub record IsTextOf (s : Scenario) (rounds : ℕ) (text : List ℕ) : Type 0 where
  pub summary : Summary
  -- this is reported of the drill's run; wherever three lockstep rounds are in it, whoever alone hears a
  -- majority takes its own ballot for the leader's
  pub report : IsReportOfDrill (members_of s) (links_of s) rounds summary
  -- the text names the drill, and then has the lines of the run: the ballots of each member
  pub written : text ≡ first_line s rounds ++ flat_map line_text summary.lines

-- ---- a random drill

-- the text is that of the drill of so many events that this seed draws
pub record IsSummaryTextOf (seed events : ℕ) (text : List ℕ) : Type 0 where
  pub summary : Summary
  -- this is reported of a run of so many events, which keeps the laws; the seed draws each of them where
  -- those before it happened
  pub report : IsReportOfDrawn seed events summary
  -- the text is its summary
  pub written : text ≡ summary_text seed events summary

-- ---- how they end

-- A text is written, whole unless a write failed; or there was no memory for it, and nothing is written.
pub data TextEnds (IsText : List ℕ → Type 0) (out0 out1 : StreamSeen) : Status → Type 0 where
  is_told : {text : List ℕ} → IsText text → Appends out0.0 out1.0 text → out1.1 ≡ out0.1
      → TextEnds IsText out0 out1 status.Ended
  is_cut : {text : List ℕ} → IsText text → AppendsPrefix out0.0 out1.0 text
      → FaultsRose out0.1 out1.1 → TextEnds IsText out0 out1 status.WriteFault
  has_no_memory : out1 ≡ out0 → TextEnds IsText out0 out1 status.NoMemory

-- how a drill of links ends
abbrev pub DrillEnds : Scenario → ℕ → StreamSeen → StreamSeen → Status → Type 0
DrillEnds s rounds out0 out1 end = TextEnds (IsTextOf s rounds) out0 out1 end

-- how a random drill ends
abbrev pub RandomDrillEnds : ℕ → ℕ → StreamSeen → StreamSeen → Status → Type 0
RandomDrillEnds seed events out0 out1 end =
    TextEnds (IsSummaryTextOf seed events) out0 out1 end
