-- What a run of a schedule's events answers.
use Rattle.std.specs.Prelude.{◌≡◌, ℕ, Bool, List, [], ◌++◌, All}
use Rattle.op_runs.specs.declared.events.Event.{Event}
use Rattle.op_runs.specs.declared.summary.Summary.{Summary}
use Rattle.op_runs.specs.World.{Happening, all_done}
use Rattle.op_runs.specs.Schedules.{observers_begun, IsRunOf, TellsNoFault}
use Rattle.op_runs.specs.Summary.{summary_of}
use Rattle.op_gen.specs.Draws.{drill_members, drill_spares, drill_mirrored, AreDrawn}
use Rattle.op_executions.specs.Laws.{KeepsTheLaws, NoneOwnsBallots, reached}

-- this is reported of a run of the events at these members, spares and observers, whose disks are mirrored or
-- not
pub record IsReportOfRun (members spares observers : List ℕ) (mirrored : Bool) (events : List Event)
    (s : Summary) : Type 0 where
  -- each event names members, spares or observers, stop-signs no observers, and messages that were sent; and
  -- they become these happenings behind the observers' beginnings: each is done, but where a stop or a
  -- failure in a call of a disk awaits its node, or one of its areas is lost
  pub happenings : List Happening
  pub run : IsRunOf members spares observers mirrored events happenings
  -- it is what the run leaves
  pub left : s ≡ summary_of members (reached members spares happenings)
  -- the run keeps the laws: it meets the list machine, its lists answer each client, and observers stand
  pub laws : KeepsTheLaws members spares happenings
  -- and none of these owns a ballot
  pub owns : NoneOwnsBallots (reached members spares happenings).world
  -- where no stop and no failure in a call is told, and no disk is killed, each event is done
  pub plain : All (λ e. TellsNoFault e.what) events
      → happenings ≡ observers_begun observers ++ all_done events

-- this is reported of a drill of so many events that this seed draws
pub record IsReportOfDrawn (seed count : ℕ) (s : Summary) : Type 0 where
  pub events : List Event
  -- it is the report of a run of these events
  pub report : IsReportOfRun drill_members drill_spares [] drill_mirrored events s
  -- each is drawn where those before it happened
  pub drawn : AreDrawn seed count events report.happenings
