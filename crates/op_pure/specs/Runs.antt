-- What a run of any happenings is proved to keep.
use Rattle.std.specs.Prelude.{ℕ, List, ◌++◌}
use Rattle.op_runs.specs.World.{Happening}
use Rattle.op_runs.specs.Schedules.{observers_begun}
use Rattle.op_lockstep.specs.Reach.{EachLockstepReaches, ProposeNoStop}
use Rattle.op_executions.specs.Laws as every
use Rattle.op_pure.specs.Happenings.{CanHappen}

-- the laws of the run of these members, spares and observers over these happenings
pub record KeepsTheLaws (members spares observers : List ℕ) (hs : List Happening) : Type 0 where
  -- each event names members, spares or observers, stop-signs no observers, and messages that were sent
  pub possible : CanHappen members spares observers hs
  -- the laws of every run
  pub laws : every.KeepsTheLaws members spares (observers_begun observers ++ hs)
  -- no observer owns a ballot
  pub owns : every.NoneOwnsBallots (every.reached members spares (observers_begun observers ++ hs)).world
  -- wherever three lockstep rounds are in a run without stop-signs, whoever alone hears a majority takes its
  -- own ballot for the leader's
  pub reaches : ProposeNoStop hs → EachLockstepReaches members spares (observers_begun observers ++ hs)
