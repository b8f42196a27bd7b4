-- The run of a schedule that tells of no stop and no failure in a call of a disk, and kills none: it is the
-- same whether the disks are mirrored or not.
use Rattle.std.specs.Prelude.{◌≡◌, ℕ, Bool, List, ◌++◌, All}
use Rattle.op_runs.specs.declared.events.Event.{Event}
use Rattle.op_runs.specs.World.{Happening, all_done}
use Rattle.op_runs.specs.Schedules.{observers_begun, IsRunOf, IsFirstRefused, TellsNoFault}
use Rattle.op_runs.specs.Summary.{run_execution}
use Rattle.op_executions.specs.Laws.{reached}

-- no event tells of one
abbrev pub ArePlain : List Event → Type 0
ArePlain events = All (λ e. TellsNoFault e.what) events

-- whatever its events become comes to what they come to where each is done
abbrev pub PlainRunsAreDone : Type 0
PlainRunsAreDone =
    (members spares observers : List ℕ) (mirrored : Bool) (events : List Event) (hs : List Happening)
    → ArePlain events → IsRunOf members spares observers mirrored events hs
    → reached members spares hs ≡ run_execution members spares observers events

-- and that is a run of it
abbrev pub PlainEventsCanBeDone : Type 0
PlainEventsCanBeDone =
    (members spares observers : List ℕ) (mirrored : Bool) (events : List Event) (hs : List Happening)
    → ArePlain events → IsRunOf members spares observers mirrored events hs
    → IsRunOf members spares observers mirrored events (observers_begun observers ++ all_done events)

-- one that has a run is never refused
abbrev pub PlainRunsAreNotRefused : Type 0
PlainRunsAreNotRefused =
    (members spares observers : List ℕ) (mirrored : Bool) (events : List Event) (hs : List Happening) (i : ℕ)
    → ArePlain events → IsRunOf members spares observers mirrored events hs
    → IsFirstRefused members spares observers mirrored events i → ⊥

-- and one event alone is the first that is refused
abbrev pub PlainRefusalsAreOne : Type 0
PlainRefusalsAreOne =
    (members spares observers : List ℕ) (mirrored : Bool) (events : List Event) (i j : ℕ) → ArePlain events
    → IsFirstRefused members spares observers mirrored events i
    → IsFirstRefused members spares observers mirrored events j → i ≡ j
