-- The runs of a schedule's events, at the members, spares and observers that it names, whose disks are
-- mirrored or not.
use Rattle.std.specs.Prelude.{◌≡◌, ℕ, Bool, List, Some, slice_get}
use Rattle.op_runs.specs.declared.events.Event.{Event}
use Rattle.op_runs.specs.World.{Happening}
use Rattle.op_runs.specs.Schedules.{IsRunOf, IsFirstRefused}

-- in some run this is the line of the first event that can't come: it names a server that is neither member,
-- nor spare, nor observer, in a stop-sign an observer, or a message that wasn't sent
pub record IsLineOfFirstBad (members spares observers : List ℕ) (mirrored : Bool) (events : List Event)
    (line : ℕ) : Type 0 where
  pub index : ℕ
  pub event : Event
  pub first : IsFirstRefused members spares observers mirrored events index
  pub there : slice_get events index ≡ Some event
  pub line_is : line ≡ event.line

-- in every run it is: there is no whole run, and no other such line
pub record IsTheBadLine (members spares observers : List ℕ) (mirrored : Bool) (events : List Event)
    (line : ℕ) : Type 0 where
  pub bad : IsLineOfFirstBad members spares observers mirrored events line
  pub no_run : (happenings : List Happening) → IsRunOf members spares observers mirrored events happenings → ⊥
  pub no_other : (other : ℕ) → IsLineOfFirstBad members spares observers mirrored events other → other ≡ line

-- in every run each event can come
abbrev pub HaveNoBadLine : List ℕ → List ℕ → List ℕ → Bool → List Event → Type 0
HaveNoBadLine members spares observers mirrored events =
    (line : ℕ) → IsLineOfFirstBad members spares observers mirrored events line → ⊥

-- events end in one way: either each can come in every run, or one line is bad in every run
pub record EndInOneWay (members spares observers : List ℕ) (mirrored : Bool) (events : List Event)
    : Type 0 where
  pub ran : (happenings : List Happening) → IsRunOf members spares observers mirrored events happenings
      → HaveNoBadLine members spares observers mirrored events
  pub refused : (line : ℕ) → IsLineOfFirstBad members spares observers mirrored events line
      → IsTheBadLine members spares observers mirrored events line
