-- Which runs the laws are about.
use Rattle.std.specs.Prelude.{ℕ, List}
use Rattle.op_types.specs.Ranges.{MembersInRange}
use Rattle.op_runs.specs.World.{Happening}
use Rattle.op_runs.specs.Possible.{SparesInRange, HappeningsInRange}

-- members of configuration 1, spares and happenings in range
pub record RunInRange (members spares : List ℕ) (hs : List Happening) : Type 0 where
  pub first : MembersInRange members
  pub others : SparesInRange members spares
  pub happenings : HappeningsInRange hs
