-- What contracts see of a map.
use Rattle.std.specs.Prelude.{ℕ}
use Rattle.op_spec.specs.Service.{Service}

-- A map as contracts see it: its service, and how much of it waits to go to its place.
pub record MapState : Type 0 where
  pub service : Service
  pub waiting : ℕ
