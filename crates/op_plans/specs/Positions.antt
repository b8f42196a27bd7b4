-- What holds of a part's positions.
use Rattle.std.specs.Prelude.{◌≤◌}
use Rattle.op_types.specs.Limits.{positions_end}
use Rattle.op_types.specs.Changes.{len_of}
use Rattle.op_types.specs.declared.durable.Part.{Part}

-- what is trimmed is decided, what is decided is in the log, and the log ends within the positions
pub record FitsPositions (p : Part) : Type 0 where
  pub trimmed : p.trimmed ≤ p.decided
  pub decided : p.decided ≤ len_of p
  pub small : len_of p ≤ positions_end
