-- How many frames wait behind for each connection.
use Rattle.std.specs.Prelude.{◌≡◌, ℕ, List}
use Rattle.std.specs.Option.{unwrap_or}
use Rattle.op_serving.specs.State.{Table, find}
use Rattle.op_serving.specs.Room.{count_at}

-- the count of a connection, which is 0 where none is noted
abbrev pub count_of : ℕ → Table ℕ → ℕ
count_of c t = unwrap_or (find c t) 0

-- these are the counts of these frames
pub record AreCounts (counts : Table ℕ) (frames : Table (List ℕ)) : Type 0 where
  pub each : (c : ℕ) → count_of c counts ≡ count_at c frames
