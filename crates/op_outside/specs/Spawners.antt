-- What a spawner is asked, and what it answers.
use Rattle.std.specs.Prelude.{ℕ, List, Option}

-- one call of a spawner: a start of an id with its input,
-- or an end with its status; the answer is None where it failed
pub data ChildCall : Type 0 where
  Started : ℕ → List ℕ → Option (Unit {0}) → ChildCall
  EndedWith : ℕ → Option ℕ → ChildCall
