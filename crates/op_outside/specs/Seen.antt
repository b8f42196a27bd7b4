-- What is seen of an object outside: what it tells of the calls that were made of it,
-- and its count of faults.
use Rattle.std.specs.Prelude.{◌⊎◌, ℕ, List, Option}
use Rattle.std.specs.Io.KnownBytes.{Appends}
use Rattle.op_outside.specs.Causes.{FaultsRose, RisesIf}
use Rattle.op_outside.specs.Nets.{Call, has_failed}
use Rattle.op_outside.specs.Spawners.{ChildCall}
use Rattle.op_outside.specs.Streams.{AppendsPrefix}
use Rattle.op_outside.specs.Telling.{Grows}

-- what a net tells, and its count of faults
abbrev pub NetSeen : Type 0
NetSeen = Option (List Call) × ℕ

-- what a stream tells, and its count of faults
abbrev pub StreamSeen : Type 0
StreamSeen = Option (List ℕ) × ℕ

-- a sink got this text, whole unless its count rose
abbrev pub Tells : StreamSeen → StreamSeen → List ℕ → Type 0
Tells before now text =
    AppendsPrefix before.0 now.0 text × (Appends before.0 now.0 text ⊎ FaultsRose before.1 now.1)

-- what a spawner tells, and its count of faults
abbrev pub SpawnerSeen : Type 0
SpawnerSeen = Option (List ChildCall) × ℕ

-- what a net tells grew by these calls, and its count rose only where one of them failed
pub record Told (calls : List Call) (before now : NetSeen) : Type 0 where
  pub grows : Grows before.0 calls now.0
  pub counts : RisesIf (has_failed calls) before.1 now.1
