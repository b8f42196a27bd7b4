-- What is pending of a disk in memory, gathered call by call.
use Rattle.std.specs.Prelude.{◌≡◌, [], ◌∷◌, reverse}
use Rattle.op_outside.specs.Pendings.{Pending}
use Rattle.op_memory.specs.declared.call.Call.{Call}
use Rattle.op_memory.specs.declared.pends.Pends.{Pends}
use Rattle.op_memory.specs.Images.{State, after}
use Rattle.op_memory.specs.Syncs.{HasNoSync}

-- this is what is pending: its writes stand in the order of the calls
pub record IsPendsOf (s : Pending) (pends : Pends) : Type 0 where
  pub base_is : pends.base.items ≡ s.base
  pub low_is : pends.low ≡ s.low
  pub writes_are : reverse pends.writes.items ≡ s.writes

-- the same is pending
pub record IsSamePends (pends other : Pends) : Type 0 where
  pub low_same : pends.low ≡ other.low
  pub base_same : pends.base.items ≡ other.base.items
  pub writes_same : pends.writes.items ≡ other.writes.items

-- what was gathered before this call is gathered after it
abbrev pub Gathers : Call → Pends → Pends → Type 0
Gathers call old new =
    (s : State) → HasNoSync (call ∷ []) → IsPendsOf s.pending old → IsPendsOf (after call s).pending new
