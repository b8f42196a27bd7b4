-- A mirror that is told of a stop of its second copy. Only what is inside the crate speaks of this.
use Rattle.std.specs.Prelude.{◌≡◌, ◌&&◌, Bool, true, false, Some}
use Rattle.op_memory.specs.FaultScripts.{is_due, next_call}
use Rattle.op_memory.specs.declared.disk.MemDisk.{MemDisk}
use Rattle.op_mirror.specs.Copies.{has_first, has_second}
use Rattle.op_mirror.specs.Joins.{IsSameButFirst}
use Rattle.op_mirror.specs.declared.mirror.Mirror.{Mirror}
use Rattle.op_areas.specs.Disks.{IsArmed}

-- both copies live, and the second one stops in its next call
abbrev pub wants_brace : {g : _} → Mirror MemDisk g → Bool
wants_brace m = has_first m.gone m.is_dead && (has_second m.gone m.is_dead && is_due m.second.script)

-- The first copy stops in its next call where both live and the second one does. Nothing else has changed:
-- the stop of a copy that is out, which is called no more, stops nothing.
pub record IsBraced {g : _} (old new : Mirror MemDisk g) : Type 0 where
  pub armed : IsArmed old.first new.first
  pub rest : IsSameButFirst old new
  pub stops : wants_brace old ≡ true → new.first.script.stop ≡ Some (next_call old.first.script)
  pub same : wants_brace old ≡ false → new.first ≡ old.first
