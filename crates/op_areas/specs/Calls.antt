-- How far the calls of two copies had come when a stop came. Only what is inside the crate speaks of this.
use Rattle.std.specs.Prelude.{ℕ, ◌==◌, List, Option, Some, None, if◌then◌else◌}
use Rattle.op_memory.specs.MemDisks.{IsImageBefore, IsImageDone, IsImageOf}
use Rattle.op_memory.specs.declared.disk.MemDisk.{MemDisk}
use Rattle.op_areas.specs.declared.copy_call.CopyCall.{CopyCall}
use Rattle.op_areas.specs.declared.copy_call.CopyCall.TheVariants.{Stopped, Done, Missing}

-- the call of the first copy, where the stop came in one of this copy: that was done before the second one's
abbrev pub first_call : Option ℕ → CopyCall
first_call None = Missing
first_call (Some copy) = if copy == 0 then Stopped else if copy == 1 then Done else Missing

-- and the call of the second copy
abbrev pub second_call : Option ℕ → CopyCall
second_call None = Missing
second_call (Some copy) = if copy == 1 then Stopped else Missing

-- the image of this number of a copy whose call had come so far
abbrev pub IsImageAt : CopyCall → MemDisk → ℕ → List ℕ → Type 0
IsImageAt Stopped = IsImageOf
IsImageAt Done = IsImageDone
IsImageAt Missing = IsImageBefore
