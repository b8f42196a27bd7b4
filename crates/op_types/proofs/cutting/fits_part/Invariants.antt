use Rattle.std.proofs.Common.{◌≡◌, ◌≤◌, take}
use Rattle.op_types.specs.Limits.{most_part_bytes}
use Rattle.op_types.specs.Cutting.{entries_size}
use Rattle.op_types.proofs.cutting.fits_part.Given as goal

abbrev pub invariant-loop-entry : goal.invariant-loop-entry
invariant-loop-entry l = record {
  used : l.used ≡ entries_size (take l.entry-index l.entries);
  few : l.used ≤ most_part_bytes;
}
