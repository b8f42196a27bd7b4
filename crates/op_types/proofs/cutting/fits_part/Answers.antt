use Rattle.std.proofs.Common.{◌+◌, ap, sym, arith}
use Rattle.op_types.specs.Cutting.{entry_size}
use Rattle.op_types.specs.declared.log.Entry.{Entry}
use Rattle.op_types.proofs.CutRuns.{size_next, fits_not}
use Rattle.op_types.proofs.cutting.fits_part.Goals as goal

pub returns-then-used-gt-MOST_BYTES : goal.returns-then-used-gt-MOST_BYTES
returns-then-used-gt-MOST_BYTES c =
    let next = size_next c.args.entries.now c.loop-entry.entry-index c.entry-item.result c.loop-entry-test.true in
    let size = ap (λ (e : Entry). entry_size e) c.entry-item.is in
    sym (fits_not c.args.entries.now (c.loop-entry.entry-index + 1) (omega (arith, next, size, c.size-used.ensures.size, c.loop-entry.invariant.used)))

pub loop-entry-preserved : goal.loop-entry-preserved
loop-entry-preserved c =
    let next = size_next c.args.entries.now c.loop-entry.entry-index c.entry-item.result c.loop-entry-test.true in
    let size = ap (λ (e : Entry). entry_size e) c.entry-item.is in
    record {
      used = omega (arith, next, size, c.size-used.ensures.size, c.loop-entry.invariant.used);
      few = omega arith;
    }
