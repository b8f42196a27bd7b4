use Rattle.std.proofs.Common.{subst}
use Rattle.op_memory.specs.MemDisks.{known_disk}
use Rattle.op_mirror.specs.Opens.{RefusedFor}
use Rattle.op_mirror.specs.declared.opening.OpenCause.TheVariants.{DiskFail}
use Rattle.op_areas.proofs.Pairs.{opening_is, refused_hold_no_more}
use Rattle.op_areas.proofs.mirror.MemMirrorArea.open.Goals as goal

pub returns-in-Ok : goal.returns-in-Ok
returns-in-Ok c =
    opening_is c.args.copies c.of-seen.result c.in-Ok.mirror c.opened.result c.of-seen.ensures c.in-Ok.ensures.opened c.opened.ensures.seen

pub returns-in_ok-unopened-in-DiskFail : goal.returns-in_ok-unopened-in-DiskFail
returns-in_ok-unopened-in-DiskFail c =
    let e = c.in-Err.field-0 in
    let refused : RefusedFor known_disk c.args.copies.first c.args.copies.second e.first e.second DiskFail =
    subst (RefusedFor known_disk c.args.copies.first c.args.copies.second e.first e.second) c.in-DiskFail.is c.in-Err.ensures.refused in
    refused_hold_no_more c.args.copies c.of-seen.result e.first e.second c.in_ok-unopened-in-DiskFail.field-0 c.of-seen.ensures refused.6 c.in_ok-unopened-in-DiskFail.ensures
