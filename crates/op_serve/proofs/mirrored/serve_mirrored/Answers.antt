use Rattle.std.proofs.Common.{◌∙◌}
use Rattle.op_serve.proofs.Mirrors.{ends_first_refused, ends_second_refused, ends_open}
use Rattle.op_serve.proofs.mirrored.serve_mirrored.Goals as goal

pub returns-in-Err : goal.returns-in-Err
returns-in-Err g c =
    let early = c.early.ensures in
    ends_first_refused g.D.Disk _ _ _ c.args.disks _ _ _ c.in-Err.refused.cause c.in-Err.refused.first c.in-Err.refused.second _ _ _ c.in-Err.ensures.refused
    (early.disks ∙ c.of_areas-disks.ensures) (early.status ∙ c.status_of_cause.ensures) early.lost

pub returns-in-Err-open : goal.returns-in-Err-open
returns-in-Err-open g c =
    let early = c.early-in-Err-open.ensures in
    let copies = c.copies_of.ensures in
    ends_second_refused g.D.Disk _ _ _ c.args.disks _ _ _ c.in-Err-open.refused.cause c.in-Ok.mirror _ _ c.in-Err-open.refused.first c.in-Err-open.refused.second _ _ _
    c.in-Ok.ensures.opened c.in-Err-open.ensures.refused copies.first copies.second (early.disks ∙ c.of_areas-disks-in-Err-open.ensures)
    (early.status ∙ c.status_of_cause-in-Err-open.ensures) early.lost

pub returns : goal.returns
returns g c =
    let first = c.copies_of-2.ensures in
    let second = c.copies_of-3.ensures in
    ends_open g.D.Disk _ _ _ c.args.disks _ _ _ _ _ _ c.in-Ok.mirror c.in-Ok-open.mirror c.serve_on-ended.result.first c.serve_on-ended.result.second _ _ _ _ _ _ _ _
    c.in-Ok.ensures.opened c.in-Ok-open.ensures.opened c.serve_on-ended.ensures c.of_areas.ensures first.first first.second second.first second.second
    first.failed second.failed first.mixes second.mixes
