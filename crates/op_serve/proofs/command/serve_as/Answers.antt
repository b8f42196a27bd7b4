use Rattle.op_outside.proofs.Seen.{rises_with_error}
use Rattle.op_input.specs.declared.settings.Configured.{Configured}
use Rattle.op_serve.specs.Mirrored.{is_configured}
use Rattle.op_serve.proofs.Endings.{node_of_settings}
use Rattle.op_serve.proofs.Mirrors.{serves_misconfigured, serves_not_admitted}
use Rattle.op_serve.proofs.command.serve_as.Goals as goal

pub serve_node-requires : goal.serve_node-requires
serve_node-requires g c = node_of_settings _ _ _ c.requires c.in-Ok.ensures.configured.settings

pub returns-in-Ok-may_begin : goal.returns-in-Ok-may_begin
returns-in-Ok-may_begin g c =
    is_configured c.in-Ok.found.settings c.in-Ok-may_begin.begins_at _ c.in-Ok.ensures.configured (c.in-Ok.ensures.count.same (λ is. cc))
    (rw c.in-Ok-may_begin.is at c.may_begin.ensures) c.serve_node.ensures

pub returns : goal.returns
returns g c =
    let early = c.early-in-Err-may_begin.ensures in
    serves_not_admitted _ _ _ _ _ _ _ _ _ _ _ _ _ _ c.in-Ok.found.settings c.in-Ok.ensures.configured (c.in-Ok.ensures.count.same (λ is. cc))
    (rw c.in-Err-may_begin.is at c.may_begin.ensures) early.disks early.status early.lost

pub returns-in-Err : goal.returns-in-Err
returns-in-Err g c =
    let early = c.early.ensures in
    serves_misconfigured _ _ _ _ _ _ _ _ _ _ _ _ c.in-Err.ensures.refused (rises_with_error Configured _ _ _ _ c.in-Err.ensures.count) c.in-Err.ensures.most early.disks early.status early.lost
