use Rattle.std.proofs.Common.{refl, ◌∙◌}
use Rattle.op_outside.proofs.Seen.{rises_with_error}
use Rattle.op_input.specs.declared.settings.Configured.{Configured}
use Rattle.op_top.specs.Clusters.{is_misconfigured, is_configured, has_no_memory}
use Rattle.op_top.proofs.ClusterEnds.{all_ended, child_failed, write_failed}
use Rattle.op_top.proofs.clusters.run_cluster.Goals as goal

pub returns-in-Err : goal.returns-in-Err
returns-in-Err g c = is_misconfigured c.in-Err.ensures.refused (rises_with_error Configured _ _ _ _ c.in-Err.ensures.count) c.in-Err.ensures.most refl refl

pub returns-in_default : goal.returns-in_default
returns-in_default g c = is_configured c.in-Ok.found.settings c.in-Ok.ensures.configured (c.in-Ok.ensures.count.same (λ is. cc)) (has_no_memory refl refl)

pub returns-in-Ok-cluster : goal.returns-in-Ok-cluster
returns-in-Ok-cluster g c =
    let told = c.in-Ok-cluster.ensures in
    is_configured c.in-Ok.found.settings c.in-Ok.ensures.configured (c.in-Ok.ensures.count.same (λ is. cc))
    (all_ended _ _ _ _ _ _ _ _ (c.deref.ensures.value ∙ c.in-Ok-ids_of.ensures) c.deref-2.ensures.value _ told.ended told.child_cause told.write_cause)

pub returns-in-Err-ChildFault : goal.returns-in-Err-ChildFault
returns-in-Err-ChildFault g c =
    let told = c.in-Err-ChildFault.ensures in
    is_configured c.in-Ok.found.settings c.in-Ok.ensures.configured (c.in-Ok.ensures.count.same (λ is. cc))
    (child_failed _ _ _ _ _ _ _ _ (c.deref.ensures.value ∙ c.in-Ok-ids_of.ensures) c.deref-2.ensures.value _ c.in-Err-ChildFault.field-0-is
    told.child_fault told.child_cause told.write_cause)

pub returns : goal.returns
returns g c =
    let told = c.in-Err-WriteFault.ensures in
    is_configured c.in-Ok.found.settings c.in-Ok.ensures.configured (c.in-Ok.ensures.count.same (λ is. cc))
    (write_failed _ _ _ _ _ _ _ _ (c.deref.ensures.value ∙ c.in-Ok-ids_of.ensures) c.deref-2.ensures.value _ c.in-Err-WriteFault.field-0-is
    told.write_fault told.child_cause told.write_cause)
