-- How a cluster ends, from what its calls tell.
use Rattle.std.proofs.Common.{◌≡◌, ℕ, List, Ok, Err, ap}
use Rattle.std.specs.Prelude.{IsErrOf}
use Rattle.std.specs.Map.{keys_of}
use Rattle.op_outside.specs.Causes.{RisesWith}
use Rattle.op_outside.specs.Seen.{StreamSeen, SpawnerSeen}
use Rattle.op_setup.specs.declared.config.Settings.{Settings}
use Rattle.op_cluster.specs.Clusters.{AllEnd, StartOrEndFails, WriteFails, starts_of, tells}
use Rattle.op_cluster.specs.declared.cluster_fail.ClusterFail.{ClusterFail}
use Rattle.op_cluster.specs.declared.cluster_fail.ClusterFail.TheVariants as fail
use Rattle.op_status.specs.declared.status.Status.TheVariants as status
use Rattle.op_top.specs.Clusters.{Ends, have_ended, child_fails, write_fails}

module _ (text input ids : List ℕ) (o : Settings) (out0 out1 : StreamSeen) (children0 children1 : SpawnerSeen) (at_ids : ids ≡ keys_of o.peers) (at_text : input ≡ text) where
  pub all_ended : (x : Unit {0}) → AllEnd (starts_of input ids) ids (tells children0.0 out0.0) (tells children1.0 out1.0)
      → RisesWith (IsErrOf {T = Unit {0}} (Ok x) fail.ChildFault) children0.1 children1.1 → RisesWith (IsErrOf {T = Unit {0}} (Ok x) fail.WriteFault) out0.1 out1.1
      → Ends text o out0 out1 children0 children1 status.Ended
  all_ended x all child write = have_ended (rw (at_ids, at_text) at all) (child.same (λ is. cc)) (write.same (λ is. cc))

  pub child_failed : (e : ClusterFail) → e ≡ fail.ChildFault
      → (IsErrOf {T = Unit {0}} (Err e) fail.ChildFault → StartOrEndFails input ids (tells children0.0 out0.0) (tells children1.0 out1.0))
      → RisesWith (IsErrOf {T = Unit {0}} (Err e) fail.ChildFault) children0.1 children1.1 → RisesWith (IsErrOf {T = Unit {0}} (Err e) fail.WriteFault) out0.1 out1.1
      → Ends text o out0 out1 children0 children1 status.ChildFault
  child_failed e is fails child write =
      child_fails (rw (at_ids, at_text) at (fails (ap Err is))) (child.rose (ap Err is)) (write.same (λ other. cc))

  pub write_failed : (e : ClusterFail) → e ≡ fail.WriteFault
      → (IsErrOf {T = Unit {0}} (Err e) fail.WriteFault → WriteFails (starts_of input ids) ids (tells children0.0 out0.0) (tells children1.0 out1.0))
      → RisesWith (IsErrOf {T = Unit {0}} (Err e) fail.ChildFault) children0.1 children1.1 → RisesWith (IsErrOf {T = Unit {0}} (Err e) fail.WriteFault) out0.1 out1.1
      → Ends text o out0 out1 children0 children1 status.WriteFault
  write_failed e is fails child write =
      write_fails (rw (at_ids, at_text) at (fails (ap Err is))) (write.rose (ap Err is)) (child.same (λ other. cc))
