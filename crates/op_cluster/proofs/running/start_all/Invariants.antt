use Rattle.std.proofs.Common.{◌≡◌, take}
use Rattle.op_outside.specs.Telling.{Grows}
use Rattle.op_cluster.specs.Clusters.{starts_of}
use Rattle.op_cluster.proofs.running.start_all.Given as goal

-- a child was started under each id so far
abbrev pub invariant-loop-id : goal.invariant-loop-id
invariant-loop-id g l =
    let told = g.P.Spawner.told in
    let faults = g.P.Spawner.fault_count in
    record {
      so_far : Grows (told l.fn.children) (starts_of l.input (take l.id-index l.ids)) (told l.children);
      same : faults l.children ≡ faults l.fn.children;
    }
