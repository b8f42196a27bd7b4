use Rattle.std.proofs.Common.{◌≡◌, [], take}
use Rattle.op_cluster.specs.Clusters.{AllEnd, tells}
use Rattle.op_cluster.proofs.running.end_all.Given as goal

-- the child of each id so far has ended, and its line stands
abbrev pub invariant-loop-id : goal.invariant-loop-id
invariant-loop-id g l =
    let told = g.P.Spawner.told in
    let child_faults = g.P.Spawner.fault_count in
    let held = g.K.Sink.held in
    let write_faults = g.K.Sink.fault_count in
    record {
      so_far : AllEnd [] (take l.id-index l.ids) (tells (told l.fn.children) (held l.fn.out)) (tells (told l.children) (held l.out));
      no_child_fault : child_faults l.children ≡ child_faults l.fn.children;
      no_write_fault : write_faults l.out ≡ write_faults l.fn.out;
    }
