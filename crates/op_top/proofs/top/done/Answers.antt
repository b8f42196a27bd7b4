use Rattle.op_top.proofs.Tasks.{task_of, does_replay, does_node, does_call, does_cluster, does_random_drill, does_drill}
use Rattle.op_top.proofs.top.done.Goals as goal

pub returns-in-Ok-Replay : goal.returns-in-Ok-Replay
returns-in-Ok-Replay g c =
    let asked = c.in-Ok-Replay.ensures in
    let did = c.replay.ensures in
    does_replay _ _ _ _ _ _ _ c.early.ensures.disks c.early.ensures.status c.early.ensures.lost _ _ _ _ _ _ _
    (task_of _ _ _ c.in-Ok-Replay.field-0-is asked.found asked.in_range)
    (record {
      output = did.output;
      input = did.input;
      refused = did.refused;
      read_fault = did.read_fault;
      write_fault = did.write_fault;
      no_other = did.no_other;
      complete = did.complete;
    })

pub returns-in-Ok-Node : goal.returns-in-Ok-Node
returns-in-Ok-Node g c =
    let asked = c.in-Ok-Node.ensures in
    does_node _ _ _ _ _ _ _ _ _ _ _ _ _ _ _ _ (task_of _ _ _ c.in-Ok-Node.field-0-is asked.found asked.in_range) c.serve_as.ensures

pub returns-in-Ok-Call : goal.returns-in-Ok-Call
returns-in-Ok-Call g c =
    let asked = c.in-Ok-Call.ensures in
    let early = c.early-in-Ok-Call.ensures in
    does_call _ _ _ _ _ _ _ early.disks early.status early.lost _ _ _ _ _ _ _ _ _
    (task_of _ _ _ c.in-Ok-Call.field-0-is asked.found asked.in_range) c.call_node-status.ensures

pub returns-in-Ok-DrillLinks : goal.returns-in-Ok-DrillLinks
returns-in-Ok-DrillLinks g c =
    let asked = c.in-Ok-DrillLinks.ensures in
    let early = c.early-in-Ok-DrillLinks.ensures in
    does_drill _ _ _ _ _ _ _ early.disks early.status early.lost _ _ _ _ _ _ _ _
    (task_of _ _ _ c.in-Ok-DrillLinks.field-0-is asked.found asked.in_range) c.drill_links-status.ensures

pub returns-in-Ok-Drill : goal.returns-in-Ok-Drill
returns-in-Ok-Drill g c =
    let asked = c.in-Ok-Drill.ensures in
    let early = c.early-in-Ok-Drill.ensures in
    does_random_drill _ _ _ _ _ _ _ early.disks early.status early.lost _ _ _ _ _ _ _ _
    (task_of _ _ _ c.in-Ok-Drill.field-0-is asked.found asked.in_range) c.drill-status.ensures

pub returns-in-Ok-Cluster : goal.returns-in-Ok-Cluster
returns-in-Ok-Cluster g c =
    let asked = c.in-Ok-Cluster.ensures in
    let early = c.early-in-Ok-Cluster.ensures in
    does_cluster _ _ _ _ _ _ _ early.disks early.status early.lost _ _ _ _ _ _ _ _
    (task_of _ _ _ c.in-Ok-Cluster.field-0-is asked.found asked.in_range) c.run_cluster-status.ensures
