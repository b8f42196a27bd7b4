-- What the program does, by what the words ask.
use Rattle.std.specs.Prelude.{◌≡◌, ◌⊎◌, [], ℕ, List, Option}
use Rattle.op_outside.specs.declared.disk.Disk.{Ghosts}
use Rattle.op_outside.specs.Seen.{NetSeen, StreamSeen, SpawnerSeen}
use Rattle.op_setup.specs.Tasks.{IsTask, IsTaskOf}
use Rattle.op_setup.specs.declared.tasks.Task.{Task}
use Rattle.op_setup.specs.declared.tasks.Task.TheVariants.{Node, Replay, Call, Cluster, Drill, DrillLinks}
use Rattle.op_serving.specs.declared.mark.Mark.{Mark}
use Rattle.op_status.specs.declared.status.Status.{Status}
use Rattle.op_status.specs.declared.status.Status.TheVariants as status
use Rattle.op_replay.specs.Answers.{Replays}
use Rattle.op_serve.specs.Mirrored.{Environment, environment}
use Rattle.op_serve.specs.Mirrored as node
use Rattle.op_serve.specs.declared.node_disks.NodeDisks.{NodeDisks}
use Rattle.op_call.specs.Calls.{CallEnds}
use Rattle.op_drill.specs.Drills.{DrillEnds, RandomDrillEnds}
use Rattle.op_top.specs.Clusters.{RunsCluster}

-- all that is outside the program but its standard error: its disks, and what net, clock, input, output and
-- child programs tell, with the counts of faults
pub record Outside (D : Type 0) : Type 0 where
  pub disks : NodeDisks D
  pub net : NetSeen
  pub clock : Option (List ℕ)
  pub input : StreamSeen
  pub output : StreamSeen
  pub children : SpawnerSeen

abbrev pub outside : {D : Type 0} → NodeDisks D → NetSeen → Option (List ℕ) → StreamSeen → StreamSeen →
    SpawnerSeen → Outside D
outside disks net clock input output children =
    record {
      disks = disks;
      net = net;
      clock = clock;
      input = input;
      output = output;
      children = children;
    }

-- what is around a node
abbrev pub around_node : {D : Type 0} → Outside D → Environment D
around_node o = environment o.disks o.net o.clock o.output

-- nothing was done
abbrev pub DoesNothing : {D : Type 0} → Outside D → Outside D → List Mark → Type 0
DoesNothing old new lost = (new ≡ old) × (lost ≡ [])

-- over disks of a type of which its trait tells this
module _ {D : Type 0} (disk : Ghosts D) where
  -- how a task ends, what was lost, and what it leaves outside
  abbrev pub DoesTask : Task → Outside D → Outside D → Status → List Mark → Type 0
  DoesTask Replay old new s lost =
      Replays s old.input new.input old.output new.output
      × (new ≡ record old { input = new.input; output = new.output }) × (lost ≡ [])
  DoesTask (Node id) old new s lost =
      node.Serves disk id old.input new.input (around_node old) (around_node new) s lost
      × (new.children ≡ old.children)
  DoesTask (Call addr request) old new s lost =
      CallEnds addr request old.net new.net old.output new.output s
      × (new ≡ record old { net = new.net; output = new.output }) × (lost ≡ [])
  DoesTask Cluster old new s lost =
      RunsCluster old.input new.input old.output new.output old.children new.children s
      × (new ≡ record old { input = new.input; output = new.output; children = new.children }) × (lost ≡ [])
  DoesTask (Drill seed events) old new s lost =
      RandomDrillEnds seed events old.output new.output s
      × (new ≡ record old { output = new.output }) × (lost ≡ [])
  DoesTask (DrillLinks scenario rounds) old new s lost =
      DrillEnds scenario rounds old.output new.output s
      × (new ≡ record old { output = new.output }) × (lost ≡ [])

  -- What the program does with these words: `Usage` comes exactly where they ask for no task; a task ends as
  -- it may, unless there was no memory to read the words, and then, as with `Usage`, nothing was done.
  pub record Does (words : List (List ℕ)) (old new : Outside D) (s : Status) (lost : List Mark) : Type 0 where
    pub usage_only_if : s ≡ status.Usage → IsTask words → ⊥
    pub usage_always : (IsTask words → ⊥) → (s ≡ status.Usage) × DoesNothing old new lost
    pub task : (t : Task) → IsTaskOf words t
        → DoesTask t old new s lost ⊎ ((s ≡ status.NoMemory) × DoesNothing old new lost)
