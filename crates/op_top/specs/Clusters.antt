-- How the command `cluster` ends, and what it leaves.
use Rattle.std.specs.Prelude.{◌≡◌, ◌+◌, ℕ, List, None}
use Rattle.std.specs.Map.{keys_of}
use Rattle.op_outside.specs.Causes.{FaultsRose, RisesWith}
use Rattle.op_outside.specs.Seen.{StreamSeen, SpawnerSeen}
use Rattle.op_outside.specs.Streams.{TakesAtMost}
use Rattle.op_setup.specs.declared.config.Settings.{Settings}
use Rattle.op_input.specs.Inputs.{IsConfigured, IsMisconfigured, input_limit}
use Rattle.op_cluster.specs.Clusters.{AllEnd, StartOrEndFails, WriteFails, starts_of, tells}
use Rattle.op_status.specs.declared.status.Status.{Status}
use Rattle.op_status.specs.declared.status.Status.TheVariants as status

-- How a cluster with these settings, of this text, ends: each node was started and has ended,
-- and their lines are written; or a start, an end or a write failed,
-- and nothing was called after it; or there was no memory, and nothing was called.
pub data Ends (text : List ℕ) (o : Settings) (out0 out1 : StreamSeen)
    (children0 children1 : SpawnerSeen) : Status → Type 0 where
  have_ended : AllEnd (starts_of text (keys_of o.peers)) (keys_of o.peers)
      (tells children0.0 out0.0) (tells children1.0 out1.0)
      → children1.1 ≡ children0.1 → out1.1 ≡ out0.1 → Ends text o out0 out1 children0 children1 status.Ended
  child_fails : StartOrEndFails text (keys_of o.peers) (tells children0.0 out0.0) (tells children1.0 out1.0)
      → FaultsRose children0.1 children1.1 → out1.1 ≡ out0.1
      → Ends text o out0 out1 children0 children1 status.ChildFault
  write_fails : WriteFails (starts_of text (keys_of o.peers)) (keys_of o.peers)
      (tells children0.0 out0.0) (tells children1.0 out1.0)
      → FaultsRose out0.1 out1.1 → children1.1 ≡ children0.1
      → Ends text o out0 out1 children0 children1 status.WriteFault
  has_no_memory : out1 ≡ out0 → children1 ≡ children0
      → Ends text o out0 out1 children0 children1 status.NoMemory

-- How the command ends, where this was left of the input before and after it: there are no settings, and
-- nothing else was done, where the input failed only with a read fault, and not more was read than tells that
-- it is too long; or there are settings, and the cluster ends as above.
pub data RunsCluster (in0 in1 out0 out1 : StreamSeen)
    (children0 children1 : SpawnerSeen) : Status → Type 0 where
  is_misconfigured : {s : Status} → IsMisconfigured in0.0 None in0.1 in1.1 s
      → RisesWith (s ≡ status.ReadFault) in0.1 in1.1
      → TakesAtMost (input_limit + 1) in0.0 in1.0 → out1 ≡ out0 → children1 ≡ children0
      → RunsCluster in0 in1 out0 out1 children0 children1 s
  is_configured : {s : Status} {text : List ℕ} (o : Settings) → IsConfigured in0.0 in1.0 None text o
      → in1.1 ≡ in0.1
      → Ends text o out0 out1 children0 children1 s → RunsCluster in0 in1 out0 out1 children0 children1 s
