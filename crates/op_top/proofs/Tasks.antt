-- What is done, by what the words ask.
use Rattle.std.proofs.Common.{◌≡◌, ℕ, List, [], Bool, true, false, Option, Some, None, Result, Ok, Err, refl, sym, subst, inl, inr}
use Rattle.op_outside.specs.Disks.{DiskState}
use Rattle.op_outside.specs.declared.disk.Disk.{Ghosts}
use Rattle.op_setup.specs.Tasks.{IsTask, IsTaskOf, TaskInRange, task_words}
use Rattle.op_setup.specs.declared.tasks.Task.{Task}
use Rattle.op_setup.specs.declared.tasks.Task.TheVariants.{Node, Replay, Call, Cluster, Drill, DrillLinks}
use Rattle.op_setup.proofs.TaskWords.{one_task}
use Rattle.op_setup.specs.declared.config.Settings.{Settings}
use Rattle.op_serving.specs.declared.mark.Mark.{Mark}
use Rattle.op_client.specs.declared.call_fail.CallFail.{CallFail}
use Rattle.op_client.specs.declared.call_fail.CallFail.TheVariants as fail
use Rattle.op_node.specs.Nodes.{NodeState}
use Rattle.op_runs.specs.Possible.{kind_in}
use Rattle.op_serving.specs.declared.serve_end.ServeEnd.{ServeEnd}
use Rattle.op_serving.specs.declared.serve_end.ServeEnd.TheVariants as ends
use Rattle.op_status.specs.declared.status.Status.{Status}
use Rattle.op_status.specs.declared.status.Status.TheVariants as status
use Rattle.op_input.specs.Inputs.{IsMisconfigured}
use Rattle.op_replay.specs.Answers.{AnswersReplay, Replays}
use Rattle.op_mirror.specs.Mirrors.{known_mirror}
use Rattle.op_mirror.specs.declared.opening.OpenCause.{OpenCause}
use Rattle.op_mirror.specs.declared.opening.OpenCause.TheVariants as cause
use Rattle.op_serve.specs.Folders as folder
use Rattle.op_serve.specs.Nodes as node
use Rattle.op_serve.specs.Mirrored as mirrored
use Rattle.op_serve.specs.declared.node_disks.NodeDisks.{NodeDisks}
use Rattle.op_types.specs.declared.events.Request.{Request}
use Rattle.op_outside.specs.Seen.{NetSeen, StreamSeen, SpawnerSeen}
use Rattle.op_outside.specs.declared.net.Addr.{Addr}
use Rattle.op_gen.specs.declared.scenario.Scenario.{Scenario}
use Rattle.op_drill.specs.Drills as drill
use Rattle.op_call.specs.Calls as call
use Rattle.op_top.specs.Clusters as cluster
use Rattle.op_top.specs.Tasks.{Outside, Does, DoesTask, around_node, outside}

-- the status is not that of words which are refused
abbrev pub IsNoUsage : Status → Type 0
IsNoUsage status.Usage = ⊥
IsNoUsage _ = Unit {0}

pub is_none : (s : Status) → IsNoUsage s → s ≡ status.Usage → ⊥
is_none s other is = subst IsNoUsage is other

-- ---- no task ends so

misconfigured : (left : Option (List ℕ)) (id : Option ℕ) (before now : ℕ) (s : Status) → IsMisconfigured left id before now s → IsNoUsage s
misconfigured left id before now (status.BadConfig c) h = tt
misconfigured left id before now status.Usage h = absurd h
misconfigured left id before now status.ReadFault h = tt
misconfigured left id before now status.InputLimit h = tt
misconfigured left id before now status.NoMemory h = tt
misconfigured left id before now status.Ended h = tt
misconfigured left id before now (status.BadSchedule n) h = tt
misconfigured left id before now status.WriteFault h = tt
misconfigured left id before now status.DiskFault h = tt
misconfigured left id before now status.NetFault h = tt
misconfigured left id before now status.TurnsOver h = tt
misconfigured left id before now (status.Damaged area place) h = tt
misconfigured left id before now status.ChildFault h = tt
misconfigured left id before now status.NoReply h = tt
misconfigured left id before now (status.NewerVersion area version) h = tt
misconfigured left id before now status.NoIdentity h = tt
misconfigured left id before now (status.OtherIdentity i n) h = tt

served : (end : ServeEnd) → IsNoUsage (node.status_of end)
served ends.Ended = tt
served ends.TurnsOver = tt
served ends.NetFault = tt
served ends.Starved = tt

heard : (id : ℕ) (o : Settings) (s : Status) (net0 net1 : NetSeen) (out0 out1 : StreamSeen) → node.IsHeard {T = Unit {0}} id o (Err s) net0 net1 out0 out1 → IsNoUsage s
heard id o status.Usage net0 net1 out0 out1 h = absurd h
heard id o status.Ended net0 net1 out0 out1 h = tt
heard id o (status.BadConfig c) net0 net1 out0 out1 h = tt
heard id o (status.BadSchedule n) net0 net1 out0 out1 h = tt
heard id o status.ReadFault net0 net1 out0 out1 h = tt
heard id o status.WriteFault net0 net1 out0 out1 h = tt
heard id o status.DiskFault net0 net1 out0 out1 h = tt
heard id o status.NetFault net0 net1 out0 out1 h = tt
heard id o status.NoMemory net0 net1 out0 out1 h = tt
heard id o status.TurnsOver net0 net1 out0 out1 h = tt
heard id o (status.Damaged area place) net0 net1 out0 out1 h = tt
heard id o status.ChildFault net0 net1 out0 out1 h = tt
heard id o status.InputLimit net0 net1 out0 out1 h = tt
heard id o status.NoReply net0 net1 out0 out1 h = tt
heard id o (status.NewerVersion area version) net0 net1 out0 out1 h = tt
heard id o status.NoIdentity net0 net1 out0 out1 h = tt
heard id o (status.OtherIdentity i n) net0 net1 out0 out1 h = tt

node_goes : {D : Type 0} (state : D → DiskState) (id : ℕ) (o : Settings) (n : NodeState) (stood : Type 0) (old new : node.Around D) (s : Status) (lost : List Mark) → node.Goes state id o n stood old new s lost → IsNoUsage s
node_goes state id o n stood old new s lost (node.is_unheard h same lives) = heard id o s old.net new.net old.output new.output h
node_goes state id o n stood old new s lost (node.cannot_begin t r c same lives) = tt
node_goes state id o n stood old new s lost (node.has_served {end} net r count serves kept stored lives) = served end

node_ends : {D : Type 0} (state : D → DiskState) (id : ℕ) (o : Settings) (old new : node.Around D) (s : Status) (lost : List Mark) → node.Ends state id o old new s lost → IsNoUsage s
node_ends state id o old new s lost (node.cannot_open a b) = tt
node_ends state id o old new s lost (node.is_damaged a b c) = tt
node_ends state id o old new s lost (node.is_newer a b c) = tt
node_ends state id o old new s lost (node.has_no_memory a b) = tt
node_ends state id o old new s lost (node.is_opened {n} mid opened goes) =
    node_goes state id o n (node.IsOwn state (kind_in o.observers id) id old opened.durable) mid new s lost goes
node_ends state id o old new s lost (node.is_not_marked opened lives) = tt

unopened : (c : OpenCause) → IsNoUsage (mirrored.status_of_cause c)
unopened cause.DiskFail = tt
unopened cause.NoMemory = tt

module _ {D : Type 0} (disk : Ghosts D) (id : ℕ) where
  mirrors_end : (begins : Option ℕ) (o : Settings) (old new : mirrored.Environment D) (s : Status) (lost : List Mark) → mirrored.EndsOverMirrors disk begins id o old new s lost → IsNoUsage s
  mirrors_end begins o old new s lost (mirrored.first_refused c x y r same) = unopened c
  mirrors_end begins o old new s lost (mirrored.second_refused c a x y opens r same) = unopened c
  mirrors_end begins o old new s lost (mirrored.are_open a b c d at_a at_b ends copies marked failed) = node_ends (known_mirror disk.state) id o _ _ s lost ends

  ends_with : (b : Bool) (begins : Option ℕ) (o : Settings) (old new : mirrored.Environment D) (s : Status) (lost : List Mark) → mirrored.EndsWith disk b begins id o old new s lost → IsNoUsage s
  ends_with false begins o old new s lost e = node_ends disk.state id o _ _ s lost e.ends
  ends_with true begins o old new s lost e = mirrors_end begins o old new s lost e.ends

  -- a node that may not begin ends so
  abbrev IsNoUsageIn : Result (Option ℕ) Status → Type 0
  IsNoUsageIn (Ok begins) = Unit {0}
  IsNoUsageIn (Err s) = IsNoUsage s

  without_areas : (b : Bool) (old new : NodeDisks D) (r : Result (Option ℕ) Status) → folder.HasAreas disk b old new r → IsNoUsageIn r
  without_areas b old new (Ok begins) h = tt
  without_areas b old new (Err status.Usage) h = absurd h
  without_areas b old new (Err status.Ended) h = tt
  without_areas b old new (Err (status.BadConfig c)) h = tt
  without_areas b old new (Err (status.BadSchedule n)) h = tt
  without_areas b old new (Err status.ReadFault) h = tt
  without_areas b old new (Err status.WriteFault) h = tt
  without_areas b old new (Err status.DiskFault) h = tt
  without_areas b old new (Err status.NetFault) h = tt
  without_areas b old new (Err status.NoMemory) h = tt
  without_areas b old new (Err status.TurnsOver) h = tt
  without_areas b old new (Err (status.Damaged area place)) h = tt
  without_areas b old new (Err status.ChildFault) h = tt
  without_areas b old new (Err status.InputLimit) h = tt
  without_areas b old new (Err status.NoReply) h = tt
  without_areas b old new (Err (status.NewerVersion area version)) h = tt
  without_areas b old new (Err status.NoIdentity) h = tt
  without_areas b old new (Err (status.OtherIdentity i n)) h = tt

  may_begin : (o : Settings) (old new : NodeDisks D) (r : Result (Option ℕ) Status) → folder.MayBegin disk id o old new r → IsNoUsageIn r
  may_begin o old new r (folder.has_no_name none same) = tt
  may_begin o old new r (folder.is_to_begin at asks) = tt
  may_begin o old new r (folder.has_begun mid asks areas) = without_areas o.is_mirrored mid new r areas
  may_begin o old new r (folder.is_nobodys asks) = tt
  may_begin o old new r (folder.is_others i n asks) = tt
  may_begin o old new r (folder.is_unreadable e asks) = tt

  pub node_serves : (in0 in1 : StreamSeen) (old new : mirrored.Environment D) (s : Status) (lost : List Mark) → mirrored.Serves disk id in0 in1 old new s lost → IsNoUsage s
  node_serves in0 in1 old new s lost (mirrored.is_misconfigured h rises most same) = misconfigured in0.0 (Some id) in0.1 in1.1 s h
  node_serves in0 in1 old new s lost (mirrored.is_not_admitted o c same may only) = may_begin o old.disks new.disks (Err s) may
  node_serves in0 in1 old new s lost (mirrored.is_configured o begins seen c same may e) = ends_with o.is_mirrored begins o _ new s lost e

failed : (why : CallFail) → IsNoUsage (call.status_of why)
failed fail.NoReply = tt
failed fail.TurnsOver = tt
failed fail.NetFault = tt
failed fail.NoMemory = tt

call_ends : {addr : Addr} {request : Request} (net0 net1 : NetSeen) (out0 out1 : StreamSeen) (s : Status) → call.CallEnds addr request net0 net1 out0 out1 s → IsNoUsage s
call_ends net0 net1 out0 out1 s (call.is_told a b c) = tt
call_ends net0 net1 out0 out1 s (call.is_cut a b c) = tt
call_ends net0 net1 out0 out1 s (call.is_untold a b) = tt
call_ends net0 net1 out0 out1 s (call.has_no_reply {why} a b) = failed why

drill_ends : {IsText : List ℕ → Type 0} (out0 out1 : StreamSeen) (s : Status) → drill.TextEnds IsText out0 out1 s → IsNoUsage s
drill_ends out0 out1 s (drill.is_told a b c) = tt
drill_ends out0 out1 s (drill.is_cut a b c) = tt
drill_ends out0 out1 s (drill.has_no_memory a) = tt

cluster_ends : (text : List ℕ) (o : Settings) (out0 out1 : StreamSeen) (children0 children1 : SpawnerSeen) (s : Status) → cluster.Ends text o out0 out1 children0 children1 s → IsNoUsage s
cluster_ends text o out0 out1 children0 children1 s (cluster.have_ended a b c) = tt
cluster_ends text o out0 out1 children0 children1 s (cluster.child_fails a b c) = tt
cluster_ends text o out0 out1 children0 children1 s (cluster.write_fails a b c) = tt
cluster_ends text o out0 out1 children0 children1 s (cluster.has_no_memory a b) = tt

cluster_runs : (in0 in1 out0 out1 : StreamSeen) (children0 children1 : SpawnerSeen) (s : Status) → cluster.RunsCluster in0 in1 out0 out1 children0 children1 s → IsNoUsage s
cluster_runs in0 in1 out0 out1 children0 children1 s (cluster.is_misconfigured a rises most b c) = misconfigured in0.0 None in0.1 in1.1 s a
cluster_runs in0 in1 out0 out1 children0 children1 s (cluster.is_configured {text} o a b c) = cluster_ends text o out0 out1 children0 children1 s c

replayed : (s : Status) → AnswersReplay s → IsNoUsage s
replayed status.Usage h = absurd h
replayed status.Ended h = tt
replayed (status.BadConfig c) h = tt
replayed (status.BadSchedule n) h = tt
replayed status.ReadFault h = tt
replayed status.WriteFault h = tt
replayed status.DiskFault h = tt
replayed status.NetFault h = tt
replayed status.NoMemory h = tt
replayed status.TurnsOver h = tt
replayed (status.Damaged area place) h = tt
replayed status.ChildFault h = tt
replayed status.InputLimit h = tt
replayed status.NoReply h = tt
replayed (status.NewerVersion area version) h = tt
replayed status.NoIdentity h = tt
replayed (status.OtherIdentity i n) h = tt

-- ---- what is done

-- what the words ask
pub task_of : (words : List (List ℕ)) (t u : Task) → t ≡ u → words ≡ task_words t → TaskInRange t → IsTaskOf words u
task_of words t u is written in_range = rw (← is) (record { in_range = in_range; written = written })

module _ {D : Type 0} (disk : Ghosts D) (words : List (List ℕ)) (old new : Outside D) (s : Status) (lost : List Mark) where
  task_ends : (t : Task) → DoesTask disk t old new s lost → IsNoUsage s
  task_ends Replay h = replayed s h.0.no_other
  task_ends (Node id) h = node_serves disk id old.input new.input (around_node old) (around_node new) s lost h.0
  task_ends (Call addr request) h = call_ends old.net new.net old.output new.output s h.0
  task_ends Cluster h = cluster_runs old.input new.input old.output new.output old.children new.children s h.0
  task_ends (Drill seed events) h = drill_ends old.output new.output s h.0
  task_ends (DrillLinks scenario rounds) h = drill_ends old.output new.output s h.0

  -- these words ask for this task, and it was done
  does_task : (t : Task) → IsTaskOf words t → DoesTask disk t old new s lost → Does disk words old new s lost
  does_task t of did =
      record {
        usage_only_if = λ is. absurd (is_none s (task_ends t did) is);
        usage_always = λ none. absurd (none (t, of));
        task = λ other is. inl (subst (λ (x : Task). DoesTask disk x old new s lost) (one_task words t other of is) did);
      }

  -- there is no memory for them
  lacks_memory : ((IsTask words → ⊥) → ⊥) → s ≡ status.NoMemory → new ≡ old → lost ≡ [] → Does disk words old new s lost
  lacks_memory some is same no_loss =
      record {
        usage_only_if = λ usage. absurd (is_none s (subst IsNoUsage (sym is) tt) usage);
        usage_always = λ none. absurd (some none);
        task = λ t of. inr (is, (same, no_loss));
      }

-- the same where the disks are handed back as they were, and nothing was lost
module _ {D : Type 0} (disk : Ghosts D) (words : List (List ℕ)) (disks a : NodeDisks D) (r s : Status) (lost : List Mark)
    (at_disks : a ≡ disks) (is : s ≡ r) (no_loss : lost ≡ []) where
  pub does_replay : (net : NetSeen) (clock : Option (List ℕ)) (in0 in1 out0 out1 : StreamSeen) (children : SpawnerSeen)
      → IsTaskOf words Replay → Replays r in0 in1 out0 out1
      → Does disk words (outside disks net clock in0 out0 children) (outside a net clock in1 out1 children) s lost
  does_replay net clock in0 in1 out0 out1 children of did =
      rw (at_disks, is, no_loss)
      (does_task disk words (outside disks net clock in0 out0 children) (outside disks net clock in1 out1 children) r [] Replay of (did, refl, refl))

  pub does_call : (addr : Addr) (request : Request) (net0 net1 : NetSeen) (clock : Option (List ℕ)) (input out0 out1 : StreamSeen) (children : SpawnerSeen)
      → IsTaskOf words (Call addr request) → call.CallEnds addr request net0 net1 out0 out1 r
      → Does disk words (outside disks net0 clock input out0 children) (outside a net1 clock input out1 children) s lost
  does_call addr request net0 net1 clock input out0 out1 children of did =
      rw (at_disks, is, no_loss)
      (does_task disk words (outside disks net0 clock input out0 children) (outside disks net1 clock input out1 children) r [] (Call addr request) of (did, refl, refl))

  pub does_random_drill : (seed events : ℕ) (net : NetSeen) (clock : Option (List ℕ)) (input out0 out1 : StreamSeen) (children : SpawnerSeen)
      → IsTaskOf words (Drill seed events) → drill.RandomDrillEnds seed events out0 out1 r
      → Does disk words (outside disks net clock input out0 children) (outside a net clock input out1 children) s lost
  does_random_drill seed events net clock input out0 out1 children of did =
      rw (at_disks, is, no_loss)
      (does_task disk words (outside disks net clock input out0 children) (outside disks net clock input out1 children) r [] (Drill seed events) of (did, refl, refl))

  pub does_drill : (scenario : Scenario) (rounds : ℕ) (net : NetSeen) (clock : Option (List ℕ)) (input out0 out1 : StreamSeen) (children : SpawnerSeen)
      → IsTaskOf words (DrillLinks scenario rounds) → drill.DrillEnds scenario rounds out0 out1 r
      → Does disk words (outside disks net clock input out0 children) (outside a net clock input out1 children) s lost
  does_drill scenario rounds net clock input out0 out1 children of did =
      rw (at_disks, is, no_loss)
      (does_task disk words (outside disks net clock input out0 children) (outside disks net clock input out1 children) r [] (DrillLinks scenario rounds) of (did, refl, refl))

  pub does_cluster : (net : NetSeen) (clock : Option (List ℕ)) (in0 in1 out0 out1 : StreamSeen) (children0 children1 : SpawnerSeen)
      → IsTaskOf words Cluster → cluster.RunsCluster in0 in1 out0 out1 children0 children1 r
      → Does disk words (outside disks net clock in0 out0 children0) (outside a net clock in1 out1 children1) s lost
  does_cluster net clock in0 in1 out0 out1 children0 children1 of did =
      rw (at_disks, is, no_loss)
      (does_task disk words (outside disks net clock in0 out0 children0) (outside disks net clock in1 out1 children1) r [] Cluster of (did, refl, refl))

  -- there is no memory for them
  pub has_no_memory : (net : NetSeen) (clock : Option (List ℕ)) (input out : StreamSeen) (children : SpawnerSeen) → ((IsTask words → ⊥) → ⊥) → r ≡ status.NoMemory
      → Does disk words (outside disks net clock input out children) (outside a net clock input out children) s lost
  has_no_memory net clock input out children some lacks =
      rw (at_disks, is, no_loss)
      (let same = outside disks net clock input out children in lacks_memory disk words same same r [] some lacks refl refl)

pub does_node : {D : Type 0} (disk : Ghosts D) (words : List (List ℕ)) (id : ℕ) (disks a : NodeDisks D) (s : Status) (lost : List Mark)
    (net0 net1 : NetSeen) (clock0 clock1 : Option (List ℕ)) (in0 in1 out0 out1 : StreamSeen) (children : SpawnerSeen)
    → IsTaskOf words (Node id) → mirrored.Serves disk id in0 in1 (mirrored.environment disks net0 clock0 out0) (mirrored.environment a net1 clock1 out1) s lost
    → Does disk words (outside disks net0 clock0 in0 out0 children) (outside a net1 clock1 in1 out1 children) s lost
does_node disk words id disks a s lost net0 net1 clock0 clock1 in0 in1 out0 out1 children of did =
    does_task disk words (outside disks net0 clock0 in0 out0 children) (outside a net1 clock1 in1 out1 children) s lost (Node id) of (did, refl)
