-- How a node that serves ends, and what it leaves on its disks, its net and its output.
use Rattle.std.specs.Prelude.{◌≡◌, ◌≢◌, ◌⊎◌, ◌≤◌, ◌++◌, ◌∷◌, [], ℕ, Bool, List, codes, decimal, Option, Some, None, Result, Ok, Err, Contains}
use Rattle.std.specs.Io.KnownBytes.{Appends}
use Rattle.op_types.specs.Ranges.{IsPid, MembersInRange}
use Rattle.op_types.specs.declared.durable.Durable.{Durable}
use Rattle.op_outside.specs.Causes.{FaultsRose}
use Rattle.op_outside.specs.Disks.{DiskState, IsAtRest}
use Rattle.op_outside.specs.Nets.{Call, Listened}
use Rattle.op_outside.specs.Seen.{NetSeen, StreamSeen}
use Rattle.op_outside.specs.Streams.{AppendsPrefix}
use Rattle.op_outside.specs.Telling.{Grows}
use Rattle.op_outside.specs.declared.net.Addr.{Addr}
use Rattle.op_setup.specs.declared.config.Settings.{Settings}
use Rattle.op_setup.specs.Settings.{IsAmong}
use Rattle.op_store.specs.Failing.{faults}
use Rattle.op_store.specs.Openings.{IsOpenedAs, Keeps}
use Rattle.op_store.specs.Readings.{IsDamageOf, IsNewerOf}
use Rattle.op_store.specs.Stored.{Disks, Obey, IsStored, HaveImages, KeepBoth}
use Rattle.op_store.specs.declared.fail.StoreFail.{StoreFail}
use Rattle.op_store.specs.declared.fail.StoreFail.TheVariants as refusals
use Rattle.op_node.specs.Nodes.{NodeState}
use Rattle.op_runs.specs.Possible.{kind_in}
use Rattle.op_runs.specs.World.{Kind}
use Rattle.op_node.specs.Openings.{disks_with, fresh_as, opening_state, TakesWhole}
use Rattle.op_node.specs.Reopenings.{StoreOneOf}
use Rattle.op_core.specs.NodeCores.{status_line}
use Rattle.op_pump.specs.Counts.{IsLimited}
use Rattle.op_pump.specs.Moments.{PeersInRange}
use Rattle.op_pump.specs.Serving as loop
use Rattle.op_serving.specs.declared.serve_end.ServeEnd.{ServeEnd}
use Rattle.op_serving.specs.declared.serve_end.ServeEnd.TheVariants as ends
use Rattle.op_serving.specs.declared.mark.Mark.{Mark}
use Rattle.op_serving.specs.Cores.{Standing}
use Rattle.op_serving.specs.Inputs.{Deed}
use Rattle.op_serving.specs.Reopenings.{Unstored, all_stored, FindStored, unstored_behind}
use Rattle.op_serve.specs.Folders.{Marking, not_opened, is_marked, is_unmarked}
use Rattle.op_serve.specs.Lives.{Lives, opened_at}
use Rattle.op_status.specs.declared.status.Status.{Status}
use Rattle.op_status.specs.declared.status.Status.TheVariants as status

-- the settings of the node of this id
pub record IsNodeOf (id : ℕ) (o : Settings) : Type 0 where
  pub server : IsPid id
  pub members : MembersInRange o.members
  pub peers : PeersInRange o
  pub limits : IsLimited o
  pub own : IsAmong o.peers (Some id)

-- ---- a node is heard

-- it was to listen at its own address, which was answered so
pub record AsksToListen (id : ℕ) (o : Settings) (net0 net1 : Option (List Call))
    (answer : Option (Unit {0})) : Type 0 where
  pub addr : Addr
  pub own : Contains o.peers (id, addr)
  pub net : Grows net0 (Listened addr answer ∷ []) net1

-- the line that tells that a node listens
abbrev pub ready_line : ℕ → List ℕ
ready_line id = codes "ready " ++ decimal id ++ codes "\n"

-- it listens, and its line is told; nothing failed
pub record IsReady (id : ℕ) (o : Settings) (net0 net1 : NetSeen) (out0 out1 : StreamSeen) : Type 0 where
  pub listens : AsksToListen id o net0.0 net1.0 (Some tt)
  pub no_net_fault : net1.1 ≡ net0.1
  pub told : Appends out0.0 out1.0 (ready_line id)
  pub no_write_fault : out1.1 ≡ out0.1

-- it is ready; or it could not listen; or its line could not be told
abbrev pub IsHeard : {T : Type 0} → ℕ → Settings → Result T Status →
    NetSeen → NetSeen → StreamSeen → StreamSeen → Type 0
IsHeard id o (Ok x) net0 net1 out0 out1 = IsReady id o net0 net1 out0 out1
IsHeard id o (Err status.NetFault) net0 net1 out0 out1 =
    AsksToListen id o net0.0 net1.0 None × FaultsRose net0.1 net1.1 × (out1 ≡ out0)
IsHeard id o (Err status.WriteFault) net0 net1 out0 out1 =
    AsksToListen id o net0.0 net1.0 (Some tt) × (net1.1 ≡ net0.1) ×
    AppendsPrefix out0.0 out1.0 (ready_line id) × FaultsRose out0.1 out1.1
IsHeard id o (Err _) net0 net1 out0 out1 = ⊥

-- the status by which serving ended
abbrev pub status_of : ServeEnd → Status
status_of ends.Ended = status.Ended
status_of ends.TurnsOver = status.TurnsOver
status_of ends.NetFault = status.NetFault
status_of ends.Starved = status.NoMemory

-- the status that tells why a node was not opened
abbrev pub status_of_refusal : StoreFail → Status
status_of_refusal (refusals.DiskFault count) = status.DiskFault
status_of_refusal (refusals.Damaged area at) = status.Damaged area at
status_of_refusal (refusals.NewerVersion area version) = status.NewerVersion area version
status_of_refusal refusals.NoMemory = status.NoMemory

-- this is told, or that a disk failed, or that there was no memory
abbrev pub TellsOrStops : Status → Status → Type 0
TellsOrStops told s = (s ≡ told) ⊎ (s ≡ status.DiskFault) ⊎ (s ≡ status.NoMemory)

-- ---- all around a node

-- its disks, what its net, its clock and its output tell, and the counts of faults of net and output
pub record Around (D : Type 0) : Type 0 where
  pub first : D
  pub second : D
  pub net : NetSeen
  pub clock : Option (List ℕ)
  pub output : StreamSeen

abbrev pub around : {D : Type 0} → D → D → NetSeen → Option (List ℕ) → StreamSeen → Around D
around first second net clock output =
    record { first = first; second = second; net = net; clock = clock; output = output }

module _ {D : Type 0} (state : D → DiskState) where
  -- what is known of the disks
  abbrev pub disks_in : Around D → Disks
  disks_in a = disks_with state a.first a.second

  -- how often they have failed in all
  abbrev pub faults_of : Around D → ℕ
  faults_of a = faults (disks_in a)

  -- both obey the model of a disk
  abbrev pub ObeyIn : Around D → Type 0
  ObeyIn a = Obey (disks_in a)

  -- they store this durable state, and a crash leaves nothing else
  pub record DisksHold (a : Around D) (d : Durable) : Type 0 where
    pub rests_first : IsAtRest (state a.first)
    pub rests_second : IsAtRest (state a.second)
    pub stored : IsStored d (state a.first).content (state a.second).content

  -- They hold what a node has stored. Of one that has failed they store what it had stored before the inputs
  -- that were to be stored together then, or what is behind all of these, and so does what a crash leaves.
  pub record HoldsOf (a : Around D) (n : Standing) (unstored : Unstored) : Type 0 where
    pub up : n.failed ≡ None → DisksHold a n.state.durable
    pub failed : n.failed ≢ None →
        StoreOneOf unstored.before.durable unstored.ahead.durable (disks_in a)

  -- A node's disks over these deeds of it: each opening of it again found what it had stored before the
  -- inputs for which they had failed, or what is behind all of these, and at the end they hold what is
  -- stored.
  pub record HoldsOver (deeds : List Deed) (n : NodeState) (m : Standing) (old new : Around D)
      : Type 0 where
    pub found : FindStored (opened_at n (faults_of old)) (all_stored n.state) deeds
    pub holds : HoldsOf new m (unstored_behind (opened_at n (faults_of old)) (all_stored n.state) deeds)

  -- What an opening leaves, however it ends: nothing but the disks was called, each of them is itself, and
  -- the count of faults didn't fall. A crash leaves what it might have left before, or what they stored;
  -- and a read gives what a crash may leave, if it did so before.
  pub record KeepsStored (kind : Kind) (id : ℕ) (members : List ℕ) (old new : Around D) : Type 0 where
    pub only_disks : new ≡ record old { first = new.first; second = new.second }
    pub kept : KeepBoth (disks_in old) (disks_in new)
    pub later : faults_of old ≤ faults_of new
    pub crash : ObeyIn old → Keeps (fresh_as kind id members) (disks_in old) (disks_in new)
    pub images : ObeyIn old → HaveImages (disks_in old) → HaveImages (disks_in new)

  -- an area is damaged at this place, and a read of each disk gives what it gave before
  pub record IsDamaged (old new : Around D) (area at : ℕ) : Type 0 where
    pub damage : IsDamageOf (state old.first).content (state old.second).content area at
    pub same_first : (state new.first).content ≡ (state old.first).content
    pub same_second : (state new.second).content ≡ (state old.second).content

  -- an area has this version, above those that are read, and a read of each disk gives what it gave before
  pub record IsNewer (old new : Around D) (area version : ℕ) : Type 0 where
    pub newer : IsNewerOf (state old.first).content (state old.second).content area version
    pub same_first : (state new.first).content ≡ (state old.first).content
    pub same_second : (state new.second).content ≡ (state old.second).content

  -- A node was opened: it takes what the disks store, or begins with its first state, which they hold then,
  -- and no disk failed.
  pub record IsOpened (kind : Kind) (id : ℕ) (members : List ℕ) (old new : Around D) (n : NodeState)
      : Type 0 where
    pub durable : Durable
    pub is_new : Bool
    pub found : ObeyIn old →
        IsOpenedAs (fresh_as kind id members) (state old.first).content (state old.second).content durable
        is_new
    pub holds : ObeyIn old → DisksHold new durable
    pub node : n
        ≡ record { kind = kind; me = id; state = opening_state kind id is_new durable; failed = None }
    pub no_fault : faults_of new ≡ faults_of old
    pub keeps : KeepsStored kind id members old new

  -- the disks obey the model, and what they store is of this node
  abbrev pub IsOwn : Kind → ℕ → Around D → Durable → Type 0
  IsOwn kind id old durable = ObeyIn old × TakesWhole kind id durable

  -- How an open node ends: it could not listen, or could not tell that it does;
  -- there was no memory to begin; or it has served, and each disk is itself at the end.
  -- If the disks stood for what it had stored, so they do over all deeds of that run, and what it did is a
  -- life as the theorem of a cluster has it, which leaves the disks so that the next one can begin.
  pub data Goes (id : ℕ) (o : Settings) (n : NodeState) (stood : Type 0)
      (old new : Around D) : Status → List Mark → Type 0 where
    is_unheard : {s : Status} → IsHeard {T = Unit {0}} id o (Err s) old.net new.net old.output new.output
        → new ≡ record old { net = new.net; output = new.output }
        → (stood → Lives n (faults_of old) [] (disks_in new)) → Goes id o n stood old new s []
    cannot_begin : (t : ℕ) → IsReady id o old.net new.net old.output new.output
        → Grows old.clock (t ∷ []) new.clock
        → new ≡ record old { net = new.net; output = new.output; clock = new.clock }
        → (stood → Lives n (faults_of old) [] (disks_in new))
        → Goes id o n stood old new status.NoMemory []
    has_served : {m : Standing} {end : ServeEnd} {lost : List Mark} (net : NetSeen)
        → IsReady id o old.net net old.output new.output → m.faults ≡ faults_of new
        → (run : loop.Serves o status_line end lost (opened_at n (faults_of old)) m net new.net
        old.clock new.clock)
        → KeepBoth (disks_in old) (disks_in new)
        → (stood → HoldsOver run.last.driver.deeds n m old new)
        → (stood → Lives n (faults_of old) run.last.driver.deeds (disks_in new))
        → Goes id o n stood old new (status_of end) lost

  -- How a node ends, and what it leaves. Each end has its cause,
  -- and nothing is asked of the outside after it.
  pub data Ends (id : ℕ) (o : Settings) (old new : Around D) : Status → List Mark → Type 0 where
    cannot_open : KeepsStored (kind_in o.observers id) id o.members old new
        → FaultsRose (faults_of old) (faults_of new)
        → Ends id o old new status.DiskFault []
    is_damaged : {area at : ℕ} → KeepsStored (kind_in o.observers id) id o.members old new
        → faults_of new ≡ faults_of old
        → (ObeyIn old → IsDamaged old new area at)
        → Ends id o old new (status.Damaged area at) []
    is_newer : {area version : ℕ} → KeepsStored (kind_in o.observers id) id o.members old new
        → faults_of new ≡ faults_of old
        → (ObeyIn old → IsNewer old new area version)
        → Ends id o old new (status.NewerVersion area version) []
    has_no_memory : KeepsStored (kind_in o.observers id) id o.members old new → faults_of new ≡ faults_of old
        → Ends id o old new status.NoMemory []
    is_opened : {n : NodeState} {s : Status} {lost : List Mark} (mid : Around D)
        (opened : IsOpened (kind_in o.observers id) id o.members old mid n)
        → Goes id o n (IsOwn (kind_in o.observers id) id old opened.durable) mid new s lost
        → Ends id o old new s lost
    is_not_marked : {n : NodeState} (opened : IsOpened (kind_in o.observers id) id o.members old new n)
        → (IsOwn (kind_in o.observers id) id old opened.durable → Lives n (faults_of new) [] (disks_in new))
        → Ends id o old new status.DiskFault []

  -- what came of telling its folder that it has begun: that failed in an end before it would listen
  abbrev pub marking_in : {id : ℕ} {o : Settings} {old new : Around D} {s : Status} {lost : List Mark} →
      Ends id o old new s lost → Marking
  marking_in (cannot_open keeps rose) = not_opened
  marking_in (is_damaged keeps same damage) = not_opened
  marking_in (is_newer keeps same newer) = not_opened
  marking_in (has_no_memory keeps same) = not_opened
  marking_in (is_opened mid opened goes) = is_marked
  marking_in (is_not_marked opened lives) = is_unmarked

  -- the same, and this came of telling its folder
  pub record EndsMarked (came : Marking → Type 0) (id : ℕ) (o : Settings) (old new : Around D) (s : Status)
      (lost : List Mark) : Type 0 where
    pub ends : Ends id o old new s lost
    pub marked : came (marking_in ends)
