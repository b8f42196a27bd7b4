-- How a node ends whose disks may be mirrored, and what it leaves of them.
use Rattle.std.specs.Prelude.{◌≡◌, ◌⊎◌, ◌↔◌, ◌<◌, ◌+◌, [], ℕ, Bool, true, false, List, Option, Some, Ok, Err}
use Rattle.op_outside.specs.Causes.{FaultsRose, RisesWith}
use Rattle.op_outside.specs.declared.disk.Disk.{Ghosts}
use Rattle.op_outside.specs.Seen.{NetSeen, StreamSeen}
use Rattle.op_outside.specs.Streams.{TakesAtMost}
use Rattle.op_store.specs.Stored.{Disks, Obey}
use Rattle.op_mirror.specs.Crashes.{LeavesAllMixes}
use Rattle.op_mirror.specs.Mirrors.{known_mirror}
use Rattle.op_mirror.specs.Opens.{Opens, RefusedFor}
use Rattle.op_mirror.specs.declared.mirror.Mirror.{Mirror}
use Rattle.op_mirror.specs.declared.opening.OpenCause.{OpenCause}
use Rattle.op_mirror.specs.declared.opening.OpenCause.TheVariants as cause
use Rattle.op_node.specs.Openings.{disks_with}
use Rattle.op_setup.specs.declared.config.Settings.{Settings}
use Rattle.op_serving.specs.declared.mark.Mark.{Mark}
use Rattle.op_input.specs.Inputs.{IsConfigured, IsMisconfigured, input_limit}
use Rattle.op_status.specs.declared.status.Status.{Status}
use Rattle.op_status.specs.declared.status.Status.TheVariants as status
use Rattle.op_serve.specs.Folders.{MayBegin, IsMarking, is_unmarked}
use Rattle.op_serve.specs.Nodes.{Around, around, Ends, faults_of, marking_in}
use Rattle.op_serve.specs.declared.node_disks.NodeDisks.{NodeDisks}

-- all around a node: its disks, what its net, its clock and its output tell, and the counts of faults of
-- net and output
pub record Environment (D : Type 0) : Type 0 where
  pub disks : NodeDisks D
  pub net : NetSeen
  pub clock : Option (List ℕ)
  pub output : StreamSeen

abbrev pub environment : {D : Type 0} → NodeDisks D → NetSeen → Option (List ℕ) → StreamSeen → Environment D
environment disks net clock output = record { disks = disks; net = net; clock = clock; output = output }

-- the same with these two in the place of the disks: of the areas, or mirrors of them
abbrev pub over : {D T : Type 0} → Environment D → T → T → Around T
over e first second = around first second e.net e.clock e.output

-- the status that tells why a mirror was not opened
abbrev pub status_of_cause : OpenCause → Status
status_of_cause cause.DiskFail = status.DiskFault
status_of_cause cause.NoMemory = status.NoMemory

-- of the two copies of an area: each is itself, by its mark, and both obey the model where both did
pub record KeepCopies (old new : Disks) : Type 0 where
  pub mark : (new.first.mark ≡ old.first.mark) × (new.second.mark ≡ old.second.mark)
  pub model : Obey new ↔ Obey old

-- over disks of a type of which its trait tells this
module _ {D : Type 0} (disk : Ghosts D) where
  -- how a node without mirrors ends, of which the folder is to be told at this place that it has begun: the
  -- second copies are not called
  pub record EndsAlone (begins : Option ℕ) (id : ℕ) (o : Settings) (old new : Environment D) (s : Status)
      (lost : List Mark) : Type 0 where
    pub ends : Ends disk.state id o (over old old.disks.first old.disks.second)
        (over new new.disks.first new.disks.second) s lost
    pub marked : IsMarking disk.state begins old.disks.identity new.disks.identity
        (marking_in disk.state ends)
    pub same_first : new.disks.first_copy ≡ old.disks.first_copy
    pub same_second : new.disks.second_copy ≡ old.disks.second_copy

  -- a call of this disk failed: its count rose, or stands at its last value
  abbrev pub Failed : D → D → Type 0
  Failed old new = FaultsRose (disk.state old).faults (disk.state new).faults

  -- both copies of one of the areas failed
  abbrev pub AreaFailed : NodeDisks D → NodeDisks D → Type 0
  AreaFailed old new = (Failed old.first new.first × Failed old.first_copy new.first_copy)
      ⊎ (Failed old.second new.second × Failed old.second_copy new.second_copy)

  -- both copies of a mirror have failed since it was made
  abbrev pub HaveFailed : Mirror D disk → Type 0
  HaveFailed m =
      FaultsRose m.first_mark (disk.state m.first).faults
      × FaultsRose m.second_mark (disk.state m.second).faults

  -- The disks are the copies of these mirrors. While no copy of one is out, what mixes what a crash leaves of
  -- its copies is what a crash may leave of it.
  pub record AreCopies (a b : Mirror D disk) (disks : NodeDisks D) : Type 0 where
    pub are : disks
        ≡ record disks { first = a.first; second = b.first; first_copy = a.second; second_copy = b.second }
    pub first_mixes : LeavesAllMixes disk.state a
    pub second_mixes : LeavesAllMixes disk.state b

  -- each of the four disks is itself
  pub record AreKept (old new : NodeDisks D) : Type 0 where
    pub first : KeepCopies (disks_with disk.state old.first old.first_copy)
        (disks_with disk.state new.first new.first_copy)
    pub second : KeepCopies (disks_with disk.state old.second old.second_copy)
        (disks_with disk.state new.second new.second_copy)

  -- How a node over mirrors ends, and what it leaves: a's mirror was refused, and nothing else was called;
  -- b's was, and a's copies are as its opening left them; or both were opened, the node ends as any over two
  -- disks, and they are taken apart. Their counts rise only where both copies of an area failed.
  pub data EndsOverMirrors (begins : Option ℕ) (id : ℕ) (o : Settings) (old new : Environment D) :
      Status → List Mark → Type 0 where
    first_refused : (c : OpenCause) (x y : D)
        → RefusedFor disk.state old.disks.first old.disks.first_copy x y c
        → new ≡ record old { disks = record old.disks { first = x; first_copy = y } }
        → EndsOverMirrors begins id o old new (status_of_cause c) []
    second_refused : (c : OpenCause) (a : Mirror D disk) (x y : D)
        → Opens disk.state old.disks.first old.disks.first_copy a
        → RefusedFor disk.state old.disks.second old.disks.second_copy x y c
        → new ≡ record old
        { disks = record old.disks { first = a.first; second = x; first_copy = a.second; second_copy = y } }
        → EndsOverMirrors begins id o old new (status_of_cause c) []
    are_open : {s : Status} {lost : List Mark} (a b c d : Mirror D disk)
        → Opens disk.state old.disks.first old.disks.first_copy a
        → Opens disk.state old.disks.second old.disks.second_copy b
        → (ends : Ends (known_mirror disk.state) id o (over old a b) (over new c d) s lost)
        → AreCopies c d new.disks
        → IsMarking disk.state begins old.disks.identity new.disks.identity
        (marking_in (known_mirror disk.state) ends)
        → (0 < faults_of (known_mirror disk.state) (over new c d) → AreaFailed old.disks new.disks)
        → EndsOverMirrors begins id o old new s lost

  -- the same, each of the four disks is itself at the end, and a disk fault is told only where both copies of
  -- an area failed, or the folder couldn't be told that the node has begun
  pub record EndsMirrored (begins : Option ℕ) (id : ℕ) (o : Settings) (old new : Environment D) (s : Status)
      (lost : List Mark) : Type 0 where
    pub ends : EndsOverMirrors begins id o old new s lost
    pub kept : AreKept old.disks new.disks
    pub fault : s ≡ status.DiskFault → AreaFailed old.disks new.disks
        ⊎ IsMarking disk.state begins old.disks.identity new.disks.identity is_unmarked

  -- with mirrors, or without
  abbrev pub EndsWith : Bool → Option ℕ → ℕ → Settings → Environment D → Environment D → Status → List Mark →
      Type 0
  EndsWith false begins id o old new s lost = EndsAlone begins id o old new s lost
  EndsWith true begins id o old new s lost = EndsMirrored begins id o old new s lost

  -- How the command ends, where this was left of the input before and after it: there are no settings of the
  -- node, and nothing else was done, where the input failed only with a read fault, and not more was read
  -- than tells that it is too long; or there are settings, and the node may not begin, by what its folder
  -- says; or it may, and ends as above.
  pub data Serves (id : ℕ) (in0 in1 : StreamSeen) (old new : Environment D) :
      Status → List Mark → Type 0 where
    is_misconfigured : {s : Status} → IsMisconfigured in0.0 (Some id) in0.1 in1.1 s
        → RisesWith (s ≡ status.ReadFault) in0.1 in1.1
        → TakesAtMost (input_limit + 1) in0.0 in1.0
        → new ≡ old → Serves id in0 in1 old new s []
    is_not_admitted : {s : Status} {text : List ℕ} (o : Settings)
        → IsConfigured in0.0 in1.0 (Some id) text o → in1.1 ≡ in0.1
        → MayBegin disk id o old.disks new.disks (Err s) → new ≡ record old { disks = new.disks }
        → Serves id in0 in1 old new s []
    is_configured : {s : Status} {lost : List Mark} {text : List ℕ} (o : Settings) (begins : Option ℕ)
        (seen : NodeDisks D) → IsConfigured in0.0 in1.0 (Some id) text o → in1.1 ≡ in0.1
        → MayBegin disk id o old.disks seen (Ok begins)
        → EndsWith o.is_mirrored begins id o (record old { disks = seen }) new s lost
        → Serves id in0 in1 old new s lost
