-- What is asked of a node's folder before its node is opened, and what is told to it.
use Rattle.std.specs.Prelude.{◌≡◌, ◌≢◌, ◌⊎◌, ◌↔◌, [], ℕ, Bool, true, false, List, length, take, Option, Some, None, Result, Ok, Err}
use Rattle.op_outside.specs.Causes.{FaultsRose}
use Rattle.op_outside.specs.Disks.{DiskState, Holds, IsSynced, MayLeave, TornOf}
use Rattle.op_outside.specs.Disks.Edit.{Write}
use Rattle.op_outside.specs.declared.disk.Disk.{Ghosts}
use Rattle.op_outside.specs.declared.disk.DiskFail.{DiskFail}
use Rattle.op_journal.specs.Beginnings.{HasNone}
use Rattle.op_setup.specs.Identities.{IsIdentity, begun_line}
use Rattle.op_setup.specs.Names.{name_bytes}
use Rattle.op_setup.specs.declared.cluster_name.ClusterName.{ClusterName}
use Rattle.op_setup.specs.declared.config.Settings.{Settings}
use Rattle.op_status.specs.declared.status.Status.{Status}
use Rattle.op_status.specs.declared.status.Status.TheVariants as status
use Rattle.op_serve.specs.declared.claim.Claim.{Claim}
use Rattle.op_serve.specs.declared.claim.Claim.TheVariants.{Nobodys, Others, New, Begun}
use Rattle.op_serve.specs.declared.node_disks.NodeDisks.{NodeDisks}

-- so many bytes of a folder's text are read at most
abbrev pub most_text : ℕ
most_text = 128

-- ---- a disk is only read

-- calls of it changed nothing, whatever they answered: it is itself, a crash leaves nothing else than before,
-- and a read gives what it gave, or what a crash might have left
pub record OnlyRead (old new : DiskState) : Type 0 where
  pub model : new.obeys ↔ old.obeys
  pub mark : new.mark ≡ old.mark
  pub left : old.obeys → (c : List ℕ) → MayLeave new c → MayLeave old c
  pub reads : old.obeys → (new.content ≡ old.content) ⊎ MayLeave old new.content

-- the same, no call failed, and a read gives what it gave
pub record ReadsWell (old new : DiskState) : Type 0 where
  pub only : OnlyRead old new
  pub same : old.obeys → new.content ≡ old.content
  pub no_fault : new.faults ≡ old.faults

-- the same, and a call failed
pub record ReadsIll (old new : DiskState) : Type 0 where
  pub only : OnlyRead old new
  pub rose : FaultsRose old.faults new.faults

-- ---- whose the folder is

-- these are the first bytes of its text
pub record HasText (text : List ℕ) (old new : DiskState) : Type 0 where
  pub read : ReadsWell old new
  pub is : old.obeys → text ≡ take most_text old.content

-- What a text says to the node of this id, of the cluster of this name: it says nobody's; another's; or the
-- node's own, where it has begun or, where nothing stands behind the line at this place, has not.
abbrev pub SaysTo : ℕ → List ℕ → List ℕ → Claim → Type 0
SaysTo id name text Nobodys = (i : ℕ) (n after : List ℕ) → IsIdentity text i n after → ⊥
SaysTo id name text (Others i n) =
    ((after : List ℕ) × IsIdentity text i (name_bytes n) after) × (i ≡ id → name_bytes n ≡ name → ⊥)
SaysTo id name text (New at) = IsIdentity text id name [] × (at ≡ length text)
SaysTo id name text Begun = (after : List ℕ) × IsIdentity text id name after × (after ≢ [])

-- the folder's text says this to a node, or a call of its disk failed
abbrev pub Claims : ℕ → List ℕ → (old new : DiskState) → Result Claim DiskFail → Type 0
Claims id name old new (Ok c) = (text : List ℕ) × HasText text old new × SaysTo id name text c
Claims id name old new (Err e) = ReadsIll old new

-- ---- whether the areas store nothing

-- there is no area among these bytes, or there is
abbrev pub SaysEmpty : Bool → List ℕ → Type 0
SaysEmpty true bytes = HasNone bytes
SaysEmpty false bytes = HasNone bytes → ⊥

-- a disk says whether it has no area, or a call of it failed
abbrev pub Looks : (old new : DiskState) → Result Bool DiskFail → Type 0
Looks old new (Ok b) = ReadsWell old new × (old.obeys → SaysEmpty b old.content)
Looks old new (Err e) = ReadsIll old new

-- over disks of a type of which its trait tells this
module _ {D : Type 0} (disk : Ghosts D) where
  -- of a node's disks each is only read
  pub record AreOnlyRead (old new : NodeDisks D) : Type 0 where
    pub first : OnlyRead (disk.state old.first) (disk.state new.first)
    pub second : OnlyRead (disk.state old.second) (disk.state new.second)
    pub first_copy : OnlyRead (disk.state old.first_copy) (disk.state new.first_copy)
    pub second_copy : OnlyRead (disk.state old.second_copy) (disk.state new.second_copy)
    pub identity : OnlyRead (disk.state old.identity) (disk.state new.identity)

  -- whether one area stores nothing, by its first copy or, of a mirrored node, by the second one where the
  -- first one failed
  pub data AreaLooks (is_mirrored : Bool) (first copy : D) : D → D → Result Bool DiskFail → Type 0 where
    asks_first : {r : Result Bool DiskFail} (x : D) → Looks (disk.state first) (disk.state x) r
        → ((e : DiskFail) → r ≡ Err e → is_mirrored ≡ false) → AreaLooks is_mirrored first copy x copy r
    asks_copy : {r : Result Bool DiskFail} (x y : D) → is_mirrored ≡ true
        → ReadsIll (disk.state first) (disk.state x) → Looks (disk.state copy) (disk.state y) r
        → AreaLooks is_mirrored first copy x y r

  -- whether both store nothing: the second one is asked where the first one does
  pub data AreasLook (is_mirrored : Bool) (old : NodeDisks D)
      : NodeDisks D → Result Bool DiskFail → Type 0 where
    asks_one : {r : Result Bool DiskFail} (x y : D) → (r ≡ Ok true → ⊥)
        → AreaLooks is_mirrored old.first old.first_copy x y r
        → AreasLook is_mirrored old (record old { first = x; first_copy = y }) r
    asks_both : {r : Result Bool DiskFail} (x y u v : D)
        → AreaLooks is_mirrored old.first old.first_copy x y (Ok true)
        → AreaLooks is_mirrored old.second old.second_copy u v r
        → AreasLook is_mirrored old
        (record old { first = x; first_copy = y; second = u; second_copy = v }) r

  -- what a look at the areas of a node that has begun tells: they store something, and nothing is to be told
  -- to the folder; or the status by which it ends
  abbrev pub HasAreas : Bool → (old new : NodeDisks D) → Result (Option ℕ) Status → Type 0
  HasAreas is_mirrored old new (Ok (Some at)) = ⊥
  HasAreas is_mirrored old new (Ok None) = AreasLook is_mirrored old new (Ok false)
  HasAreas is_mirrored old new (Err status.NoIdentity) = AreasLook is_mirrored old new (Ok true)
  HasAreas is_mirrored old new (Err status.DiskFault) =
      (e : DiskFail) × AreasLook is_mirrored old new (Err e)
  HasAreas is_mirrored old new (Err _) = ⊥

  -- ---- whether a node may begin

  -- what its folder's text says to a node of these settings, which name a cluster, and what that leaves
  pub record AsksFolder (id : ℕ) (o : Settings) (old new : NodeDisks D) (r : Result Claim DiskFail)
      : Type 0 where
    pub name : List ℕ
    pub named : o.cluster ≡ Some name
    pub claims : Claims id name (disk.state old.identity) (disk.state new.identity) r
    pub only : new ≡ record old { identity = new.identity }

  -- Whether the node may begin, and where its folder is to be told that it has, if it isn't yet; or the
  -- status by which it ends. Without a name of the cluster nothing is asked. With one the folder has to be
  -- its own; and where it says that the node has begun the areas have to store something.
  pub data MayBegin (id : ℕ) (o : Settings) (old new : NodeDisks D) : Result (Option ℕ) Status → Type 0 where
    has_no_name : o.cluster ≡ None → new ≡ old → MayBegin id o old new (Ok None)
    is_to_begin : (at : ℕ) → AsksFolder id o old new (Ok (New at))
        → MayBegin id o old new (Ok (Some at))
    has_begun : {r : Result (Option ℕ) Status} (mid : NodeDisks D) → AsksFolder id o old mid (Ok Begun)
        → HasAreas o.is_mirrored mid new r → MayBegin id o old new r
    is_nobodys : AsksFolder id o old new (Ok Nobodys) → MayBegin id o old new (Err status.NoIdentity)
    is_others : (i : ℕ) (n : ClusterName) → AsksFolder id o old new (Ok (Others i n))
        → MayBegin id o old new (Err (status.OtherIdentity i n))
    is_unreadable : (e : DiskFail) → AsksFolder id o old new (Err e)
        → MayBegin id o old new (Err status.DiskFault)

-- ---- the folder is told that the node has begun

-- What came of that: it was not to be told, since no node was opened; it was told, if that was asked for; or
-- a call of its disk failed.
pub data Marking : Type 0 where
  not_opened : Marking
  is_marked : Marking
  is_unmarked : Marking

-- the line stands at this place, and a crash leaves it
pub record IsMarkedBegun (at : ℕ) (old new : DiskState) : Type 0 where
  pub model : new.obeys ↔ old.obeys
  pub mark : new.mark ≡ old.mark
  pub no_fault : new.faults ≡ old.faults
  pub written : old.obeys → Holds old.content at begun_line new.content
  pub synced : IsSynced new

-- a call failed, and a crash leaves what it might have left before, or that torn by the line's write
pub record FailsToMark (at : ℕ) (old new : DiskState) : Type 0 where
  pub model : new.obeys ↔ old.obeys
  pub mark : new.mark ≡ old.mark
  pub rose : FaultsRose old.faults new.faults
  pub left : old.obeys → (c : List ℕ) → MayLeave new c → TornOf (Write at begun_line) (MayLeave old) c

-- what its answer says
abbrev pub marking_of : Result (Unit {0}) DiskFail → Marking
marking_of (Ok x) = is_marked
marking_of (Err e) = is_unmarked

-- what comes of it where the folder is to be told at this place, or not at all
abbrev pub IsMarking : {G : Type 0} → (G → DiskState) → Option ℕ → (old new : G) → Marking → Type 0
IsMarking state begins old new not_opened = new ≡ old
IsMarking state None old new is_marked = new ≡ old
IsMarking state None old new is_unmarked = ⊥
IsMarking state (Some at) old new is_marked = IsMarkedBegun at (state old) (state new)
IsMarking state (Some at) old new is_unmarked = FailsToMark at (state old) (state new)
