-- What an opening finds and leaves.
use Rattle.std.specs.Prelude.{◌≡◌, ◌⊎◌, ◌==◌, ◌<◌, ◌≤◌, ◌+◌, ℕ, Bool, true, false, not, List, [], ◌∷◌, length, drop, Result, Ok, Err, OnOk, IfOk, IfErr}
use Rattle.op_outside.specs.Disks.{disk_end, DiskState, IsAtRest, LeavesOnly, Counts, CountsUpTo}
use Rattle.op_record.specs.Ranges.{DurableInRange}
use Rattle.op_record.specs.Forms.{body}
use Rattle.op_record.specs.declared.body.Rec.TheVariants.{Whole}
use Rattle.op_journal.specs.Areas.{open_gate, head_of, IsGeneration, IsArea}
use Rattle.op_journal.specs.declared.head.Head.{Head}
use Rattle.op_journal.specs.declared.head.Version.{Version}
use Rattle.op_journal.specs.declared.head.Version.TheVariants.{One, Two}
use Rattle.op_types.specs.declared.durable.Durable.{Durable}
use Rattle.op_journal.specs.Calls.{synced_calls, reading_calls, most_reading_calls, format_calls, trim_calls}
use Rattle.op_journal.specs.Appends.{Trims}
use Rattle.op_journal.specs.Beginnings.{IsOldOrNone, IsFormattable, first_generation, new_area}
use Rattle.op_store.specs.Stored.{last_generation, StandsAs, Settles, IsBelow, IsChosen, IsStuck, IsStored, StoreNothing, Disks, disks_with, chosen, rival_end, chosen_disk, other_disk, Obey, HaveImages, LeavesPairs, KeepBoth}
use Rattle.op_store.specs.Readings.{IsRead, IsDamageOf, IsNewerOf}
use Rattle.op_store.specs.Failing.{faults, IsFaultOf, IsDamageOrStopped, IsNewerOrStopped}
use Rattle.op_store.specs.Stores.{disks_of, IsOpen, IsBelowOrNext, Represents, IsReady}
use Rattle.op_store.specs.declared.area.OpenArea.{OpenArea}
use Rattle.op_store.specs.declared.reading.Reading.{Reading}
use Rattle.op_store.specs.declared.reading.Reading.TheVariants as reading
use Rattle.op_store.specs.declared.store.Store.{Store}
use Rattle.op_store.specs.declared.fail.StoreFail.{StoreFail}
use Rattle.op_store.specs.declared.fail.StoreFail.TheVariants.{DiskFault, Damaged, NewerVersion, NoMemory}
use Rattle.op_store.specs.declared.fail.Returned.{Returned}

-- an opening found this durable state on the disks or, where they store nothing, began with the fresh one
abbrev pub IsOpenedAs : Durable → List ℕ → List ℕ → Durable → Bool → Type 0
IsOpenedAs fresh first second d false = IsStored d first second
IsOpenedAs fresh first second d true = StoreNothing first second × (d ≡ fresh)

-- what the disks stored stays; where they stored nothing, they store nothing or the fresh durable state
abbrev pub Remains : Durable → List ℕ → List ℕ → List ℕ → List ℕ → Type 0
Remains fresh first second x y =
    ((d : Durable) × IsStored d first second × IsStored d x y)
    ⊎ (StoreNothing first second × (StoreNothing x y ⊎ IsStored fresh x y))

-- A crash after an opening, or at any moment of it, leaves what it might have left before,
-- or what remains of what the disks store.
abbrev pub Keeps : Durable → Disks → Disks → Type 0
Keeps fresh old new = LeavesPairs (Remains fresh old.first.content old.second.content) old new

-- ---- how many calls it makes of the disks

-- an area is begun on a disk that holds these bytes: its gate is closed first, unless more bytes stand
-- after a closed one
abbrev pub beginning_calls : List ℕ → ℕ
beginning_calls [] = format_calls false
beginning_calls (a ∷ []) = format_calls false
beginning_calls (a ∷ b ∷ rest) = format_calls (not (a == open_gate))

-- both disks are read, and then so many calls are made of the chosen area's, and so many of the other
pub record CountsOn (is_second : Bool) (more others : ℕ) (old new : Disks) : Type 0 where
  pub chosen : Counts (reading_calls (chosen_disk is_second old).content + more)
      (chosen_disk is_second old).calls (chosen_disk is_second new).calls
  pub other : Counts (reading_calls (other_disk is_second old).content + others)
      (other_disk is_second old).calls (other_disk is_second new).calls

-- the chosen area is this one, of this version, with its closed gate at this place
pub record FindsArea (is_second : Bool) (version : Version) (end : ℕ) (disks : Disks) : Type 0 where
  pub generation : ℕ
  pub chosen : IsChosen is_second (head_of version generation) disks.first.content disks.second.content
  pub bodies : List (List ℕ)
  pub area : IsArea (head_of version generation) bodies end (chosen_disk is_second disks).content

-- the chosen area is gone on with: what lies after its closed gate is cut
pub record CountsFound (is_second : Bool) (end : ℕ) (old new : Disks) : Type 0 where
  pub finds : FindsArea is_second Two end old
  pub calls : CountsOn is_second (trim_calls (drop (end + 1) (chosen_disk is_second old).content)) 0 old new

-- one of the first version is carried over: the same is cut, and an area is begun on the other disk
pub record CountsCarried (is_second : Bool) (old new : Disks) : Type 0 where
  pub end : ℕ
  pub finds : FindsArea is_second One end old
  pub calls : CountsOn is_second (trim_calls (drop (end + 1) (chosen_disk is_second old).content))
      (beginning_calls (other_disk is_second old).content) old new

-- of an opening that answers Ok: the first area is begun, or one is gone on with or carried over
abbrev pub CountsOpened : Bool → Bool → ℕ → Disks → Disks → Type 0
CountsOpened true is_second end old new =
    CountsOn is_second (beginning_calls (chosen_disk is_second old).content) 0 old new
CountsOpened false is_second end old new =
    CountsFound is_second end old new ⊎ CountsCarried (not is_second) old new

-- no call, or so many at most
abbrev pub CountsAtMost : ℕ → ℕ → ℕ → Type 0
CountsAtMost n before now = (now ≡ before) ⊎ CountsUpTo n before now

-- a reading of both disks
abbrev pub CountsReadings : Disks → Disks → Type 0
CountsReadings old new = Counts (reading_calls old.first.content) old.first.calls new.first.calls
    × Counts (reading_calls old.second.content) old.second.calls new.second.calls

-- a reading of both that stops: no more, and none of the second disk where it stops at the first one
abbrev pub CountsStopped : Disks → Disks → Type 0
CountsStopped old new = CountsUpTo most_reading_calls old.first.calls new.first.calls
    × CountsAtMost most_reading_calls old.second.calls new.second.calls

-- the most of a disk: it is read, and an area is begun
abbrev pub most_opening_calls : ℕ
most_opening_calls = most_reading_calls + format_calls false

-- those of an opening that is refused: after damage and at a newer version both disks were read, without
-- memory they were at most, and after a fault they were written to besides, at most
abbrev pub CountsRefused : StoreFail → Disks → Disks → Type 0
CountsRefused (DiskFault n) old new = CountsUpTo most_opening_calls old.first.calls new.first.calls
    × CountsAtMost most_opening_calls old.second.calls new.second.calls
CountsRefused (Damaged area at) old new = CountsReadings old new
CountsRefused (NewerVersion area version) old new = CountsReadings old new
CountsRefused NoMemory old new = CountsStopped old new

-- those of an opening, by its answer
abbrev pub CountsOpening : Disks → Disks → Result OpenArea StoreFail → Type 0
CountsOpening old new (Ok a) = CountsOpened a.is_new a.is_second a.end old new
CountsOpening old new (Err e) = CountsRefused e old new

-- those of a reading of both
abbrev pub CountsReading : {T : Type 0} → Disks → Disks → Result T StoreFail → Type 0
CountsReading old new (Ok x) = CountsReadings old new
CountsReading old new (Err e) = CountsStopped old new

-- those of the beginning of an area, none without memory
abbrev pub CountsBeginning : {T : Type 0} → Bool → ℕ → ℕ → Result T StoreFail → Type 0
CountsBeginning closed before now (Ok x) = Counts (format_calls closed) before now
CountsBeginning closed before now (Err (DiskFault n)) = CountsUpTo (format_calls closed) before now
CountsBeginning closed before now (Err (Damaged area at)) = ⊥
CountsBeginning closed before now (Err (NewerVersion area version)) = ⊥
CountsBeginning closed before now (Err NoMemory) = now ≡ before

-- those after a reading where an area is carried over, with its closed gate at this place, of a disk that
-- holds so many bytes: what lies after it is cut, and the other is begun
abbrev pub CountsCarrying : {T : Type 0} → Bool → Bool → ℕ → ℕ → Disks → Disks → Result T StoreFail → Type 0
CountsCarrying is_second closed end len old new (Ok x) =
    (end + 1 < len → Counts synced_calls (chosen_disk is_second old).calls (chosen_disk is_second new).calls)
    × (len ≤ end + 1 → (chosen_disk is_second new).calls ≡ (chosen_disk is_second old).calls)
    × Counts (format_calls closed) (other_disk is_second old).calls (other_disk is_second new).calls
CountsCarrying is_second closed end len old new (Err (DiskFault n)) =
    CountsAtMost synced_calls (chosen_disk is_second old).calls (chosen_disk is_second new).calls
    × CountsAtMost (format_calls closed) (other_disk is_second old).calls (other_disk is_second new).calls
CountsCarrying is_second closed end len old new (Err (Damaged area at)) = ⊥
CountsCarrying is_second closed end len old new (Err (NewerVersion area version)) = ⊥
CountsCarrying is_second closed end len old new (Err NoMemory) =
    ((chosen_disk is_second new).calls ≡ (chosen_disk is_second old).calls)
    × ((other_disk is_second new).calls ≡ (other_disk is_second old).calls)

-- ---- both disks are read

-- the chosen one of two lengths
abbrev pub len_in : Reading → ℕ → ℕ → ℕ
len_in (reading.Area is_second head durable end base is_closed) first second =
    chosen is_second first second
len_in (reading.New is_closed is_other_closed) first second = first

-- an area that was found is on a disk with so many bytes
abbrev pub HasLen : Reading → ℕ → Disks → Type 0
HasLen (reading.Area is_second head durable end base is_closed) len disks =
    length (chosen_disk is_second disks).content ≡ len
HasLen (reading.New is_closed is_other_closed) len disks = Unit {0}

-- What a reading of both disks found, with the length of the chosen area's disk.
-- Nothing has changed, and nothing is pending.
pub record FindsAreas (old new : Disks) (r : Reading) (len : ℕ) : Type 0 where
  pub found : IsRead old.first.content old.second.content r
  pub rests_first : IsAtRest new.first
  pub rests_second : IsAtRest new.second
  pub same_first : new.first.content ≡ old.first.content
  pub same_second : new.second.content ≡ old.second.content
  pub size : HasLen r len new
  pub calls : CountsReadings old new

-- What an opening goes on with that found this area. One of the version of now is that itself; one of the
-- first version is carried over: the other disk's area has its durable state, and the next generation.
abbrev pub GoesOnWith : Version → Bool → ℕ → Durable → Bool → ℕ → Disks → Type 0
GoesOnWith Two is_second generation d next_is_second next disks =
    (next_is_second ≡ is_second) × (next ≡ generation)
GoesOnWith One is_second generation d next_is_second next disks =
    (next_is_second ≡ not is_second) × (next ≡ generation + 1)
    × ((other_disk is_second disks).content ≡ new_area (generation + 1) (body.text (Whole d)))

-- an area that is open: what it stands for was found or begun
pub record IsOpenArea (fresh : Durable) (old new : Disks) (a : OpenArea) : Type 0 where
  pub found : IsOpenedAs fresh old.first.content old.second.content a.durable a.is_new
  pub is_open : IsOpen a.durable a.is_second a.generation a.end a.base a.is_closed new
  pub begun : a.is_new ≡ true → new.first.content ≡ new_area first_generation (body.text (Whole fresh))
  pub goes_on : (is_second : Bool) (head : Head) →
      IsChosen is_second head old.first.content old.second.content →
      GoesOnWith head.version is_second head.generation a.durable a.is_second a.generation new

-- a refusal for damage tells where it is, one for a newer version which and where, and nothing was changed
abbrev pub IsRefusal : Disks → Disks → StoreFail → Type 0
IsRefusal old new (DiskFault n) = Unit {0}
IsRefusal old new (Damaged area at) = IsDamageOf old.first.content old.second.content area at
    × (new.first.content ≡ old.first.content) × (new.second.content ≡ old.second.content)
IsRefusal old new (NewerVersion area version) = IsNewerOf old.first.content old.second.content area version
    × (new.first.content ≡ old.first.content) × (new.second.content ≡ old.second.content)
IsRefusal old new NoMemory = Unit {0}

-- a reading that found nothing: damage is told, and nothing has changed, or it stopped before
pub record FindsNone (old new : Disks) (e : StoreFail) : Type 0 where
  pub refusal : IsRefusal old new e
  pub complete : (area at : ℕ) → IsDamageOf old.first.content old.second.content area at →
      IsDamageOrStopped area at e
  pub newer : (area version : ℕ) → IsNewerOf old.first.content old.second.content area version →
      IsNewerOrStopped area version e
  pub images : HaveImages new
  pub calls : CountsRefused e old new

-- what an area that was found can go on with, whatever disks it was read from
abbrev pub IsFitFor : ℕ → ℕ → ℕ → Durable → Type 0
IsFitFor generation end base d =
    (end < disk_end) × IsGeneration generation × (base ≤ disk_end) × DurableInRange d

-- what was read is that, where it is an area
abbrev pub IsFit : Reading → Type 0
IsFit (reading.Area is_second head durable end base is_closed) =
    IsFitFor head.generation end base durable × (IsStuck head → ⊥)
IsFit (reading.New is_closed is_other_closed) = Unit {0}

-- an area that is open is that
abbrev pub IsFitArea : OpenArea → Type 0
IsFitArea a = IsFitFor a.generation a.end a.base a.durable

-- ---- an area is begun

-- the first area, just begun of this durable state, whose closed gate is at this place
abbrev pub begun_area : Durable → Bool → ℕ → OpenArea
begun_area fresh is_closed end =
    record {
      is_second = false;
      generation = first_generation;
      end = end;
      base = end + 1;
      is_closed = is_closed;
      durable = fresh;
      is_new = true;
    }

-- What the beginning of an area of this durable state does to its disk. A crash at any moment leaves the
-- bytes from before, no area, or the whole new one.
pub record BeginsArea (fresh : Durable) (old new : DiskState)
    (result : Result OpenArea StoreFail) : Type 0 where
  pub settled : IfOk result (λ a. Settles fresh first_generation a.end a.base new)
  pub written : OnOk result (new.content ≡ new_area first_generation (body.text (Whole fresh)))
  pub crash : LeavesOnly (λ image. IsOldOrNone old.content image
      ⊎ StandsAs first_generation fresh image) old new

-- ---- an area is carried over

-- the other disk's area, just begun of the durable state of this one, whose closed gate is at this place
abbrev pub carried_area : OpenArea → ℕ → OpenArea
carried_area a end =
    record a {
      is_second = not a.is_second;
      generation = a.generation + 1;
      end = end;
      base = end + 1;
      is_closed = false;
    }

-- an area that can be carried over: it can go on, and a generation is left for the other one
abbrev pub HasNext : OpenArea → Type 0
HasNext a = IsFitArea a × (a.generation < last_generation)

-- this is the other disk's area, just begun so, and a record can be added there
abbrev pub IsCarried : OpenArea → OpenArea → Type 0
IsCarried a made = (made ≡ carried_area a made.end) × (made.end < disk_end)

-- What is done to the other disk where this area, of the first version, is carried over. A crash at any
-- moment leaves what is below it, or the whole new area.
pub record CarriesOver (a : OpenArea) (old new : DiskState)
    (result : Result OpenArea StoreFail) : Type 0 where
  pub settled : IfOk result (λ m. Settles a.durable (a.generation + 1) m.end m.base new)
  pub written : OnOk result (new.content ≡ new_area (a.generation + 1) (body.text (Whole a.durable)))
  pub crash : LeavesOnly (IsBelowOrNext a.is_second a.generation a.durable) old new

-- What is done to both disks then: of the area's own, which holds so many bytes, what lies after its closed
-- gate is cut, and on the other one, which has no area or an earlier one, its durable state is begun.
pub record Carries (a : OpenArea) (len : ℕ) (old new : Disks)
    (result : Result OpenArea StoreFail) : Type 0 where
  pub cuts : (head : Head) (bodies : List (List ℕ)) →
      IsArea head bodies a.end (chosen_disk a.is_second old).content →
      IsAtRest (chosen_disk a.is_second old) → length (chosen_disk a.is_second old).content ≡ len →
      Trims head bodies a.end (chosen_disk a.is_second old) (chosen_disk a.is_second new) result
  pub begins : IsBelow (rival_end a.is_second a.generation) (other_disk a.is_second old).content →
      IsFormattable (other_disk a.is_second old).content a.is_closed → IsAtRest (other_disk a.is_second old) →
      CarriesOver a (other_disk a.is_second old) (other_disk a.is_second new) result

-- ---- an opening

-- What an opening does to disks that obey the model: it opens an area, or tells damage at its place and has
-- then changed nothing. Damage is told wherever there is some, unless a disk failed or there was no memory.
pub record OpensAreas (fresh : Durable) (old new : Disks) (result : Result OpenArea StoreFail) : Type 0 where
  pub opened : IfOk result (IsOpenArea fresh old new)
  pub undamaged : OnOk result ((area at : ℕ) → IsDamageOf old.first.content old.second.content area at → ⊥)
  pub not_newer : OnOk result ((area version : ℕ) →
      IsNewerOf old.first.content old.second.content area version → ⊥)
  pub refusal : IfErr result (IsRefusal old new)
  pub complete : IfErr result (λ e. (area at : ℕ) → IsDamageOf old.first.content old.second.content area at →
      IsDamageOrStopped area at e)
  pub newer : IfErr result (λ e. (area version : ℕ) →
      IsNewerOf old.first.content old.second.content area version → IsNewerOrStopped area version e)
  pub crash : Keeps fresh old new
  pub images : HaveImages new
  pub calls : CountsOpening old new result

-- An opening that answers Ok: the store is ready, and no disk has failed.
-- Where the disks obey the model the store represents the durable state that they stored or,
-- where they stored nothing, the fresh one, and the first disk is then an area of the first generation alone.
pub record Opened {D : Type 0} (state : D → DiskState) (fresh : Durable) (old : Disks) (s : Store D)
    (d : Durable) (is_new : Bool) : Type 0 where
  pub ready : IsReady s
  pub no_fault : faults (disks_of state s) ≡ faults old
  pub kept : KeepBoth old (disks_of state s)
  pub found : Obey old → IsOpenedAs fresh old.first.content old.second.content d is_new
  pub stored : Obey old → Represents state d s
  pub begun : Obey old → is_new ≡ true →
      (state s.first).content ≡ new_area first_generation (body.text (Whole fresh))
  pub calls : Obey old → CountsOpened is_new s.is_second s.end old (disks_of state s)
  pub goes_on : Obey old → (is_second : Bool) (head : Head) →
      IsChosen is_second head old.first.content old.second.content →
      GoesOnWith head.version is_second head.generation d s.is_second s.generation (disks_of state s)
  pub undamaged : Obey old → (area at : ℕ) → IsDamageOf old.first.content old.second.content area at → ⊥
  pub not_newer : Obey old → (area version : ℕ) →
      IsNewerOf old.first.content old.second.content area version → ⊥
  pub crash : Obey old → Keeps fresh old (disks_of state s)

-- the disks that a refused opening hands back
abbrev pub handed_back : {D : Type 0} → (D → DiskState) → Returned D → Disks
handed_back state e = disks_with state e.first e.second

-- this store's disks, with the cause why it was not opened
abbrev pub refused_by : {D : Type 0} → Store D → StoreFail → Returned D
refused_by s cause = record { cause = cause; first = s.first; second = s.second }

-- An opening that is refused: a fault is told where the count of a disk rose, and nowhere else.
-- Damage is told wherever there is some, unless a disk failed or there was no memory.
-- What a read of the disks gives then is one of their images.
pub record Refused {D : Type 0} (state : D → DiskState) (fresh : Durable) (old : Disks)
    (e : Returned D) : Type 0 where
  pub later : faults old ≤ faults (handed_back state e)
  pub cause : IsFaultOf (faults old) (faults (handed_back state e)) e.cause
  pub kept : KeepBoth old (handed_back state e)
  pub refusal : Obey old → IsRefusal old (handed_back state e) e.cause
  pub complete : Obey old → (area at : ℕ) → IsDamageOf old.first.content old.second.content area at →
      IsDamageOrStopped area at e.cause
  pub newer : Obey old → (area version : ℕ) → IsNewerOf old.first.content old.second.content area version →
      IsNewerOrStopped area version e.cause
  pub calls : Obey old → CountsRefused e.cause old (handed_back state e)
  pub images : Obey old → HaveImages (handed_back state e)
  pub crash : Obey old → Keeps fresh old (handed_back state e)
