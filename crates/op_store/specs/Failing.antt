-- Why a store was not opened, and what holds then.
use Rattle.std.specs.Prelude.{◌≡◌, ◌≤◌, ◌+◌, min, ℕ, List, Result, Ok, Err}
use Rattle.op_outside.specs.Causes.{last_count, FaultsRose, FailsOnlyOnFault}
use Rattle.op_journal.specs.Areas.{HasNewerVersion}
use Rattle.op_store.specs.Stored.{Disks}
use Rattle.op_store.specs.Readings.{IsDamageOf, IsNewerOf}
use Rattle.op_journal.specs.declared.fail.JournalFail.{JournalFail}
use Rattle.op_journal.specs.declared.fail.JournalFail.TheVariants as journal
use Rattle.op_store.specs.declared.fail.StoreFail.{StoreFail}
use Rattle.op_store.specs.declared.fail.StoreFail.TheVariants.{DiskFault, Damaged, NewerVersion, NoMemory}

-- how often two disks have failed, up to the last value of a u64
abbrev pub total : ℕ → ℕ → ℕ
total first second = min (first + second) last_count

-- how often the two disks have failed
abbrev pub faults : Disks → ℕ
faults disks = total disks.first.faults disks.second.faults

-- why this area was not opened is why the store was not, with the faults of both disks
abbrev pub IsCauseOf : JournalFail → ℕ → ℕ → StoreFail → Type 0
IsCauseOf (journal.DiskFault n) area count cause = cause ≡ DiskFault count
IsCauseOf (journal.Damaged at) area count cause = cause ≡ Damaged area at
IsCauseOf journal.NoMemory area count cause = cause ≡ NoMemory

-- this area isn't read: its version is newer, and that is told, or else damage at its header
abbrev pub IsUnreadAt : ℕ → List ℕ → StoreFail → Type 0
IsUnreadAt area bytes (DiskFault n) = ⊥
IsUnreadAt area bytes (Damaged a at) =
    (a ≡ area) × (at ≡ 0) × ((version : ℕ) → HasNewerVersion version bytes → ⊥)
IsUnreadAt area bytes (NewerVersion a version) = (a ≡ area) × HasNewerVersion version bytes
IsUnreadAt area bytes NoMemory = ⊥

-- damage of these bytes is told, or a newer version in them, or that there was no memory
abbrev pub IsToldOrNoMemory : List ℕ → List ℕ → StoreFail → Type 0
IsToldOrNoMemory first second (DiskFault n) = ⊥
IsToldOrNoMemory first second (Damaged area at) = IsDamageOf first second area at
IsToldOrNoMemory first second (NewerVersion area version) = IsNewerOf first second area version
IsToldOrNoMemory first second NoMemory = Unit {0}

-- damage of the area at the place is told, or a disk fault, or that there is no memory
abbrev pub IsDamageOrStopped : ℕ → ℕ → StoreFail → Type 0
IsDamageOrStopped area at (DiskFault n) = Unit {0}
IsDamageOrStopped area at (Damaged a n) = (a ≡ area) × (n ≡ at)
IsDamageOrStopped area at (NewerVersion a version) = ⊥
IsDamageOrStopped area at NoMemory = Unit {0}

-- the newer version of the area is told, or a disk fault, or that there is no memory
abbrev pub IsNewerOrStopped : ℕ → ℕ → StoreFail → Type 0
IsNewerOrStopped area version (DiskFault n) = Unit {0}
IsNewerOrStopped area version (Damaged a n) = ⊥
IsNewerOrStopped area version (NewerVersion a v) = (a ≡ area) × (v ≡ version)
IsNewerOrStopped area version NoMemory = Unit {0}

-- a disk fault is told where the count rose, with that count, and nowhere else
abbrev pub IsFaultOf : ℕ → ℕ → StoreFail → Type 0
IsFaultOf before now (DiskFault n) = (n ≡ now) × FaultsRose before now
IsFaultOf before now (Damaged area at) = now ≡ before
IsFaultOf before now (NewerVersion area version) = now ≡ before
IsFaultOf before now NoMemory = now ≡ before

-- a call of a disk failed, or there was no memory: nothing of the bytes is told
abbrev pub IsFaultOrNoMemory : StoreFail → Type 0
IsFaultOrNoMemory (DiskFault n) = Unit {0}
IsFaultOrNoMemory (Damaged area at) = ⊥
IsFaultOrNoMemory (NewerVersion area version) = ⊥
IsFaultOrNoMemory NoMemory = Unit {0}

-- a call of a disk failed
abbrev pub IsFault : StoreFail → Type 0
IsFault (DiskFault n) = Unit {0}
IsFault (Damaged area at) = ⊥
IsFault (NewerVersion area version) = ⊥
IsFault NoMemory = ⊥

-- where it ends the count stays, and else the cause tells the faults
abbrev pub IsToldBy : {T : Type 0} → ℕ → ℕ → Result T StoreFail → Type 0
IsToldBy before now (Ok x) = now ≡ before
IsToldBy before now (Err e) = IsFaultOf before now e

-- the count of faults of both disks doesn't fall, and an opening in which it rises tells it
abbrev pub TellsOpening : {T : Type 0} → Disks → Disks → Result T StoreFail → Type 0
TellsOpening old new result = (faults old ≤ faults new) × IsToldBy (faults old) (faults new) result

-- calls that fail exactly where a call of one of the disks failed in them
abbrev pub TellsFaultOf : {T E : Type 0} → Disks → Disks → Result T E → Type 0
TellsFaultOf old new result = FailsOnlyOnFault (faults old) (faults new) result
