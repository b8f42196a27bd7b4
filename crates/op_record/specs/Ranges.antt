-- Which bodies of records are in range, and which of them have an encoding.
use Rattle.std.specs.Prelude.{◌≡◌, ◌≤◌, ◌<◌, ◌+◌, ◌-◌, ◌^◌, ℕ, List, [], ◌∷◌, length, All, IfSome}
use Rattle.op_types.specs.Limits.{greatest_pid, positions_end, last_conf, most_donors}
use Rattle.op_types.specs.Changes.{len_of, closed_len, EndsNowhere}
use Rattle.op_types.specs.declared.log.Entry.{Entry}
use Rattle.op_types.specs.declared.durable.Part.{Part}
use Rattle.op_types.specs.declared.durable.Closed.{Closed}
use Rattle.op_types.specs.declared.durable.Joining.{Joining}
use Rattle.op_types.specs.declared.durable.Durable.{Durable}
use Rattle.op_types.specs.declared.changes.Change.{Change}
use Rattle.op_types.specs.declared.changes.Change.TheVariants as variant
use Rattle.op_types.specs.Ranges.{IsPid, IsConf, IsPlace, BallotInRange, MembersInRange, EntryInRange, EntriesInRange}
use Rattle.op_kv.specs.Bases.{IsBase}
use Rattle.op_record.specs.declared.body.Rec.{Rec}
use Rattle.op_record.specs.declared.body.Rec.TheVariants.{Whole, Step}

-- ---- a durable state

-- a part whose fields are in range; the last configuration has no stop-sign, and room isn't stored
pub record PartInRange (p : Part) : Type 0 where
  pub conf : IsConf p.conf
  pub members : MembersInRange p.members
  pub promised : BallotInRange p.promised
  pub accepted : BallotInRange p.accepted
  pub base : IsBase p.base
  pub len : IsPlace (len_of p)
  pub entries : All EntryInRange p.tail.items
  pub ends : EndsNowhere p.conf p.tail.items
  pub decided : (p.trimmed ≤ p.decided) × (p.decided ≤ len_of p)
  pub room : p.tail.room ≡ 0

-- a closed list whose fields are in range; a number is left for the next configuration, and it isn't empty
pub record ClosedInRange (l : Closed) : Type 0 where
  pub conf : (1 ≤ l.conf) × (l.conf < last_conf)
  pub olds : MembersInRange l.olds
  pub next : MembersInRange l.next
  pub base : IsBase l.base
  pub len : (1 ≤ closed_len l) × IsPlace (closed_len l)
  pub entries : All EntryInRange l.tail

-- donors by rising id, each with no more trimmed than there is
abbrev pub DonorsInRange : ℕ → ℕ → List (ℕ × ℕ) → Type 0
DonorsInRange len low [] = Unit {0}
DonorsInRange len low (d ∷ donors) =
    (low < d.0) × (d.0 ≤ greatest_pid) × (d.1 ≤ len) × DonorsInRange len d.0 donors

-- entries by rising position, from one on, below the end
abbrev pub HeldInRange : ℕ → ℕ → List (ℕ × Entry) → Type 0
HeldInRange len low [] = Unit {0}
HeldInRange len low (x ∷ held) =
    (low ≤ x.0) × (x.0 < len) × EntryInRange x.1 × HeldInRange len (x.0 + 1) held

-- a configuration that is joined: there is one before it
abbrev pub IsJoined : ℕ → Type 0
IsJoined conf = (2 ≤ conf) × (conf ≤ last_conf)

-- the length of a closed list
abbrev pub IsClosedLen : ℕ → Type 0
IsClosedLen n = (1 ≤ n) × (n ≤ positions_end)

-- what is held while joining, with its fields in range
pub record JoiningInRange (j : Joining) : Type 0 where
  pub conf : IsJoined j.conf
  pub members : MembersInRange j.members
  pub olds : MembersInRange j.olds
  pub len : IsClosedLen j.len
  pub few : length j.donors ≤ most_donors
  pub donors : DonorsInRange j.len 0 j.donors
  pub base : IfSome j.base (λ b. (b.0 ≤ j.len) × IsBase b.1)
  pub held : HeldInRange j.len 0 j.held.items
  pub room : j.held.room ≡ 0

-- a durable state in range
pub record DurableInRange (d : Durable) : Type 0 where
  pub part : IfSome d.part PartInRange
  pub closed : IfSome d.closed ClosedInRange
  pub joining : IfSome d.joining JoiningInRange

-- ---- a batch

-- a change whose parts are in range
abbrev pub ChangeInRange : Change → Type 0
ChangeInRange (variant.Promise b) = BallotInRange b
ChangeInRange (variant.Accept b) = BallotInRange b
ChangeInRange (variant.CutTo n) = IsPlace n
ChangeInRange (variant.Append es) = EntriesInRange positions_end es
ChangeInRange (variant.Decided x) = IsPlace x
ChangeInRange (variant.Trim x base) = IsPlace x × IsBase base
ChangeInRange (variant.Close named base) = IsBase base
ChangeInRange (variant.JoinBegin conf members olds len) =
    IsJoined conf × MembersInRange members × MembersInRange olds × IsClosedLen len
ChangeInRange (variant.JoinDonor q trimmed) = IsPid q × IsPlace trimmed
ChangeInRange (variant.JoinBase at base) = IsPlace at × IsBase base
ChangeInRange (variant.JoinPart at es) = IsPlace at × EntriesInRange positions_end es
ChangeInRange (variant.JoinDone base) = IsBase base
ChangeInRange (variant.Rebase conf members at base) =
    IsConf conf × MembersInRange members × IsPlace at × IsBase base

-- how many changes a batch has at most: their count is one byte
abbrev pub most_changes : ℕ
most_changes = 255

-- a batch whose changes are few enough and in range
pub record BatchInRange (batch : List Change) : Type 0 where
  pub few : length batch ≤ most_changes
  pub each : All ChangeInRange batch

-- a record in range
abbrev pub RecInRange : Rec → Type 0
RecInRange (Whole d) = DurableInRange d
RecInRange (Step batch) = BatchInRange batch

-- ---- what has an encoding

-- the greatest length that eight bytes can name
abbrev pub greatest_length : ℕ
greatest_length = 2 ^ 64 - 1

-- eight bytes can name how long the bytes are
abbrev pub IsShort : List ℕ → Type 0
IsShort bytes = length bytes ≤ greatest_length

-- a base, and short enough
abbrev pub BaseFits : List ℕ → Type 0
BaseFits base = IsBase base × IsShort base

-- the same of a part's base
abbrev pub PartFits : Part → Type 0
PartFits p = PartInRange p × IsShort p.base

-- the same of a closed list's
abbrev pub ClosedFits : Closed → Type 0
ClosedFits l = ClosedInRange l × IsShort l.base

-- the same of the base that is held while joining
abbrev pub JoiningFits : Joining → Type 0
JoiningFits j = JoiningInRange j × IfSome j.base (λ b. IsShort b.1)

-- a durable state in range whose bases are short enough
pub record DurableFits (d : Durable) : Type 0 where
  pub part : IfSome d.part PartFits
  pub closed : IfSome d.closed ClosedFits
  pub joining : IfSome d.joining JoiningFits

-- eight bytes can name how long a change's base is, if it has one
abbrev pub ChangeIsShort : Change → Type 0
ChangeIsShort (variant.Trim x base) = IsShort base
ChangeIsShort (variant.Close named base) = IsShort base
ChangeIsShort (variant.JoinBase at base) = IsShort base
ChangeIsShort (variant.JoinDone base) = IsShort base
ChangeIsShort (variant.Rebase conf members at base) = IsShort base
ChangeIsShort _ = Unit {0}

-- a change in range, and short enough
abbrev pub ChangeFits : Change → Type 0
ChangeFits c = ChangeInRange c × ChangeIsShort c

-- a batch whose changes are few enough, in range and short enough
pub record BatchFits (batch : List Change) : Type 0 where
  pub few : length batch ≤ most_changes
  pub each : All ChangeFits batch

-- a record that has an encoding
abbrev pub RecFits : Rec → Type 0
RecFits (Whole d) = DurableFits d
RecFits (Step batch) = BatchFits batch
