-- Which states of a node are in range: what it stores, and what it keeps in memory.
use Rattle.std.specs.Prelude.{◌≤◌, ◌<◌, ◌+◌, ℕ, [], ◌∷◌, length, All, IfSome}
use Rattle.op_types.specs.Limits.{greatest_number, positions_end}
use Rattle.op_types.specs.Changes.{EndsNowhere}
use Rattle.op_types.specs.Ranges.{IsMember, IsPlace, ReadInRange}
use Rattle.op_types.specs.Joinings.{Held}
use Rattle.op_types.specs.RoleStates.{Preparing, Leading}
use Rattle.op_types.specs.Roles as role
use Rattle.op_types.specs.Roles.{Role}
use Rattle.op_types.specs.declared.log.Entry.{Entry}
use Rattle.op_types.specs.declared.durable.Part.{Part}
use Rattle.op_types.specs.declared.durable.Closed.{Closed}
use Rattle.op_types.specs.declared.durable.Joining.{Joining}
use Rattle.op_types.specs.declared.durable.Durable.{Durable}
use Rattle.op_types.specs.declared.messages.Heard.{Heard}
use Rattle.op_types.specs.declared.role.Promised.{Promised}
use Rattle.op_types.specs.declared.role.Buffered.{Buffered}
use Rattle.op_types.specs.declared.role.Acknowledged.{Acknowledged}
use Rattle.op_types.specs.declared.role.Report.{Report}
use Rattle.op_record.specs.Ranges.{DurableInRange}
use Rattle.op_reads.specs.Reads.{Reads, WaitingRead}
use Rattle.op_spec.specs.ServiceRanges.{ServiceInRange, ServiceIsOrdered}
use Rattle.op_protocol.specs.State.{Volatile, State}
use Rattle.op_bounds.specs.Messages.{BallotOf, NamesKnown, EntryOf}

-- ---- what is stored

-- a part that names known ids: its members, its ballots' owners and those of a stop-sign
pub record PartOf (Known : ℕ → Type 0) (p : Part) : Type 0 where
  pub members : All Known p.members
  pub promised : BallotOf Known p.promised
  pub accepted : BallotOf Known p.accepted
  pub entries : All (NamesKnown Known) p.tail.items

-- a closed list that does
pub record ClosedOf (Known : ℕ → Type 0) (l : Closed) : Type 0 where
  pub olds : All Known l.olds
  pub next : All Known l.next
  pub entries : All (NamesKnown Known) l.tail

-- what is held while joining, where that does
pub record JoiningOf (Known : ℕ → Type 0) (j : Joining) : Type 0 where
  pub members : All Known j.members
  pub olds : All Known j.olds
  pub donors : All (λ d. Known d.0) j.donors
  pub held : All (λ x. NamesKnown Known x.1) j.held.items

-- a durable state in range, which names known ids alone
pub record DurableOf (Known : ℕ → Type 0) (d : Durable) : Type 0 where
  pub range : DurableInRange d
  pub part : IfSome d.part (PartOf Known)
  pub closed : IfSome d.closed (ClosedOf Known)
  pub joining : IfSome d.joining (JoiningOf Known)

-- the node is a member of its part's configuration, and of the one that it joins
pub record IsNamed (me : ℕ) (d : Durable) : Type 0 where
  pub part : IfSome d.part (λ p. IsMember p.members me)
  pub joining : IfSome d.joining (λ j. IsMember j.members me)

-- ---- what is kept in memory

-- a promise that is kept: the log that it brings ends within the positions
pub record PromisedInRange (Known : ℕ → Type 0) (k : Promised) : Type 0 where
  pub from : Known k.from
  pub accepted : BallotOf Known k.accepted
  pub len : IsPlace k.len
  pub decided : IsPlace k.decided
  pub ends : k.start + length k.entries ≤ positions_end
  pub entries : All (EntryOf Known) k.entries

-- an entry that is staged, below the end of positions
pub record StagedInRange (Known : ℕ → Type 0) (x : ℕ × Entry) : Type 0 where
  pub at : x.0 < positions_end
  pub entry : EntryOf Known x.1

-- what came so far of a sender's promise
pub record StageInRange (Known : ℕ → Type 0) (s : ℕ × Held) : Type 0 where
  pub from : Known s.0
  pub staged : All (StagedInRange Known) s.1

-- a proposal that waits
abbrev pub BufferedInRange : (ℕ → Type 0) → Buffered → Type 0
BufferedInRange Known b = EntryOf Known b.entry

-- the length that a follower has acknowledged
pub record AcknowledgedInRange (Known : ℕ → Type 0) (a : Acknowledged) : Type 0 where
  pub from : Known a.from
  pub len : IsPlace a.len

-- what a follower has reported
pub record ReportInRange (Known : ℕ → Type 0) (r : Report) : Type 0 where
  pub from : Known r.from
  pub decided : IsPlace r.decided

-- what a node keeps that prepares
pub record PreparingInRange (Known : ℕ → Type 0) (r : Preparing) : Type 0 where
  pub ballot : BallotOf Known r.ballot
  pub promises : All (PromisedInRange Known) r.promises
  pub stages : All (StageInRange Known) r.stages
  pub buffer : All (BufferedInRange Known) r.buffer

-- what a leader keeps
pub record LeadingInRange (Known : ℕ → Type 0) (l : Leading) : Type 0 where
  pub ballot : BallotOf Known l.ballot
  pub adopted_round : BallotOf Known l.adopted_round
  pub adopted_len : IsPlace l.adopted_len
  pub synced : All Known l.synced
  pub acknowledged : All (AcknowledgedInRange Known) l.acknowledged
  pub reports : All (ReportInRange Known) l.reports

-- what a node does in its part, in range
abbrev pub RoleInRange : (ℕ → Type 0) → Role → Type 0
RoleInRange Known role.Idle = Unit {0}
RoleInRange Known (role.Preparing r) = PreparingInRange Known r
RoleInRange Known (role.Leading l) = LeadingInRange Known l

-- what is staged in the last configuration has no stop-sign
abbrev pub StagedEndsNowhere : ℕ → Held → Type 0
StagedEndsNowhere conf held = All (λ x. EndsNowhere conf (x.1 ∷ [])) held

-- nor has what a node keeps that prepares
pub record PreparingEndsNowhere (conf : ℕ) (r : Preparing) : Type 0 where
  pub promises : All (λ k. EndsNowhere conf k.entries) r.promises
  pub stages : All (λ s. StagedEndsNowhere conf s.1) r.stages
  pub buffer : All (λ b. EndsNowhere conf (b.entry ∷ [])) r.buffer

-- nor has any role
abbrev pub RoleEndsNowhere : ℕ → Role → Type 0
RoleEndsNowhere conf role.Idle = Unit {0}
RoleEndsNowhere conf (role.Preparing r) = PreparingEndsNowhere conf r
RoleEndsNowhere conf (role.Leading l) = Unit {0}

-- a heartbeat reply that is kept
abbrev pub HeardInRange : (ℕ → Type 0) → Heard → Type 0
HeardInRange Known h = BallotOf Known h.ballot

-- what a node keeps in memory
pub record VolatileInRange (Known : ℕ → Type 0) (v : Volatile) : Type 0 where
  pub own : BallotOf Known v.own
  pub leader : BallotOf Known v.leader
  pub floor : BallotOf Known v.floor
  pub round : v.round ≤ greatest_number
  pub heard : All (HeardInRange Known) v.heard
  pub role : RoleInRange Known v.role
  pub staged : All (StagedInRange Known) v.staged
  pub pieces : IfSome v.pieces (λ s. IsPlace s.at)

-- no stop-sign of the last configuration is kept in memory
pub record VolatileEndsNowhere (conf : ℕ) (v : Volatile) : Type 0 where
  pub role : RoleEndsNowhere conf v.role
  pub staged : StagedEndsNowhere conf v.staged

-- ---- reads

-- a read that waits
abbrev pub WaitingReadInRange : WaitingRead → Type 0
WaitingReadInRange w = ReadInRange w.asked.read

-- the reads of a ballot: the next one's number may be the end of positions, and no more
pub record ReadsInRange (reads : Reads) : Type 0 where
  pub count : reads.count < positions_end
  pub waiting : All WaitingReadInRange reads.waiting

-- ---- both

-- a node's state; its service is in order, so that it has a base
pub record StateInRange (Known : ℕ → Type 0) (s : State) : Type 0 where
  pub durable : DurableOf Known s.durable
  pub volatile : VolatileInRange Known s.volatile
  pub stops : IfSome s.durable.part (λ p. VolatileEndsNowhere p.conf s.volatile)
  pub service : ServiceInRange s.service
  pub order : ServiceIsOrdered s.service
  pub reads : IfSome s.reads ReadsInRange

-- an observer's state: it knows no ballot, and keeps pieces of a base
pub record ObserverStateInRange (Known : ℕ → Type 0) (s : State) : Type 0 where
  pub durable : DurableOf Known s.durable
  pub pieces : IfSome s.volatile.pieces (λ p. IsPlace p.at)
  pub service : ServiceInRange s.service
  pub order : ServiceIsOrdered s.service
