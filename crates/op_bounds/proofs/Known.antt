-- Two ways to say which ids are known: those of a world's nodes, and those of all servers.
use Rattle.std.proofs.Common.{ℕ, List, [], ◌∷◌, Option, Some, None, arith, All}
use Rattle.std.specs.Prelude.{IfSome}
use Rattle.std.proofs.lemmas.List.Elements.{All-nil, All-cons, All-weaker}
use Rattle.op_types.specs.Ranges.{IsPid, IsMember, AreRising, MembersInRange, BallotInRange, EntryInRange, EntriesInRange}
use Rattle.op_types.specs.Limits.{positions_end}
use Rattle.op_types.specs.declared.ballot.Ballot.{Ballot}
use Rattle.op_types.specs.declared.log.Entry.{Entry}
use Rattle.op_types.specs.declared.log.Entry.TheVariants as entry
use Rattle.op_types.specs.declared.durable.Part.{Part}
use Rattle.op_types.specs.declared.durable.Closed.{Closed}
use Rattle.op_types.specs.declared.durable.Joining.{Joining}
use Rattle.op_types.specs.declared.durable.Durable.{Durable}
use Rattle.op_record.specs.Ranges.{PartInRange, ClosedInRange, DonorsInRange, JoiningInRange, DurableInRange}
use Rattle.op_runs.specs.declared.events.What.{What}
use Rattle.op_runs.specs.declared.events.What.TheVariants as what
use Rattle.op_runs.specs.Possible.{WhatInRange, SparesInRange}
use Rattle.op_runs.specs.World.{Happening, node_ids}
use Rattle.op_bounds.specs.Messages.{AreIds, BallotOf, MembersOf, NamesKnown, EntryOf, EntriesOf}
use Rattle.op_bounds.specs.States.{PartOf, ClosedOf, JoiningOf, DurableOf}
use Rattle.op_bounds.specs.Laws.{WhatNamesKnown, HappeningInRange, StartInRange, RunsOfNodesStayInRange, AllRunsStayInRange}
use Rattle.op_runs.proofs.Servers.{all_at, all_named}
use Rattle.op_bounds.proofs.Placed.{held_each}
use Rattle.op_bounds.proofs.Starts.{all_ids}
use Rattle.op_bounds.proofs.Runs.{runs_stay}

-- ---- all servers

pub servers : AreIds IsPid
servers q h = h

pub rising_ids : (low : ℕ) (ids : List ℕ) → AreRising low ids → All IsPid ids
rising_ids low [] r = All-nil IsPid
rising_ids low (q ∷ qs) r = All-cons IsPid q qs (omega (arith, r.0), r.1) (rising_ids q qs r.2)

pub ballot_any : (b : Ballot) → BallotInRange b → BallotOf IsPid b
ballot_any b r = record { range = r; owner = λ some. (some, r.pid) }

pub members_any : (ids : List ℕ) → MembersInRange ids → MembersOf IsPid ids
members_any ids r = record { range = r; known = rising_ids 0 ids r.rising }

names_any : (e : Entry) → EntryInRange e → NamesKnown IsPid e
names_any (entry.Command c) r = tt
names_any (entry.Stop s) r = rising_ids 0 s.members r.members.rising

pub entry_any : (e : Entry) → EntryInRange e → EntryOf IsPid e
entry_any e r = (r, names_any e r)

pub entries_any : (es : List Entry) → EntriesInRange positions_end es → EntriesOf IsPid es
entries_any es r = record { few = r.few; each = All-weaker EntryInRange (EntryOf IsPid) entry_any es r.each }

part_any : (o : Option Part) → IfSome o PartInRange → IfSome o (PartOf IsPid)
part_any None r = tt
part_any (Some p) r =
    record {
      members = rising_ids 0 p.members r.members.rising;
      promised = ballot_any p.promised r.promised;
      accepted = ballot_any p.accepted r.accepted;
      entries = All-weaker EntryInRange (NamesKnown IsPid) names_any p.tail.items r.entries;
    }

closed_any : (o : Option Closed) → IfSome o ClosedInRange → IfSome o (ClosedOf IsPid)
closed_any None r = tt
closed_any (Some l) r =
    record { olds = rising_ids 0 l.olds r.olds.rising; next = rising_ids 0 l.next r.next.rising; entries = All-weaker EntryInRange (NamesKnown IsPid) names_any l.tail r.entries }

donors_any : (len low : ℕ) (ds : List (ℕ × ℕ)) → DonorsInRange len low ds → All (λ d. IsPid d.0) ds
donors_any len low [] r = All-nil (λ d. IsPid d.0)
donors_any len low (d ∷ ds) r = All-cons (λ d. IsPid d.0) d ds (omega (arith, r.0), r.1) (donors_any len d.0 ds r.3)

joining_any : (o : Option Joining) → IfSome o JoiningInRange → IfSome o (JoiningOf IsPid)
joining_any None r = tt
joining_any (Some j) r =
    record {
      members = rising_ids 0 j.members r.members.rising;
      olds = rising_ids 0 j.olds r.olds.rising;
      donors = donors_any j.len 0 j.donors r.donors;
      held = λ i d within. names_any _ (held_each j.len 0 j.held.items r.held i d within);
    }

-- what is stored in range names servers
pub durable_any : (d : Durable) → DurableInRange d → DurableOf IsPid d
durable_any d r = record { range = r; part = part_any d.part r.part; closed = closed_any d.closed r.closed; joining = joining_any d.joining r.joining }

what_any : (w : What) → WhatInRange w → WhatNamesKnown IsPid w
what_any (what.Stop p members) r = rising_ids 0 members r.1.rising
what_any (what.Tick p) r = tt
what_any (what.Commands p cs) r = tt
what_any (what.Trim p) r = tt
what_any (what.Read p a) r = tt
what_any (what.Deliver i) r = tt
what_any (what.Up p q) r = tt
what_any (what.Down p q) r = tt
what_any (what.Crash p) r = tt
what_any (what.CrashAt p call image) r = tt
what_any (what.Fail p call) r = tt
what_any (what.Kill p disk) r = tt
what_any (what.Start p) r = r
what_any (what.Show p) r = tt
what_any (what.Ballots p) r = tt

pub happening_any : (h : Happening) → WhatInRange h.event.what → HappeningInRange IsPid h
happening_any h r = (r, what_any h.event.what r)

pub start_any : (members spares : List ℕ) → MembersInRange members → SparesInRange members spares → StartInRange IsPid members spares
start_any members spares m s = record { members_are = members_any members m; spares_are = rising_ids 0 spares s.rising }

-- ---- nodes of a world

module _ (members spares : List ℕ) (m : MembersInRange members) (s : SparesInRange members spares) where
  pub nodes_are_ids : AreIds (IsMember (node_ids members spares))
  nodes_are_ids q one = all_at IsPid (node_ids members spares) q (all_ids IsPid spares members (rising_ids 0 members m.rising) (rising_ids 0 spares s.rising)) one

  pub nodes_start : StartInRange (IsMember (node_ids members spares)) members spares
  nodes_start =
      let both = all_named members spares in
      record { members_are = record { range = m; known = both.0 }; spares_are = both.1 }

-- ---- runs

pub nodes_runs_stay : RunsOfNodesStayInRange
nodes_runs_stay members spares m s hs fit =
    runs_stay (IsMember (node_ids members spares)) (nodes_are_ids members spares m s) members spares (nodes_start members spares m s) hs fit

pub all_runs_stay : AllRunsStayInRange
all_runs_stay members spares m s hs fit =
    runs_stay IsPid servers members spares (start_any members spares m s) hs (All-weaker (λ h. WhatInRange h.event.what) (HappeningInRange IsPid) happening_any hs fit)
