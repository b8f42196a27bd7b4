-- What a node keeps that prepares or leads, as contracts see it: without the room of its lists.
use Rattle.std.specs.Prelude.{◌==◌, ◌-◌, ℕ, nat_eq, nat_lt, Bool, true, not, List, [], ◌∷◌, ◌++◌, filter, Option, Some, None, if◌then◌else◌}
use Rattle.std.specs.Set.{is_member}
use Rattle.op_types.specs.declared.ballot.Ballot.{Ballot}
use Rattle.op_types.specs.declared.role.Promised.{Promised}
use Rattle.op_types.specs.declared.role.Buffered.{Buffered}
use Rattle.op_types.specs.declared.role.Acknowledged.{Acknowledged}
use Rattle.op_types.specs.declared.role.Report.{Report}
use Rattle.op_types.specs.declared.runs.PromisedRun.{PromisedRun}
use Rattle.op_types.specs.declared.log.Entry.{Entry}
use Rattle.op_types.specs.Joinings.{Held, held_with, held_run}

-- of a node that prepares a ballot of its own
pub record Preparing : Type 0 where
  pub ballot : Ballot
  pub promises : List Promised  -- one of each sender
  pub stages : List (ℕ × Held)  -- what came so far of promises that come in parts, of each sender
  pub buffer : List Buffered  -- proposals that wait for the log to be adopted

-- of a leader
pub record Leading : Type 0 where
  pub ballot : Ballot
  pub adopted_round : Ballot  -- of the log that was adopted
  pub adopted_len : ℕ
  pub synced : List ℕ  -- the followers that were sent the log, and get what is added to it
  pub acknowledged : List Acknowledged  -- one of each sender
  pub reports : List Report  -- of what each has decided, one of each sender since trimming was asked for

-- ---- promises

-- the promise of a sender, if it is kept
abbrev pub promise_of : List Promised → ℕ → Option Promised
promise_of [] q = None
promise_of (k ∷ promises) q = if k.from == q then Some k else promise_of promises q

-- the promises with one more, which takes the place of an earlier one of its sender
abbrev pub promises_with : List Promised → Promised → List Promised
promises_with promises k = filter (λ j. not (j.from == k.from)) promises ++ k ∷ []

-- a promise more is kept
abbrev pub with_promise : Preparing → Promised → Preparing
with_promise r k = record r { promises = promises_with r.promises k }

-- ---- promises that come in parts

-- what came so far of a sender's promise
abbrev pub stage_of : List (ℕ × Held) → ℕ → Held
stage_of [] q = []
stage_of (s ∷ stages) q = if s.0 == q then s.1 else stage_of stages q

-- without a sender's
abbrev pub stages_without : List (ℕ × Held) → ℕ → List (ℕ × Held)
stages_without stages q = filter (λ s. not (s.0 == q)) stages

-- so much came of a sender's promise
abbrev pub with_stage : Preparing → ℕ → Held → Preparing
with_stage r q held = record r { stages = stages_without r.stages q ++ (q, held) ∷ [] }

-- nothing of it is staged
abbrev pub without_stage : Preparing → ℕ → Preparing
without_stage r q = record r { stages = stages_without r.stages q }

-- the whole promise that a part is of, with these entries
abbrev pub told_by : ℕ → PromisedRun → List Entry → Promised
told_by q part entries =
    record {
      from = q;
      accepted = part.accepted;
      len = part.len;
      decided = part.decided;
      start = part.start;
      entries = entries;
    }

-- what is staged is kept as a promise once all of its entries are there, and then leaves the stage
abbrev pub kept_once : Preparing → ℕ → PromisedRun → Held → Option (List Entry) → Preparing
kept_once r q part held None = with_stage r q held
kept_once r q part held (Some entries) = with_promise (without_stage r q) (told_by q part entries)

-- the entries of a part's promise, if all are held
abbrev pub promised_entries : PromisedRun → Held → Option (List Entry)
promised_entries part held = held_run held part.start (part.len - part.start)

-- a part of a sender's promise comes to those before it
abbrev pub staged_with : Preparing → ℕ → PromisedRun → Held
staged_with r q part = held_with (stage_of r.stages q) part.at part.run

-- a part of a promise more is kept
abbrev pub with_part : Preparing → ℕ → PromisedRun → Preparing
with_part r q part = kept_once r q part (staged_with r q part) (promised_entries part (staged_with r q part))

-- ---- proposals that wait

-- proposals more wait
abbrev pub with_buffered : Preparing → List Buffered → Preparing
with_buffered r more = record r { buffer = r.buffer ++ more }

-- ---- followers

-- a follower more is synced
abbrev pub with_synced : Leading → ℕ → Leading
with_synced l q = if is_member nat_eq l.synced q then l else record l { synced = l.synced ++ q ∷ [] }

-- a follower is synced no more
abbrev pub without_synced : Leading → ℕ → Leading
without_synced l q = record l { synced = filter (λ p. not (p == q)) l.synced }

-- the length that a sender has acknowledged
abbrev pub acknowledged_of : List Acknowledged → ℕ → ℕ
acknowledged_of [] q = 0
acknowledged_of (a ∷ acks) q = if a.from == q then a.len else acknowledged_of acks q

-- the acknowledged lengths with this one, where it is greater than its sender's before
abbrev pub acknowledged_with : List Acknowledged → Acknowledged → List Acknowledged
acknowledged_with acks a =
    if nat_lt (acknowledged_of acks a.from) a.len then filter (λ b. not (b.from == a.from)) acks ++ a ∷ []
    else acks

-- a length is acknowledged
abbrev pub with_acknowledged : Leading → Acknowledged → Leading
with_acknowledged l a = record l { acknowledged = acknowledged_with l.acknowledged a }

-- ---- trimming

-- what a sender has decided, if it reported that
abbrev pub report_of : List Report → ℕ → Option ℕ
report_of [] q = None
report_of (r ∷ reports) q = if r.from == q then Some r.decided else report_of reports q

-- a length is above what is reported so far, if anything is
abbrev pub is_news : Option ℕ → ℕ → Bool
is_news None x = true
is_news (Some y) x = nat_lt y x

-- the reports with this one, where it is its sender's first or greater than the one before
abbrev pub reports_with : List Report → Report → List Report
reports_with reports r =
    if is_news (report_of reports r.from) r.decided
    then filter (λ o. not (o.from == r.from)) reports ++ r ∷ []
    else reports

-- a report more is kept
abbrev pub with_report : Leading → Report → Leading
with_report l r = record l { reports = reports_with l.reports r }

-- no report is kept
abbrev pub without_reports : Leading → Leading
without_reports l = record l { reports = [] }
