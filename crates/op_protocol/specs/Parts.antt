-- Words of a part: its log, what changes make of it, messages to its members, and rows that do little.
use Rattle.std.specs.Prelude.{◌==◌, ◌&&◌, ℕ, ◌+◌, ◌-◌, nat_lt, nat_le, Bool, true, not, List, [], ◌∷◌, ◌++◌, length, take, drop, map, filter, Option, Some, None, is_some, if◌then◌else◌}
use Rattle.op_types.specs.Limits.{positions_end, last_conf}
use Rattle.op_types.specs.Cutting.{whole_or_parts}
use Rattle.op_types.specs.Changes.{len_of, part_with}
use Rattle.op_types.specs.declared.ballot.Ballot.{Ballot}
use Rattle.op_types.specs.declared.changes.Change.{Change}
use Rattle.op_types.specs.declared.changes.Change.TheVariants as change
use Rattle.op_types.specs.declared.log.Entry.{Entry}
use Rattle.op_types.specs.declared.durable.Part.{Part}
use Rattle.op_types.specs.declared.runs.PromisedRun.{PromisedRun}
use Rattle.op_types.specs.declared.runs.SyncRun.{SyncRun}
use Rattle.op_types.specs.declared.messages.Msg.{Msg}
use Rattle.op_types.specs.declared.messages.Body.{Body}
use Rattle.op_types.specs.declared.messages.Body.TheVariants as body
use Rattle.op_types.specs.declared.answers.Reply.{Reply}
use Rattle.op_types.specs.declared.answers.Outcome.{Outcome}
use Rattle.op_types.specs.Roles.{Role}
use Rattle.op_types.specs.Effects.{Effects}
use Rattle.op_spec.specs.Machine.{stop_of, stop_at_end}

-- ---- logs

-- the log from a position on
abbrev pub log_from : Part → ℕ → List Entry
log_from p at = drop (at - p.trimmed) p.tail.items

-- where a stop-sign ends entries that begin at a position: nothing stands after one
abbrev pub stop_at : ℕ → List Entry → Option ℕ
stop_at at entries = if is_some (stop_at_end entries) then Some (at + length entries - 1) else None

-- where a stop-sign ends the log
abbrev pub pending : Part → Option ℕ
pending p = stop_at p.trimmed p.tail.items

-- some entry is a stop-sign
abbrev pub has_stop : List Entry → Bool
has_stop [] = not true
has_stop (e ∷ entries) = if is_some (stop_of e) then true else has_stop entries

-- entries end within the positions, and are no stop-sign of the last configuration
abbrev pub is_admitted : Part → ℕ → List Entry → Bool
is_admitted p at entries =
    nat_le (at + length entries) positions_end && not (p.conf == last_conf && has_stop entries)

-- what a message brings is admitted; where an entry goes that is forwarded isn't known yet,
-- and several of them are commands
abbrev pub is_admitted_body : Part → Body → Bool
is_admitted_body p (body.Promise n fa fl fd s entries) = is_admitted p s entries
is_admitted_body p (body.AcceptSync n x entries) = is_admitted p x entries
is_admitted_body p (body.Accept n at entries) = is_admitted p at entries
is_admitted_body p (body.PromisePart n part) = is_admitted p part.at part.run
is_admitted_body p (body.AcceptSyncPart n part) = is_admitted p part.at part.run
is_admitted_body p (body.Forward e) = is_admitted p 0 (e ∷ [])
is_admitted_body p (body.Forwards entries) = not (has_stop entries)
is_admitted_body p _ = true

-- ---- changes

-- the part after a batch, from the left
abbrev pub part_after : Part → List Change → Part
part_after p [] = p
part_after p (c ∷ batch) = part_after (part_with p c) batch

-- a change of the part alone: it leaves no configuration, and is of nothing that is held while joining
abbrev pub IsOfPart : Change → Type 0
IsOfPart (change.Promise n) = Unit {0}
IsOfPart (change.Accept n) = Unit {0}
IsOfPart (change.CutTo n) = Unit {0}
IsOfPart (change.Append entries) = Unit {0}
IsOfPart (change.Decided x) = Unit {0}
IsOfPart (change.Trim x base) = Unit {0}
IsOfPart _ = ⊥

-- the part with this log, accepted in this round
abbrev pub part_in_round : Part → Ballot → List Entry → Part
part_in_round p n log = record p { accepted = n; tail = record p.tail { items = log } }

-- the change that cuts the log to a length, where that cuts anything
abbrev pub cutting : Part → ℕ → List Change
cutting p len = if nat_lt len (len_of p) then change.CutTo len ∷ [] else []

-- the change that adds entries, if there are any
abbrev pub appending : List Entry → List Change
appending [] = []
appending (e ∷ entries) = change.Append (e ∷ entries) ∷ []

-- the entries that a part has newly decided
abbrev pub decided_since : Part → Part → List Entry
decided_since old new = drop (old.decided - new.trimmed) (take (new.decided - new.trimmed) new.tail.items)

-- ---- messages

-- a message of a configuration, to a node
abbrev pub message : ℕ → ℕ → Body → ℕ × Msg
message conf q b = (q, record { conf = conf; body = b })

-- these messages to it, in this order
abbrev pub messages : ℕ → ℕ → List Body → List (ℕ × Msg)
messages conf q bodies = map (λ b. message conf q b) bodies

-- the members but the node
abbrev pub others : ℕ → List ℕ → List ℕ
others me members = filter (λ q. not (q == me)) members

-- the same message to each of these
abbrev pub to_each : ℕ → List ℕ → Body → List (ℕ × Msg)
to_each conf pids b = map (λ q. message conf q b) pids

-- the leader of a ballot asks for a promise
abbrev pub prepare_body : Part → Ballot → Body
prepare_body p n = body.Prepare n p.accepted (len_of p) p.decided

-- ---- messages in parts

-- a run of an AcceptSync's entries
abbrev pub sync_run : ℕ → List Entry → ℕ → List Entry → SyncRun
sync_run start entries at run = record { start = start; end = start + length entries; at = at; run = run }

-- what brings an AcceptSync: itself, or its parts in order
abbrev pub sync_bodies : Ballot → ℕ → List Entry → List Body
sync_bodies n start entries =
    whole_or_parts (body.AcceptSync n start entries)
    (λ at run. body.AcceptSyncPart n (sync_run start entries at run)) start entries

-- a run of a promise's entries, which begin there
abbrev pub promised_run : Part → ℕ → ℕ → List Entry → PromisedRun
promised_run p start at run =
    record {
      accepted = p.accepted;
      len = len_of p;
      decided = p.decided;
      start = start;
      at = at;
      run = run;
    }

-- what brings a promise that tells the log from there on: itself, or its parts in order
abbrev pub promise_bodies : Part → Ballot → ℕ → List Body
promise_bodies p n start =
    whole_or_parts (body.Promise n p.accepted (len_of p) p.decided start (log_from p start))
    (λ at run. body.PromisePart n (promised_run p start at run)) start (log_from p start)

-- a run that isn't empty, and ends at most there
abbrev pub is_run_to : ℕ → ℕ → List Entry → Bool
is_run_to end at run = nat_lt 0 (length run) && nat_le (at + length run) end

-- ---- rows that do little

-- the node then does this, and these messages go out
abbrev pub saying : Role → List (ℕ × Msg) → Effects
saying r sends = record { batch = []; role = r; sends = sends; replies = []; outcome = None }

-- nothing happens
abbrev pub nothing : Role → Effects
nothing r = saying r []

-- these changes, messages and replies, and then what follows from them
abbrev pub first : List Change → List (ℕ × Msg) → List Reply → Effects → Effects
first batch sends replies e =
    record {
      batch = batch ++ e.batch;
      role = e.role;
      sends = sends ++ e.sends;
      replies = replies ++ e.replies;
      outcome = e.outcome;
    }

-- the same effects, of a proposal that is answered so
abbrev pub answered : Outcome → Effects → Effects
answered o e = record e { outcome = Some o }
