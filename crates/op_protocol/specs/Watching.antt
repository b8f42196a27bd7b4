-- A step of an observer. It never votes: it asks the members of its configuration for what they have decided,
-- and keeps that, as a part that has promised nothing and in which all is decided.
use Rattle.std.specs.Prelude.{ℕ, ◌+◌, ◌-◌, ◌==◌, ◌&&◌, ◌||◌, nat_eq, nat_lt, nat_le, Bool, List, [], ◌∷◌, ◌++◌, length, drop, Option, Some, None, if◌then◌else◌}
use Rattle.std.specs.Set.{is_member}
use Rattle.op_types.specs.Stops.{stop_at_end}
use Rattle.op_types.specs.Stages.{Pieces, with_piece, whole_bytes}
use Rattle.op_types.specs.Changes.{len_of}
use Rattle.op_types.specs.declared.log.Entry.{Entry}
use Rattle.op_types.specs.declared.log.StopSign.{StopSign}
use Rattle.op_types.specs.declared.changes.Change.{Change}
use Rattle.op_types.specs.declared.changes.Change.TheVariants as change
use Rattle.op_types.specs.declared.durable.Part.{Part}
use Rattle.op_types.specs.declared.messages.Msg.{Msg}
use Rattle.op_types.specs.declared.messages.Body.{Body}
use Rattle.op_types.specs.declared.messages.Body.TheVariants as body
use Rattle.op_types.specs.declared.messages.Watch.{Watch}
use Rattle.op_types.specs.declared.messages.Watch.TheVariants as watch
use Rattle.op_types.specs.declared.runs.Piece.{Piece}
use Rattle.op_types.specs.declared.events.Input.{Input}
use Rattle.op_types.specs.declared.events.Input.TheVariants as input
use Rattle.op_types.specs.declared.answers.Outcome.{Outcome}
use Rattle.op_types.specs.declared.answers.Outcome.TheVariants as outcome
use Rattle.op_types.specs.declared.answers.Refusal.TheVariants as refusal
use Rattle.op_spec.specs.Service.{Service, all_after, base_bytes}
use Rattle.op_protocol.specs.Bases.{is_base, service_in}
use Rattle.op_protocol.specs.Parts.{message, to_each, is_admitted}
use Rattle.op_protocol.specs.Starting.{first_volatile}
use Rattle.op_protocol.specs.State.{State, Volatile, Planned}

-- ---- plans

-- what it stores, keeps in memory and has as its service
abbrev pub watch_storing : State → List Change → Volatile → Service → Planned
watch_storing s batch v service =
    record {
      batch = batch;
      volatile = v;
      service = service;
      waiting = s.waiting;
      reads = s.reads;
      sends = [];
      replies = [];
      read_replies = [];
      outcome = None;
    }

-- it keeps this in memory, and stores nothing
abbrev pub watch_keeping : State → Volatile → Planned
watch_keeping s v = watch_storing s [] v s.service

-- it stays as it is, sends these messages and answers so
abbrev pub watch_saying : State → List (ℕ × Msg) → Option Outcome → Planned
watch_saying s sends o = record (watch_keeping s s.volatile) { sends = sends; outcome = o }

-- nothing happens
abbrev pub watch_nothing : State → Planned
watch_nothing s = watch_saying s [] None

-- ---- it asks

-- for what is decided behind what it has
abbrev pub ask_body : Part → Body
ask_body p = body.Watch (watch.Ask (len_of p))

-- the members of its configuration
abbrev pub asks_all : Part → List (ℕ × Msg)
asks_all p = to_each p.conf p.members (ask_body p)

-- one of them, whose session begins
abbrev pub asks_one : Part → ℕ → List (ℕ × Msg)
asks_one p q = if is_member nat_eq p.members q then message p.conf q (ask_body p) ∷ [] else []

-- ---- entries come

-- entries that are decided from a position on bring some that it lacks, and leave no gap
abbrev pub takes_shown : Part → ℕ → ℕ → List Entry → Bool
takes_shown p c at entries =
    p.conf == c
    && (nat_le at (len_of p) && (nat_lt (len_of p) (at + length entries) && is_admitted p at entries))

-- they are stored, and decided
abbrev pub shown_batch : Part → List Entry → List Change
shown_batch p new = change.Append new ∷ change.Decided (len_of p + length new) ∷ []

-- behind a stop-sign it goes on in the next configuration, with the service's state after the whole list
abbrev pub goes_on_behind : ℕ → State → Part → List Entry → Service → Option StopSign → Planned
goes_on_behind me s p new service None = watch_storing s (shown_batch p new) s.volatile service
goes_on_behind me s p new service (Some stop) =
    watch_storing s (shown_batch p new ++ change.Rebase (p.conf + 1) stop.members 0 (base_bytes service) ∷ [])
    (first_volatile me) service

-- what it lacks of entries is taken
abbrev pub takes_new : ℕ → State → Part → List Entry → Planned
takes_new me s p new = goes_on_behind me s p new (all_after s.service new) (stop_at_end new)

-- decided entries from a position on come
abbrev pub on_shown : ℕ → State → Part → ℕ → ℕ → List Entry → Planned
on_shown me s p c at entries =
    if takes_shown p c at entries then takes_new me s p (drop (len_of p - at) entries) else watch_nothing s

-- ---- a base comes in pieces

-- a position of a configuration is above what it has
abbrev pub is_ahead_of : Part → ℕ → ℕ → Bool
is_ahead_of p c at = nat_lt p.conf c || (p.conf == c && nat_lt (len_of p) at)

-- a piece is staged: it is of a base that is ahead, and stands inside that one's bytes
abbrev pub takes_base_piece : Part → ℕ → Piece → Bool
takes_base_piece p c x = is_ahead_of p c x.at && nat_le (x.from + length x.bytes) x.total

-- what came so far of a base of this configuration
abbrev pub pieces_for : Volatile → ℕ → Option Pieces
pieces_for v c = if v.pieces_conf == c then v.pieces else None

-- it goes on from a base that is whole
abbrev pub rebases : ℕ → State → ℕ → List ℕ → ℕ → List ℕ → Planned
rebases me s c members at bytes =
    watch_storing s (change.Rebase c members at bytes ∷ []) (first_volatile me) (service_in bytes)

-- bytes that are all there, if they are a base
abbrev pub rebases_if : ℕ → State → Volatile → ℕ → List ℕ → ℕ → Option (List ℕ) → Planned
rebases_if me s v c members at None = watch_keeping s v
rebases_if me s v c members at (Some bytes) =
    if is_base bytes then rebases me s c members at bytes else watch_keeping s v

-- a piece is staged, and completes the base or not
abbrev pub stages_piece : ℕ → State → ℕ → List ℕ → Piece → Pieces → Planned
stages_piece me s c members x staged =
    rebases_if me s (record s.volatile { pieces = Some staged; pieces_conf = c }) c members x.at
    (whole_bytes staged.bytes)

-- a piece of a base of a configuration with these members comes
abbrev pub on_base : ℕ → State → Part → ℕ → List ℕ → Piece → Planned
on_base me s p c members x =
    if takes_base_piece p c x then stages_piece me s c members x (with_piece (pieces_for s.volatile c) x)
    else watch_nothing s

-- ---- the step

-- a message comes: it drops all others
abbrev pub on_watched : ℕ → State → Part → ℕ → Body → Planned
on_watched me s p c (body.Watch (watch.Shown at entries)) = on_shown me s p c at entries
on_watched me s p c (body.Watch (watch.Base members x)) = on_base me s p c members x
on_watched me s p c _ = watch_nothing s

-- whatever comes; it knows no leader, and leads nothing
abbrev pub watch_at : ℕ → State → Part → Input → Planned
watch_at me s p input.Tick = watch_saying s (asks_all p) None
watch_at me s p (input.Deliver q m) = on_watched me s p m.conf m.body
watch_at me s p (input.Commands cs) = watch_saying s [] (Some (outcome.Refused refusal.NoLeader))
watch_at me s p (input.Stop members) = watch_saying s [] (Some (outcome.Refused refusal.NoLeader))
watch_at me s p input.TrimNow = watch_saying s [] (Some outcome.NotLeading)
watch_at me s p (input.Read r) = watch_saying s [] (Some outcome.NotLeading)
watch_at me s p (input.Up q) = watch_saying s (asks_one p q) None
watch_at me s p (input.Down q) = watch_nothing s

-- an observer always has a part
abbrev pub watch_if : ℕ → State → Option Part → Input → Planned
watch_if me s None x = watch_nothing s
watch_if me s (Some p) x = watch_at me s p x

-- an observer's step
abbrev pub watch_plan : ℕ → State → Input → Planned
watch_plan me s x = watch_if me s s.durable.part x
