-- A role, as contracts see it, and what a turn makes of it.
use Rattle.std.specs.Prelude.{◌≡◌, ◌<◌, ◌≤◌, ◌+◌, ◌==◌, ℕ, List, [], ◌∷◌, length, map, Some, None, if◌then◌else◌}
use Rattle.op_types.specs.RoleStates as state
use Rattle.op_types.specs.RoleStates.{with_promise, with_part, without_stage, with_buffered, with_synced, without_synced, with_acknowledged, with_report, without_reports}
use Rattle.op_types.specs.Roomed.{Roomed}
use Rattle.op_types.specs.Joinings.{Held}
use Rattle.op_types.specs.declared.log.Entry.{Entry}
use Rattle.op_types.specs.declared.runs.PromisedRun.{PromisedRun}
use Rattle.op_types.specs.declared.role.Buffered.{Buffered}
use Rattle.op_types.specs.declared.role.Stage.{Stage}
use Rattle.op_types.specs.declared.role.Preparing as preparing
use Rattle.op_types.specs.declared.role.Leading as leading
use Rattle.op_types.specs.declared.role.Role as role
use Rattle.op_types.specs.declared.role.Role.TheVariants as variant
use Rattle.op_types.specs.declared.turn.Turn.{Turn}
use Rattle.op_types.specs.declared.turn.Turn.TheVariants as turn

-- what a node does in its part
pub data Role : Type 0 where
  Idle : Role
  Preparing : state.Preparing → Role
  Leading : state.Leading → Role

-- what came so far of a sender's promise, without room
abbrev pub stage_view : Stage → ℕ × Held
stage_view s = (s.from, s.held.items)

-- what is prepared, without room
abbrev pub preparing_of : preparing.Preparing → state.Preparing
preparing_of r =
    record {
      ballot = r.ballot;
      promises = r.promises.items;
      stages = map stage_view r.stages.items;
      buffer = r.buffer.items;
    }

-- what is led, without room
abbrev pub leading_of : leading.Leading → state.Leading
leading_of l =
    record {
      ballot = l.ballot;
      adopted_round = l.adopted_round;
      adopted_len = l.adopted_len;
      synced = l.synced.items;
      acknowledged = l.acknowledged.items;
      reports = l.reports.items;
    }

-- a role, without room
abbrev pub role_of : role.Role → Role
role_of variant.Idle = Idle
role_of (variant.Preparing r) = Preparing (preparing_of r)
role_of (variant.Leading l) = Leading (leading_of l)

-- ---- turns

-- where the node prepares
abbrev pub if_preparing : (state.Preparing → state.Preparing) → Role → Role
if_preparing f (Preparing r) = Preparing (f r)
if_preparing f r = r

-- where the node leads
abbrev pub if_leading : (state.Leading → state.Leading) → Role → Role
if_leading f (Leading l) = Leading (f l)
if_leading f r = r

-- the role when the turn is adopted
abbrev pub turned : Turn → Role → Role
turned turn.Stay r = r
turned (turn.Become n) r = role_of n
turned (turn.Keep k) r = if_preparing (λ s. with_promise s k) r
turned (turn.KeepPart q part fresh) r = if_preparing (λ s. with_part s q part) r
turned (turn.DropParts q) r = if_preparing (λ s. without_stage s q) r
turned (turn.Buffer more) r = if_preparing (λ s. with_buffered s more) r
turned (turn.Sync q) r = if_leading (λ l. with_synced l q) r
turned (turn.Unsync q) r = if_leading (λ l. without_synced l q) r
turned (turn.Acknowledge a) r = if_leading (λ l. with_acknowledged l a) r
turned (turn.KeepReport k) r = if_leading (λ l. with_report l k) r
turned turn.ClearReports r = if_leading without_reports r
turned turn.Renew r = Idle
turned (turn.Stage at run from) r = r
turned (turn.StagePiece p fresh) r = r
turned (turn.StageBase c p fresh) r = r
turned turn.DropPieces r = r
turned (turn.Hear h) r = r
turned (turn.RaiseFloor b) r = r
turned (turn.NextRound e None) r = r
turned (turn.NextRound e (Some n)) r = role_of n

-- ---- room

-- for a promise, where the node prepares
abbrev pub RoomToKeep : role.Role → Type 0
RoomToKeep (variant.Preparing r) = 0 < r.promises.room
RoomToKeep r = Unit {0}

-- entries with their positions, and room for more
abbrev pub Shelf : Type 0
Shelf = Roomed (ℕ × Entry)

-- the entries of a sender's stage with their room, or these, where it has none
abbrev pub stage_or : List Stage → ℕ → Shelf → Shelf
stage_or [] q fresh = fresh
stage_or (s ∷ stages) q fresh = if s.from == q then s.held else stage_or stages q fresh

-- For a part of a sender's promise, and for the promise: in the sender's stage, or in this one, which is
-- empty. The run ends within the log.
pub record PartHasRoom (r : preparing.Preparing) (q : ℕ) (part : PromisedRun) (fresh : Shelf) : Type 0 where
  pub empty : fresh.items ≡ []
  pub entries : length part.run ≤ (stage_or r.stages.items q fresh).room
  pub stages : 0 < r.stages.room
  pub promises : 0 < r.promises.room
  pub within : part.at + length part.run ≤ part.len

-- the same, where the node prepares
abbrev pub RoomToKeepPart : ℕ → PromisedRun → Shelf → role.Role → Type 0
RoomToKeepPart q part fresh (variant.Preparing r) = PartHasRoom r q part fresh
RoomToKeepPart q part fresh r = Unit {0}

-- for these proposals, where the node prepares
abbrev pub RoomToBuffer : List Buffered → role.Role → Type 0
RoomToBuffer more (variant.Preparing r) = length more ≤ r.buffer.room
RoomToBuffer more r = Unit {0}

-- for a follower, where the node leads
abbrev pub RoomToSync : role.Role → Type 0
RoomToSync (variant.Leading l) = 0 < l.synced.room
RoomToSync r = Unit {0}

-- for a length, where the node leads
abbrev pub RoomToAcknowledge : role.Role → Type 0
RoomToAcknowledge (variant.Leading l) = 0 < l.acknowledged.room
RoomToAcknowledge r = Unit {0}

-- for a report, where the node leads
abbrev pub RoomToReport : role.Role → Type 0
RoomToReport (variant.Leading l) = 0 < l.reports.room
RoomToReport r = Unit {0}

-- the turn changes the role alone, and there is room for what it adds
abbrev pub HasRoom : Turn → role.Role → Type 0
HasRoom turn.Stay r = Unit {0}
HasRoom (turn.Become n) r = Unit {0}
HasRoom (turn.Keep k) r = RoomToKeep r
HasRoom (turn.KeepPart q part fresh) r = RoomToKeepPart q part fresh r
HasRoom (turn.DropParts q) r = Unit {0}
HasRoom (turn.Buffer more) r = RoomToBuffer more r
HasRoom (turn.Sync q) r = RoomToSync r
HasRoom (turn.Unsync q) r = Unit {0}
HasRoom (turn.Acknowledge a) r = RoomToAcknowledge r
HasRoom (turn.KeepReport k) r = RoomToReport r
HasRoom turn.ClearReports r = Unit {0}
HasRoom turn.Renew r = ⊥
HasRoom (turn.Stage at run from) r = ⊥
HasRoom (turn.StagePiece p fresh) r = ⊥
HasRoom (turn.StageBase c p fresh) r = ⊥
HasRoom turn.DropPieces r = ⊥
HasRoom (turn.Hear h) r = ⊥
HasRoom (turn.RaiseFloor b) r = ⊥
HasRoom (turn.NextRound e n) r = ⊥

-- the turn gives the node another role, which needs no room
abbrev pub IsBecome : Turn → Type 0
IsBecome (turn.Become n) = Unit {0}
IsBecome t = ⊥
