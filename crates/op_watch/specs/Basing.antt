-- A base that comes to an observer in pieces: how they are staged, and what is planned for one more.
use Rattle.std.specs.Prelude.{◌≡◌, ◌==◌, ℕ, Bool, true, false, List, [], ◌∷◌, Option, Some, None, if◌then◌else◌}
use Rattle.op_types.specs.Effects.{nothing_plan}
use Rattle.op_types.specs.Stages.{Pieces, with_piece}
use Rattle.op_types.specs.declared.changes.Change.TheVariants as change
use Rattle.op_types.specs.declared.durable.Part.{Part}
use Rattle.op_types.specs.declared.plan.Plan.{Plan}
use Rattle.op_types.specs.declared.runs.Piece.{Piece}
use Rattle.op_types.specs.declared.turn.Turn.{Turn}
use Rattle.op_types.specs.declared.turn.Turn.TheVariants as turn
use Rattle.op_protocol.specs.Bases.{is_base}
use Rattle.op_protocol.specs.Watching.{takes_base_piece}
use Rattle.op_segments.specs.Staging.{whole_with, PieceHasRoom}
use Rattle.op_watch.specs.declared.stage.BaseStage.{BaseStage}

-- ---- what is staged

-- nothing
abbrev pub first_stage : BaseStage
first_stage = record { conf = 0; pieces = None }

-- what came so far of a base of this configuration
abbrev pub staged_for : BaseStage → ℕ → Option Pieces
staged_for t c = if t.conf == c then t.pieces else None

-- what is staged after a turn
abbrev pub staged_after : Turn → BaseStage → BaseStage
staged_after (turn.StageBase c x fresh) t = record { conf = c; pieces = Some (with_piece (staged_for t c) x) }
staged_after turn.Renew t = first_stage
staged_after t s = s

-- there is room for what a turn stages
abbrev pub HasRoomToStage : Turn → BaseStage → Type 0
HasRoomToStage (turn.StageBase c x fresh) t = PieceHasRoom x fresh (staged_for t c)
HasRoomToStage t s = Unit {0}

-- ---- plans

-- the part begins there, and all that is kept in memory begins anew
abbrev pub rebased_plan : ℕ → List ℕ → ℕ → List ℕ → Plan
rebased_plan c members at base =
    record nothing_plan { batch = change.Rebase c members at base ∷ []; turn = turn.Renew }

-- bytes, if they are a base
abbrev pub base_if : Option (List ℕ) → Option (List ℕ)
base_if None = None
base_if (Some bytes) = if is_base bytes then Some bytes else None

-- the base that a piece completes with these, if it is one
abbrev pub base_with : Option Pieces → Piece → Option (List ℕ)
base_with o x = base_if (whole_with o x)

-- the same, where an observer with this part takes the piece
abbrev pub completed : Part → Option Pieces → ℕ → Piece → Option (List ℕ)
completed p o c x = if takes_base_piece p c x then base_with o x else None

-- the plan of a piece that is staged with these, in this room, if it is taken; else nothing happens
abbrev pub IsStaged : Bool → Option Pieces → ℕ → Piece → Plan → Type 0
IsStaged true o c x plan =
    (fresh : Option Pieces) × (plan ≡ record nothing_plan { turn = turn.StageBase c x fresh })
    × PieceHasRoom x fresh o
IsStaged false o c x plan = plan ≡ nothing_plan
