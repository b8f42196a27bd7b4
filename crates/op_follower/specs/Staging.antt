-- What a follower stages of its leader's log, and what a plan makes of it.
use Rattle.std.specs.Prelude.{◌≡◌, ◌≤◌, ◌+◌, ◌-◌, ◌^◌, ◌<◌, ℕ, nat_lt, List, ◌∷◌, [], length, slice_get, All, Option, None, if◌then◌else◌}
use Rattle.op_types.specs.Limits.{positions_end, last_conf}
use Rattle.op_types.specs.Changes.{IsCommand}
use Rattle.op_types.specs.Joinings.{Held, held_with}
use Rattle.op_types.specs.Rings.{AreBelow}
use Rattle.op_types.specs.Stages.{staged_from}
use Rattle.op_types.specs.Roles.{Shelf}
use Rattle.op_types.specs.Effects.{nothing_plan}
use Rattle.op_types.specs.declared.ballot.Ballot.{Ballot}
use Rattle.op_types.specs.declared.changes.Change.{Change}
use Rattle.op_types.specs.declared.durable.Part.{Part}
use Rattle.op_types.specs.declared.log.Entry.{Entry}
use Rattle.op_types.specs.declared.messages.Body.{Body}
use Rattle.op_types.specs.declared.messages.Body.TheVariants as body
use Rattle.op_types.specs.declared.plan.Plan.{Plan}
use Rattle.op_types.specs.declared.turn.Turn.{Turn}
use Rattle.op_types.specs.declared.turn.Turn.TheVariants as turn
use Rattle.op_protocol.specs.Parts.{message}
use Rattle.op_protocol.specs.State.{Volatile, PartStep, staged_after}

-- Each entry that is staged may come to the log of this configuration: it stands within the positions, and
-- is no stop-sign of the last configuration.
pub record StagedIsAdmitted (conf : ℕ) (staged : Held) : Type 0 where
  pub small : AreBelow positions_end staged
  pub stops : conf ≡ last_conf → All (λ x. IsCommand x.1) staged

-- what a run from a position on brings to a place
abbrev pub brought_at : ℕ → List Entry → ℕ → Option Entry
brought_at at run place = if nat_lt place at then None else slice_get run (place - at)

-- ---- plans

-- these changes are made, and this is told to a node
abbrev pub telling : Part → ℕ → List Change → Body → Plan
telling p q batch b = record nothing_plan { batch = batch; sends = message p.conf q b ∷ [] }

-- what the leader is told of the log's new length: where entries are still missing before a place,
-- it is asked to prepare
abbrev pub appended_body : Ballot → ℕ → ℕ → Body
appended_body n len at = if nat_lt len at then body.PrepareReq else body.Accepted n len

-- what a turn makes of what is staged
abbrev pub staged_in : Turn → Held → Held
staged_in (turn.Stage at run from) staged = staged_from (held_with staged at run) from
staged_in t staged = staged

-- what a plan does that stages entries, at a node that keeps this in memory
abbrev pub staging_step : Plan → Volatile → PartStep
staging_step p v =
    record {
      batch = p.batch;
      volatile = record v { staged = staged_after p.batch (staged_in p.turn v.staged) };
      sends = p.sends;
      replies = p.replies;
      outcome = p.outcome;
    }

-- at each node that has so much staged, a plan does this step
abbrev pub DoesStep : Held → Plan → (Volatile → PartStep) → Type 0
DoesStep staged p step =
    (v : Volatile) → (let w : Volatile = record v { staged = staged } in staging_step p w ≡ step w)

-- there is room for a run from a position on, and each of its entries has a place
pub record StageHasRoom (at : ℕ) (run : List Entry) (staged : Shelf) : Type 0 where
  pub entries : length run ≤ staged.room
  pub places : at + length run < 2 ^ 64

-- the turn changes what is staged alone, and there is room for what it adds
abbrev pub HasRoomToStage : Turn → Shelf → Type 0
HasRoomToStage turn.Stay staged = Unit {0}
HasRoomToStage (turn.Stage at run from) staged = StageHasRoom at run staged
HasRoomToStage t staged = ⊥
