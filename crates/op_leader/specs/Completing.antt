-- A part of a promise, and the promise that it may complete.
use Rattle.std.specs.Prelude.{◌≤◌, ◌<◌, ◌+◌, ℕ, List, length, map, Option}
use Rattle.op_types.specs.Limits.{positions_end}
use Rattle.op_types.specs.Effects.{Effects}
use Rattle.op_types.specs.Joinings.{Held, held_with}
use Rattle.op_types.specs.RoleStates as state
use Rattle.op_types.specs.RoleStates.{stage_of, staged_with, promised_entries, with_part}
use Rattle.op_types.specs.Roles.{Preparing, stage_view}
use Rattle.op_types.specs.declared.durable.Part.{Part}
use Rattle.op_types.specs.declared.log.Entry.{Entry}
use Rattle.op_types.specs.declared.role.Stage.{Stage}
use Rattle.op_types.specs.declared.runs.PromisedRun.{PromisedRun}
use Rattle.op_protocol.specs.Parts.{nothing}
use Rattle.op_protocol.specs.Leader.{promised_once}

-- a run of a promise's entries: it isn't empty, stands among them, and ends within the positions
pub record IsRun (part : PromisedRun) : Type 0 where
  pub low : part.start ≤ part.at
  pub some : 0 < length part.run
  pub within : part.at + length part.run ≤ part.len
  pub small : part.at + length part.run ≤ positions_end

-- what came so far of a sender's promise, without room
abbrev pub staged_of : List Stage → ℕ → Held
staged_of stages q = stage_of (map stage_view stages) q

-- the entries of the promise that a part is of, if with it all are there
abbrev pub whole_with : Held → PromisedRun → Option (List Entry)
whole_with held part = promised_entries part (held_with held part.at part.run)

-- a part comes to a node that prepares: it is staged, or the promise that it completes counts
abbrev pub takes_part : ℕ → Part → state.Preparing → ℕ → PromisedRun → Effects
takes_part me p r q part =
    promised_once me p r q part (staged_with r q part) (promised_entries part (staged_with r q part))

-- a part is kept, or the promise that it completes, and nothing else happens
abbrev pub keeps_part : state.Preparing → ℕ → PromisedRun → Effects
keeps_part r q part = nothing (Preparing (with_part r q part))
