-- One history of all that clients see, commands and reads: at each moment all that was answered by then is of
-- a first part of it.
use Rattle.std.specs.Prelude.{◌≡◌, ◌++◌, ℕ, true, List, take, Contains}
use Rattle.op_types.specs.Ranges.{IsMember}
use Rattle.op_types.specs.declared.answers.Reply.{Reply}
use Rattle.op_types.specs.declared.events.Request.TheVariants as request
use Rattle.op_types.specs.declared.log.Command.{Command}
use Rattle.op_types.specs.declared.log.Entry.{Entry}
use Rattle.op_types.specs.declared.log.Entry.TheVariants as entry
use Rattle.op_types.specs.declared.read.Read.{Read}
use Rattle.op_spec.specs.Machine.{IsAmong}
use Rattle.op_spec.specs.Service.{service_of, value_at, told_value}
use Rattle.op_runs.specs.Possible.{server_ids}
use Rattle.op_runs.specs.World.{Happening}
use Rattle.op_read_laws.specs.Told.{IsGiven}
use Rattle.op_cluster_laws.specs.Outputs.{answered_in}
use Rattle.op_cluster_laws.specs.Taken.{WasTakenIn}
use Rattle.op_cluster_laws.specs.Traces.{Happened, Lived, lived_at}
use Rattle.op_cluster_laws.specs.Currency.{WasAskedOf, IsUnasked}
use Rattle.op_cluster_laws.specs.Worlds.{history_after, IsMoment, IsRun}

-- An answer to a read that was asked for by a moment is the value of its key after a first part of that
-- moment's history, which has the whole history of each moment by which no node had read a request for it.
pub record IsSeen (members spares observers : List ℕ) (faulted : ℕ → ℕ) (trace : List Happened)
    (at : ℕ → List Happening) (k : ℕ) (a : Reply) : Type 0 where
  pub read : Read
  pub client_is : read.client ≡ a.client
  pub seq_is : read.seq ≡ a.seq
  pub asked : WasAskedOf members spares observers faulted (take k trace) (request.Read read)
  pub seen : List Entry
  pub rest : List Entry
  pub place : history_after members spares (at k) ≡ seen ++ rest
  pub value : a.answer ≡ told_value (value_at read.key (service_of seen).pairs)
  pub sees : (j : ℕ) → IsUnasked members spares observers faulted (take j trace) (a.client, a.seq)
      → (more : List Entry) × (seen ≡ history_after members spares (at j) ++ more)

-- The moment behind the first k things that happened. Its history is a first part of the whole run's; by then
-- a node had read a request for each command of it, and a node had taken it in, so that what was refused or
-- lost each time that it was read doesn't stand there; each reply that was given out is served by it, and
-- each answer to a read is seen in it.
pub record IsLinearAt (members spares observers : List ℕ) (faulted : ℕ → ℕ) (trace : List Happened)
    (happenings : List Happening) (at : ℕ → List Happening) (k : ℕ) : Type 0 where
  pub moment : IsMoment members spares observers faulted (take k trace) (at k)
  pub goes_on : (rest : List Entry)
      × (history_after members spares happenings ≡ history_after members spares (at k) ++ rest)
  pub commands : (b : Command) → IsAmong (history_after members spares (at k)) (entry.Command b)
      → WasAskedOf members spares observers faulted (take k trace) (request.Command b)
  pub taken : (b : Command) → IsAmong (history_after members spares (at k)) (entry.Command b)
      → WasTakenIn members spares observers faulted (take k trace) b
  pub reads : (p : ℕ) → IsMember (server_ids members spares observers) p → (a : Reply)
      → let l : Lived = lived_at members observers faulted p (take k trace) in
      Contains (answered_in true l.first l.deeds) a → IsGiven a.answer
      → IsSeen members spares observers faulted trace at k a

-- A cluster is one run, of which at each moment a first part is reached, and so it is at each of them. Each
-- command of its whole history a node has read a request for, and a node has taken in.
abbrev pub IsLinear : List ℕ → List ℕ → List ℕ → (ℕ → ℕ) → List Happened → Type 0
IsLinear members spares observers faulted trace =
    (happenings : List Happening) × IsRun members spares observers faulted trace happenings
    × ((at : ℕ → List Happening)
    × ((k : ℕ) → IsLinearAt members spares observers faulted trace happenings at k))
    × ((b : Command) → IsAmong (history_after members spares happenings) (entry.Command b)
    → WasAskedOf members spares observers faulted trace (request.Command b)
    × WasTakenIn members spares observers faulted trace b)
