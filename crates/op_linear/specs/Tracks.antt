-- A trace is a run: what happens at nodes that serve together is what happens in their world. So each law of
-- runs holds of them.
use Rattle.std.specs.Prelude.{◌≡◌, ◌++◌, ℕ, Bool, List, Contains}
use Rattle.op_types.specs.Ranges.{IsMember}
use Rattle.op_types.specs.declared.answers.Reply.{Reply}
use Rattle.op_types.specs.declared.messages.Msg.{Msg}
use Rattle.op_runs.specs.Run.{first_execution, execution_of}
use Rattle.op_runs.specs.Possible.{server_ids}
use Rattle.op_runs.specs.World.{Happening, first_world, run_of}
use Rattle.op_laws.specs.Elected.{TwoMoments, until_second}
use Rattle.op_laws.specs.Exchange.{ExchangesDecide}
use Rattle.op_laws.specs.Known.{TrimsAreKnown, MessagesAreTrue}
use Rattle.op_laws.specs.Led.{LeadsOnceIn}
use Rattle.op_runs.specs.Fresh.{ReadsAreFresh}
use Rattle.op_cluster_laws.specs.Becoming.{sent_between, told_line, Numbered, TraceBecomes}
use Rattle.op_cluster_laws.specs.Outputs.{sent_in, answered_in}
use Rattle.op_cluster_laws.specs.Traces.{Happened, Lived, lived_at}
use Rattle.op_cluster_laws.specs.Worlds.{IsMoment, IsRun}

-- By a moment events have become these happenings. The nodes stand in their world; each message that a node
-- gave out was sent in it, and each answer is told in it.
pub record IsReached (members spares observers : List ℕ) (faulted : ℕ → ℕ) (now : List Happened)
    (hs : List Happening) : Type 0 where
  pub events : TraceBecomes members spares observers faulted now hs
  pub moment : IsMoment members spares observers faulted now hs
  pub messages : (p : ℕ) → IsMember (server_ids members spares observers) p → (q : ℕ) (m : Msg)
      → let l : Lived = lived_at members observers faulted p now in
      Contains (sent_in l.first l.deeds) (q, m)
      → Numbered (run_of (first_world members spares) hs).messages (sent_between p q m)
  pub answers : (read : Bool) (p : ℕ) → IsMember (server_ids members spares observers) p → (r : Reply)
      → let l : Lived = lived_at members observers faulted p now in
      Contains (answered_in read l.first l.deeds) r
      → Contains (run_of (first_world members spares) hs).lines (told_line read p r)

-- What the laws of runs say of this one: nothing is trimmed that a member never knew, each message that was
-- sent is true, reads are fresh, a ballot is led once, and each exchange in it decides.
pub record ObeysLaws (members spares : List ℕ) (hs : List Happening) : Type 0 where
  pub trims : TrimsAreKnown (execution_of (first_execution members spares) hs)
  pub messages : MessagesAreTrue members (execution_of (first_execution members spares) hs)
  pub reads : ReadsAreFresh members spares hs
  pub led : (m : TwoMoments) (rest : List Happening) → hs ≡ until_second m ++ rest
      → LeadsOnceIn members spares m
  pub exchanges : (early mid rest : List Happening) → hs ≡ (early ++ mid) ++ rest
      → ExchangesDecide (execution_of (first_execution members spares) early) mid

-- a trace becomes one run, event by event, and at each moment a first part of it
abbrev pub TracesAreRuns : List ℕ → List ℕ → List ℕ → (ℕ → ℕ) → List Happened → Type 0
TracesAreRuns members spares observers faulted trace =
    (hs : List Happening) × IsRun members spares observers faulted trace hs
    × TraceBecomes members spares observers faulted trace hs
    × ((now later : List Happened) → trace ≡ now ++ later
    → (first rest : List Happening) × (hs ≡ first ++ rest)
    × IsReached members spares observers faulted now first)
    × ObeysLaws members spares hs
