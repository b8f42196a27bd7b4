-- What a client reads of its calls: each result is one that may return to it.
use Rattle.std.specs.Prelude.{◌≡◌, ◌<◌, ◌++◌, [], ℕ, false, List, length, take, Contains}
use Rattle.op_types.specs.Ranges.{IsMember}
use Rattle.op_types.specs.declared.answers.Answer.{Answer}
use Rattle.op_types.specs.declared.answers.Answer.TheVariants as answer
use Rattle.op_types.specs.declared.answers.Reply.{Reply}
use Rattle.op_types.specs.declared.log.Command.{Command}
use Rattle.op_runs.specs.Possible.{server_ids}
use Rattle.op_command.specs.Ranges.{ReplyInRange}
use Rattle.op_command.specs.Replies.{reply_form}
use Rattle.op_command.specs.declared.reply.ClientReply.{ClientReply}
use Rattle.op_command.specs.declared.said.Said.TheVariants as said
use Rattle.op_serving.specs.Promise.{life}
use Rattle.op_serving.specs.Wire.{client_head}
use Rattle.op_cluster_laws.specs.Nets.{IsPrefix}
use Rattle.op_cluster_laws.specs.Outputs.{answered_in}
use Rattle.op_cluster_laws.specs.Readings.{HasFrame, IsClients, WasAsked}
use Rattle.op_cluster_laws.specs.Traces.{Happened, Lived, lived_at}
use Rattle.op_linear.specs.Linearizable.{ClientCall, commands, IsResult}
use Rattle.op_linear.specs.Histories.{call_key}
use Rattle.op_linear.specs.Calls.{request_of, IsRequested, IsGivenOut}

-- it was given out by this moment, to a call of that client and number that a node has read at this
-- connection
pub record MayReturn (members spares observers : List ℕ) (faulted : ℕ → ℕ) (trace : List Happened) (k : ℕ)
    (l : Lived) (conn : ℕ) (r : ClientReply) (a : Answer) : Type 0 where
  pub call : ClientCall
  pub asked : WasAsked l.deeds conn (request_of call)
  pub key : call_key call ≡ (r.client, r.seq)
  pub given : IsGivenOut members spares observers faulted trace k call a

-- so may each result that is read whole from the first part of what a client's connection took
abbrev pub ClientsSeeResults : List ℕ → List ℕ → List ℕ → (ℕ → ℕ) → List Happened → Type 0
ClientsSeeResults members spares observers faulted trace =
    (now later : List Happened) → trace ≡ now ++ later → (p conn : ℕ)
    → IsMember (server_ids members spares observers) p
    → let l : Lived = lived_at members observers faulted p now in IsClients conn l.deeds
    → (bytes body : List ℕ) → IsPrefix bytes (life conn l.deeds).taken → HasFrame client_head bytes [] body
    → (r : ClientReply) (a : Answer) → ReplyInRange r → r.said ≡ said.Answer a → body ≡ reply_form.text r
    → IsResult a → MayReturn members spares observers faulted trace (length now) l conn r a

-- A command is answered that it is stale only where its client has gone on: by that moment a node has read a
-- request of a higher number of it.
abbrev pub StaleIsPast : List ℕ → List ℕ → List ℕ → (ℕ → ℕ) → List Happened → Type 0
StaleIsPast members spares observers faulted trace =
    (k p : ℕ) → IsMember (server_ids members spares observers) p → (r : Reply)
    → let l : Lived = lived_at members observers faulted p (take k trace) in
    Contains (answered_in false l.first l.deeds) r → r.answer ≡ answer.Stale
    → (c : Command) × (c.client ≡ r.client) × (r.seq < c.seq)
    × IsRequested members spares observers faulted trace k (commands c)
