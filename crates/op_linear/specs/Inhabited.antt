-- There is a cluster: what is asked of nodes that serve together can be met.
use Rattle.std.specs.Prelude.{◌≡◌, ◌++◌, ◌∷◌, [], ℕ, true, false, List, Option, Some, None}
use Rattle.op_types.specs.Ranges.{IsMember}
use Rattle.op_types.specs.declared.answers.Answer.TheVariants as answer
use Rattle.op_types.specs.declared.durable.Durable.{Durable}
use Rattle.op_types.specs.declared.durable.Part.{Part}
use Rattle.op_types.specs.declared.events.Input.TheVariants as input
use Rattle.op_types.specs.declared.log.Command.{Command}
use Rattle.op_types.specs.declared.log.Entry.{Entry}
use Rattle.op_types.specs.declared.log.Entry.TheVariants as entry
use Rattle.op_types.specs.declared.log.Op.TheVariants as op
use Rattle.op_types.specs.declared.read.Read.{Read}
use Rattle.op_command.specs.declared.said.Said.TheVariants as said
use Rattle.op_serving.specs.Promise.{life}
use Rattle.op_serving.specs.Wire.{client_frame}
use Rattle.op_cluster_laws.specs.Clusters.{IsCluster}
use Rattle.op_cluster_laws.specs.Outputs.{answered_in}
use Rattle.op_cluster_laws.specs.Traces.{killed, opens, Happened, Lived, stored_in, lived_at}

-- a member alone
abbrev pub one : List ℕ
one = 1 ∷ []

-- another server, which it knows
abbrev pub spare : List ℕ
spare = 2 ∷ []

-- no disk of a node has failed before
abbrev pub none_failed : ℕ → ℕ
none_failed p = 0

-- a client asks a node that is a member alone for its status, and its connection takes the reply
abbrev pub SomeClusterAnswers : Type 0
SomeClusterAnswers =
    (trace : List Happened) × IsCluster one [] [] none_failed trace
    × ((life 7 (lived_at one [] none_failed 1 trace).deeds).taken
    ≡ client_frame (record { client = 0; seq = 0; said = said.Status [] }))

-- client 7 puts a value
abbrev pub a_put : Command
a_put = record { client = 7; seq = 1; op = op.Put (97 ∷ []) (120 ∷ []) }

-- and gets it
abbrev pub a_get : Command
a_get = record { client = 7; seq = 2; op = op.Get (97 ∷ []) }

-- client 7 reads it, and no log holds that
abbrev pub a_read : Read
a_read = record { client = 7; seq = 1; key = 97 ∷ [] }

-- the configuration of a part, and its members
abbrev pub conf_of : Option Part → Option (ℕ × List ℕ)
conf_of None = None
conf_of (Some p) = Some (p.conf, p.members)

-- What happens at it: it is killed while it stores the put, and its next opening finds this. In the life that
-- then begins it has answered the get, at some moment, with the value that was put. In the end it stands in
-- the next configuration, whose members are other ones.
pub record GoesOn (trace : List Happened) : Type 0 where
  pub before : List Happened
  pub since : List Happened
  pub found : Durable
  pub crash : trace
      ≡ before ++ record { pid = 1; event = killed ((7 ∷ [], input.Commands (a_put ∷ [])) ∷ []) }
      ∷ record { pid = 1; event = opens found 0 } ∷ since
  pub now : List Happened
  pub later : List Happened
  pub split : trace ≡ now ++ later
  pub gets : let l : Lived = lived_at one [] none_failed 1 now in answered_in false l.first l.deeds
      ≡ record { client = 7; seq = 2; answer = answer.Value (120 ∷ []) } ∷ []
  pub part : let l : Lived = lived_at one [] none_failed 1 trace in
      conf_of (stored_in l).durable.part ≡ Some (2, one ++ spare)

-- such a cluster there is
abbrev pub SomeClusterGoesOn : Type 0
SomeClusterGoesOn = (trace : List Happened) × IsCluster one spare [] none_failed trace × GoesOn trace

-- two members
abbrev pub two : List ℕ
two = 1 ∷ 2 ∷ []

-- the log of a part
abbrev pub log_of : Option Part → List Entry
log_of None = []
log_of (Some p) = p.tail.items

-- the log that one of two members stores
abbrev pub held_by : ℕ → List Happened → List Entry
held_by p trace = log_of (stored_in (lived_at two [] none_failed p trace)).durable.part

-- Two members exchange messages, until both hold the put, and member 1, which leads, has answered it, and a
-- read with the value that was put.
pub record Exchanges (trace : List Happened) : Type 0 where
  pub held : (p : ℕ) → IsMember two p → held_by p trace ≡ entry.Command a_put ∷ []
  pub put : let l : Lived = lived_at two [] none_failed 1 trace in answered_in false l.first l.deeds
      ≡ record { client = 7; seq = 1; answer = answer.Done } ∷ []
  pub read : let l : Lived = lived_at two [] none_failed 1 trace in answered_in true l.first l.deeds
      ≡ record { client = 7; seq = 1; answer = answer.Value (120 ∷ []) } ∷ []

-- such a cluster there is
abbrev pub SomeClusterReads : Type 0
SomeClusterReads = (trace : List Happened) × IsCluster two [] [] none_failed trace × Exchanges trace
