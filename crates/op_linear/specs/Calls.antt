-- What the clients of a cluster call and are answered is linearizable, where they don't forget each other.
use Rattle.std.specs.Prelude.{◌≡◌, ◌≤◌, ℕ, List, take, Contains}
use Rattle.op_types.specs.Ranges.{IsMember}
use Rattle.op_types.specs.declared.answers.Answer.{Answer}
use Rattle.op_types.specs.declared.answers.Reply.{Reply}
use Rattle.op_types.specs.declared.events.Request.{Request}
use Rattle.op_types.specs.declared.events.Request.TheVariants as request
use Rattle.op_runs.specs.Possible.{server_ids}
use Rattle.op_cluster_laws.specs.Currency.{WasAskedOf}
use Rattle.op_cluster_laws.specs.Outputs.{answered_in}
use Rattle.op_cluster_laws.specs.Traces.{Happened, Lived, lived_at}
use Rattle.op_cluster_laws.specs.Worlds.{OfClusters}
use Rattle.op_linear.specs.Linearizable.{ClientCall, commands, reads, IsResult, History, Linearizable}
use Rattle.op_linear.specs.Forgetting.{ForgetsCaller, NoneLets}
use Rattle.op_linear.specs.Histories.{call_key, is_read_call, IsHistory}

-- what a client sends for a call, once or several times, to any nodes
abbrev pub request_of : ClientCall → Request
request_of (commands c) = request.Command c
request_of (reads r) = request.Read r

-- by the moment behind the first k things that happened, a node has read a request for it in one of its lives
abbrev pub IsRequested : List ℕ → List ℕ → List ℕ → (ℕ → ℕ) → List Happened → ℕ → ClientCall → Type 0
IsRequested members spares observers faulted trace k x =
    WasAskedOf members spares observers faulted (take k trace) (request_of x)

-- by then a node has given out this result to it in one of its lives
pub record IsGivenOut (members spares observers : List ℕ) (faulted : ℕ → ℕ) (trace : List Happened)
    (k : ℕ) (x : ClientCall) (a : Answer) : Type 0 where
  pub moment : ℕ
  pub by_then : moment ≤ k
  pub pid : ℕ
  pub member : IsMember (server_ids members spares observers) pid
  pub reply : Reply
  pub given : let l : Lived = lived_at members observers faulted pid (take moment trace) in
      Contains (answered_in (is_read_call x) l.first l.deeds) reply
  pub key : (reply.client, reply.seq) ≡ call_key x
  pub is : reply.answer ≡ a
  pub result : IsResult a

-- these are calls and returns of a cluster's clients
abbrev pub IsClientHistory : List ℕ → List ℕ → List ℕ → (ℕ → ℕ) → List Happened → History → Type 0
IsClientHistory members spares observers faulted trace h =
    IsHistory (IsRequested members spares observers faulted trace)
    (IsGivenOut members spares observers faulted trace) h

-- each history of a cluster's clients in which no client forgets another is linearizable
abbrev pub ClustersAreLinearizable : Type 0
ClustersAreLinearizable = OfClusters (λ members spares observers faulted trace.
    (h : History) → IsClientHistory members spares observers faulted trace h → NoneLets ForgetsCaller h
    → Linearizable h)
