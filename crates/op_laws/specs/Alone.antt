-- A node that is a majority of its configuration alone, and what comes at it.
use Rattle.std.specs.Prelude.{◌≡◌, ◌<◌, ◌≤◌, ◌+◌, ◌==◌, ◌&&◌, ℕ, Bool, true, List, [], ◌∷◌, ◌++◌, length, Option, Some, None, slice_get, if◌then◌else◌}
use Rattle.std.specs.List.{list_any}
use Rattle.op_quorum.specs.Quorums.{is_majority, passing}
use Rattle.op_types.specs.Changes.{len_of, closed_len}
use Rattle.op_types.specs.declared.durable.Closed.{Closed}
use Rattle.op_types.specs.declared.durable.Part.{Part}
use Rattle.op_types.specs.declared.log.Command.{Command}
use Rattle.op_types.specs.declared.log.Entry.{Entry}
use Rattle.op_types.specs.declared.answers.Outcome.TheVariants as outcome
use Rattle.op_runs.specs.declared.summary.Line.{Line}
use Rattle.op_runs.specs.declared.summary.Line.TheVariants as line
use Rattle.op_spec.specs.Machine.{Machine}
use Rattle.op_spec.specs.Service.{Service, service_with, answer_of, service_of}
use Rattle.op_spec.specs.Stands.{prefix_of}
use Rattle.op_protocol.specs.Configurations.{latest_of}
use Rattle.op_runs.specs.World.{Node, Up, Happening, Done, node_at, world_after}
use Rattle.op_runs.specs.Run.{Execution, first_execution, execution_with, execution_of}
use Rattle.op_laws.specs.Runs.{RunInRange}
use Rattle.op_laws.specs.Proposals.{Proposal, event_of, entries_for, IsTaken}
use Rattle.op_laws.specs.Proposals as proposed

-- the entry stands in the configuration's list at this place, which the node knows
abbrev pub IsKnownAt : Machine → ℕ → ℕ → Entry → ℕ → Type 0
IsKnownAt m conf p e place = (place < m.known p conf) × (slice_get (m.lists conf) place ≡ Some e)

-- commands or a stop-sign come at a node that is up, that is a majority of its configuration alone and
-- refuses none of them, and its step is done
pub record TakesAlone (t : Execution) (h : Happening) (proposal : Proposal) : Type 0 where
  pub node : Node
  pub is : node_at t.world.nodes node.pid ≡ Some node
  pub up : node.status ≡ Up
  pub part : Part
  pub has : node.state.durable.part ≡ Some part
  pub majority :
      is_majority (passing (λ q. q == node.pid) part.members) (length part.members) ≡ true
  pub comes : h.event.what ≡ event_of node.pid proposal
  pub free : IsTaken node proposal
  pub done : h.fate ≡ Done

-- a node has left this part with its whole list, which a stop-sign with these members ended
abbrev pub HasClosed : Part → List ℕ → Option Node → Type 0
HasClosed p members None = ⊥
HasClosed p members (Some n) =
    (l : Closed) × (n.state.durable.closed ≡ Some l) × (l.conf ≡ p.conf) × (l.next ≡ members)
    × (closed_len l ≡ len_of p + 1) × (latest_of n.state.durable ≡ p.conf + 1)

-- if it is a stop-sign, the node closes its configuration
abbrev pub ClosesBy : Proposal → Part → Option Node → Type 0
ClosesBy (proposed.Commands commands) p n = Unit {0}
ClosesBy (proposed.Stop members) p n = HasClosed p members n

-- what these entries leave, in the node's configuration
pub record DecidedAlone (t : Execution) (h : Happening) (proposal : Proposal)
    (x : TakesAlone t h proposal) : Type 0 where
  -- the list is as long as the node's log
  pub behind : len_of x.part ≡ length (t.machine.lists x.part.conf)
  -- the entries come behind it, in their order, and nothing else
  pub list :
      (execution_with t h).machine.lists x.part.conf
      ≡ t.machine.lists x.part.conf ++ entries_for x.node proposal
  -- the node knows each of them there
  pub known : (k : ℕ) (e : Entry) → slice_get (entries_for x.node proposal) k ≡ Some e
      → IsKnownAt (execution_with t h).machine x.part.conf x.node.pid e (len_of x.part + k)
  -- and no more
  pub whole :
      (execution_with t h).machine.known x.node.pid x.part.conf
      ≤ len_of x.part + length (entries_for x.node proposal)
  -- by a stop-sign it leaves its configuration
  pub closes : ClosesBy proposal x.part (node_at (world_after t.world h).nodes x.node.pid)

-- the happening itself then decides each of them
abbrev pub DecidesAlone : Execution → Happening → Type 0
DecidesAlone t h = (proposal : Proposal) (x : TakesAlone t h proposal) → DecidedAlone t h proposal x

-- so it is from whatever state a run has come to
abbrev pub LeadersDecideAlone : Type 0
LeadersDecideAlone =
    (members spares : List ℕ) (early : List Happening) (h : Happening)
    → RunInRange members spares (early ++ h ∷ [])
    → DecidesAlone (execution_of (first_execution members spares) early) h

-- ---- its clients

-- one of these commands has this one's client and number
abbrev pub is_asked : List Command → Command → Bool
is_asked commands c = list_any (λ d. d.client == c.client && d.seq == c.seq) commands

-- What a node's clients are told of these commands, one after the other, by a service that has applied all
-- that stands before them. One whose client and number have come before, among these, is applied as well, but
-- isn't answered again.
abbrev pub reply_lines : ℕ → Service → List Command → List Command → List Line
reply_lines pid s before [] = []
reply_lines pid s before (c ∷ cs) =
    (if is_asked before c then [] else line.Reply pid c.client c.seq (answer_of s c) ∷ [])
    ++ reply_lines pid (service_with s c) (c ∷ before) cs

-- what a node's clients are told of a proposal: nothing of a stop-sign
abbrev pub lines_told : ℕ → Service → Proposal → List Line
lines_told pid s (proposed.Commands commands) = reply_lines pid s [] commands
lines_told pid s (proposed.Stop members) = []

-- That very happening also answers the client of each command, by the service of all that stands before in
-- the lists. Its lines are the outcome, with the configuration and the place of the first entry, and these
-- replies. There are no others.
abbrev pub AnswersAlone : Execution → Happening → Type 0
AnswersAlone t h =
    (proposal : Proposal) (x : TakesAlone t h proposal)
    → (execution_with t h).world.lines
    ≡ t.world.lines ++ line.Answer h.event.line (outcome.Appended x.part.conf (len_of x.part))
    ∷ lines_told x.node.pid (service_of (prefix_of t.machine.lists x.part.conf (len_of x.part))) proposal

-- so it is from whatever state a run has come to
abbrev pub LeadersAnswerAlone : Type 0
LeadersAnswerAlone =
    (members spares : List ℕ) (early : List Happening) (h : Happening)
    → RunInRange members spares (early ++ h ∷ [])
    → AnswersAlone (execution_of (first_execution members spares) early) h
