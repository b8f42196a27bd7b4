-- A node that is served: its state, how often its disks have failed, what an input makes of it, what is left
-- of it where one of them failed, and its opening after that.
use Rattle.std.specs.Prelude.{◌-◌, ℕ, [], Bool, false, is_some, nat_le, Option, Some, None}
use Rattle.op_types.specs.Changes.{empty_durable}
use Rattle.op_types.specs.declared.durable.Durable.{Durable}
use Rattle.op_types.specs.declared.durable.Part.{Part}
use Rattle.op_types.specs.declared.answers.Outcome.{Outcome}
use Rattle.op_types.specs.declared.events.Input.{Input}
use Rattle.op_types.specs.declared.events.Input.TheVariants as input
use Rattle.op_protocol.specs.State.{State, Planned, state_after}
use Rattle.op_protocol.specs.Starting.{state_after_restart}
use Rattle.op_runs.specs.Summary.{stands_at, joining_conf}
use Rattle.op_runs.specs.World.{Kind, plan_as, sends_as, failed_outcome}
use Rattle.op_types.specs.declared.given.Given.{Given}

-- what a node shows of which a disk failed: with which count, and where it stood before
pub record Failure : Type 0 where
  pub count : ℕ
  pub at : Option (ℕ × ℕ × ℕ)  -- the configuration, how much of it was decided, and how much was trimmed
  pub joining : Option ℕ

-- whether it votes, whose node it is, its state in the step table, what it shows if a disk failed, and the
-- count of its disks' faults
pub record Standing : Type 0 where
  pub kind : Kind
  pub me : ℕ
  pub state : State
  pub failed : Option Failure
  pub faults : ℕ

-- what it plans for an input, by the step table
abbrev pub plan_at : Standing → Input → Planned
plan_at n x = plan_as n.kind n.me n.state x

-- what a plan gives out
abbrev pub given_of : Planned → Given
given_of p =
    record { sends = p.sends; replies = p.replies; read_replies = p.read_replies; outcome = p.outcome }

-- an outcome alone is given out
abbrev pub saying : Option Outcome → Given
saying o = record { sends = []; replies = []; read_replies = []; outcome = o }

-- a node that has failed refuses what is proposed, to trim and to read, and does nothing else
abbrev pub refused_with : ℕ → Input → Given
refused_with count x = saying (failed_outcome count x)

-- what an input gives out
unfoldable pub gives : Standing → Input → Given
gives n x = elim n.failed [ None ↦ given_of (plan_at n x) | Some f ↦ refused_with f.count x ]

-- the node after an input
unfoldable pub after_input : Standing → Input → Standing
after_input n x =
    elim n.failed
    [ None ↦ record n { state = state_after n.state (plan_at n x) } | Some f ↦ n ]

-- ---- trimming by itself

-- how many of the entries that are decided in the node's part are not trimmed
abbrev pub untrimmed_in : Option Part → ℕ
untrimmed_in None = 0
untrimmed_in (Some p) = p.decided - p.trimmed

-- so many of a node's are not: none of one that has failed, which has no part
abbrev pub untrimmed : Standing → ℕ
untrimmed n = untrimmed_in n.state.durable.part

-- a node is to trim where so many are not trimmed, or more; where no number is set it never is
abbrev pub wants_trim : Option ℕ → Standing → Bool
wants_trim None n = false
wants_trim (Some every) n = nat_le every (untrimmed n)

-- ---- a disk failed

-- what is kept in memory of a node of which a disk failed: nothing
abbrev pub forgotten : ℕ → State
forgotten me = state_after_restart me empty_durable

-- where a node stands
abbrev pub failure_at : ℕ → State → Failure
failure_at k s = record {
  count = k;
  at = stands_at s.durable.part s.durable.closed;
  joining = joining_conf s.durable.joining;
}

-- what it shows since a disk failed with this count: where it stood before the first one failed
abbrev pub shown_since : ℕ → Standing → Failure
shown_since k n = elim n.failed [ None ↦ failure_at k n.state | Some f ↦ record f { count = k } ]

-- A disk failed, and this is the count since. What it kept in memory is lost, as if it had stopped.
unfoldable pub faulted : ℕ → Standing → Standing
faulted k n = record n { state = forgotten n.me; failed = Some (shown_since k n); faults = k }

-- ---- a node that failed is opened again

-- so it is at each tick
abbrev pub reopens : Standing → Input → Bool
reopens n input.Tick = is_some n.failed
reopens n x = false

-- it takes what its disks store, and begins with that, as after a restart
unfoldable pub reopened : Durable → Standing → Standing
reopened d n = record n { state = state_after_restart n.me d; failed = None }

-- and it sends what it does after a restart
unfoldable pub given_again : Standing → Durable → Given
given_again n d =
    record { sends = sends_as n.kind n.me d; replies = []; read_replies = []; outcome = None }
