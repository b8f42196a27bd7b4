-- A node over its disks, as it is served.
use Rattle.std.specs.Prelude.{◌-◌, ℕ, List, [], length, take, Option, Some, None, Result, Ok, Err}
use Rattle.op_types.specs.Ranges.{IsPid}
use Rattle.op_types.specs.declared.messages.Msg.{Msg}
use Rattle.op_outside.specs.Disks.{DiskState}
use Rattle.op_runs.specs.declared.summary.NodeLine.{NodeLine}
use Rattle.op_runs.specs.declared.summary.Running.TheVariants as running
use Rattle.op_runs.specs.Summary.{stands_at, joining_conf}
use Rattle.op_runs.specs.World.{Kind, Votes, Observes}
use Rattle.op_text.specs.Nodes.{node_text}
use Rattle.op_protocol.specs.State.{State}
use Rattle.op_store.specs.Failing.{faults}
use Rattle.op_store.specs.Stores.{disks_of}
use Rattle.op_store.specs.declared.fail.StoreFail.{StoreFail}
use Rattle.op_store.specs.declared.fail.StoreFail.TheVariants as store_fails
use Rattle.op_bounds.specs.States.{StateInRange, ObserverStateInRange}
use Rattle.op_node.specs.Nodes.{NodeState, node_of, IsSoundNode}
use Rattle.op_node.specs.declared.node.Node.{Node}
use Rattle.op_node.specs.declared.fail.StepFail.{StepFail as NodeFail}
use Rattle.op_node.specs.declared.fail.StepFail.TheVariants as node_fails
use Rattle.op_types.specs.declared.given.Given.{Given}
use Rattle.op_serving.specs.declared.node.StepFail.{StepFail}
use Rattle.op_serving.specs.declared.node.StepFail.TheVariants as fails
use Rattle.op_serving.specs.Cores.{Standing, Failure, forgotten}
use Rattle.op_core.specs.declared.place.Place.{Place}
use Rattle.op_core.specs.declared.node_core.NodeCore.{NodeCore}

-- what it shows if a disk failed, with this count: where it stood before
abbrev pub shows : ℕ → Place → Failure
shows count p = record { count = count; at = p.at; joining = p.joining }

-- a node in this state of which no disk failed, or one did: then nothing that it keeps in memory counts
abbrev pub standing_by : Option ℕ → Kind → ℕ → State → Place → ℕ → Standing
standing_by None kind me s p k = record { kind = kind; me = me; state = s; failed = None; faults = k }
standing_by (Some count) kind me s p k =
    record { kind = kind; me = me; state = forgotten me; failed = Some (shows count p); faults = k }

-- a node's state, where it stood before a disk failed, and the count of faults of its disks
abbrev pub standing_at : NodeState → Place → ℕ → Standing
standing_at n p k = standing_by n.failed n.kind n.me n.state p k

abbrev pub standing_of : {D : Type 0} → (D → DiskState) → NodeCore D → Standing
standing_of state c = standing_at (node_of c.node) c.stood (faults (disks_of state c.node.store))

-- where a node in this state stands
abbrev pub place_at : State → Place
place_at s = record {
  at = stands_at s.durable.part s.durable.closed;
  joining = joining_conf s.durable.joining;
}

-- what a step did
abbrev pub handed : Result Given NodeFail → Result Given StepFail
handed (Ok g) = Ok g
handed (Err (node_fails.DiskFail count)) = Err (fails.DiskFail count)
handed (Err node_fails.NoMemory) = Err fails.NoMemory

-- what an opening of a node that failed did: a newer version is damage, too, to a node that runs
abbrev pub handed_again : Result (List (ℕ × Msg)) StoreFail → Result Given StepFail
handed_again (Ok sends) = Ok (record { sends = sends; replies = []; read_replies = []; outcome = None })
handed_again (Err (store_fails.DiskFault count)) = Err (fails.DiskFail count)
handed_again (Err (store_fails.Damaged area at)) = Err fails.Damaged
handed_again (Err (store_fails.NewerVersion area version)) = Err fails.Damaged
handed_again (Err store_fails.NoMemory) = Err fails.NoMemory

-- ---- where it stands

-- the report of a node that is up, and of one that failed
abbrev pub up_line : Standing → NodeLine
up_line n = record {
  pid = n.me;
  at = stands_at n.state.durable.part n.state.durable.closed;
  joining = joining_conf n.state.durable.joining;
  running = running.Up;
}

abbrev pub failed_line : ℕ → Failure → NodeLine
failed_line me f = record { pid = me; at = f.at; joining = f.joining; running = running.Failed }

abbrev pub standing_line : Standing → NodeLine
standing_line n = elim n.failed [ None ↦ up_line n | Some f ↦ failed_line n.me f ]

-- the line of a report, without its end
abbrev pub without_last : List ℕ → List ℕ
without_last bytes = take (length bytes - 1) bytes

unfoldable pub line_text : NodeLine → List ℕ
line_text x = without_last (node_text x)

-- where a node stands, as a client is told
abbrev pub status_line : Standing → List ℕ
status_line n = line_text (standing_line n)

-- ---- what is served

-- the state of a node of this kind is in range
abbrev pub StateFits : Kind → State → Type 0
StateFits Votes s = StateInRange IsPid s
StateFits Observes s = ObserverStateInRange IsPid s

-- A node that can be served: it is a server's,
-- what it keeps in memory is of what it has stored, and all is in range.
pub record IsServable {D : Type 0} (n : Node D) : Type 0 where
  pub me : IsPid (node_of n).me
  pub sound : IsSoundNode n
  pub range : StateFits (node_of n).kind (node_of n).state
