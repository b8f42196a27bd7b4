-- A world of nodes: what happens to them, one event after the other.
use Rattle.std.specs.Prelude.{◌==◌, ℕ, nat_eq, nat_lt, Bool, false, List, [], ◌∷◌, ◌++◌, map, fold, Option, Some, None, slice_get, if◌then◌else◌}
use Rattle.std.specs.Set.{is_member}
use Rattle.std.specs.BTreeSet.{insert_key}
use Rattle.std.specs.Ordering.{nat_cmp}
use Rattle.op_types.specs.Changes.{empty_durable, new_part, durable_after}
use Rattle.op_types.specs.declared.durable.Part.{Part}
use Rattle.op_types.specs.declared.durable.Durable.{Durable}
use Rattle.op_runs.specs.declared.events.What.{What}
use Rattle.op_runs.specs.declared.events.What.TheVariants as what
use Rattle.op_runs.specs.declared.events.Event.{Event}
use Rattle.op_types.specs.declared.events.Input.{Input}
use Rattle.op_types.specs.declared.events.Input.TheVariants as input
use Rattle.op_types.specs.declared.answers.Answer.{Answer}
use Rattle.op_types.specs.declared.answers.Answer.TheVariants as answer
use Rattle.op_types.specs.declared.answers.Outcome.{Outcome}
use Rattle.op_types.specs.declared.answers.Outcome.TheVariants as outcome
use Rattle.op_types.specs.declared.answers.Refusal.TheVariants as refusal
use Rattle.op_runs.specs.declared.summary.Line.{Line}
use Rattle.op_runs.specs.declared.summary.Line.TheVariants as line
use Rattle.op_spec.specs.Service.{Pairs, new_service, base_bytes}
use Rattle.op_types.specs.declared.messages.Msg.{Msg}
use Rattle.op_protocol.specs.State.{State, Planned, state_after}
use Rattle.op_protocol.specs.Rows.{step_plan}
use Rattle.op_protocol.specs.Watching.{watch_plan}
use Rattle.op_protocol.specs.Starting.{first_volatile, state_after_restart, sends_after_restart}

-- How a node runs. One that stopped is down; one of which a disk failed has failed, and keeps the count of
-- its disks' faults. The next opening of either finds what was stored before the step in which that came, or
-- what this was to store.
pub data NodeStatus : Type 0 where
  Up : NodeStatus
  Down : (after : Durable) → NodeStatus
  Failed : (count : ℕ) → (after : Durable) → NodeStatus

-- a message, from one node to another
pub record Sent : Type 0 where
  pub from : ℕ
  pub to : ℕ
  pub message : Msg

-- whether a server votes, or only observes
pub data Kind : Type 0 where
  Votes : Kind
  Observes : Kind

-- a server, its state, and how it runs
pub record Node : Type 0 where
  pub pid : ℕ
  pub state : State
  pub status : NodeStatus

-- all nodes, all messages, and all that was told
pub record World : Type 0 where
  pub nodes : List Node  -- rising by id
  pub messages : List Sent  -- every message that was ever sent, by number
  pub lines : List Line  -- what the events gave, to be reported
  pub observers : List Node  -- which never vote; rising by id, and none of them among the nodes
  pub members : List ℕ  -- of configuration 1

-- What becomes of an event's step, or of an opening: it is done; or the node stops inside it, and nothing is
-- given out; or a disk fails inside it, and this is the count of its disks' faults then. Any count may come.
pub data Fate : Type 0 where
  Done : Fate
  Stopped : Fate
  Faulted : (count : ℕ) → Fate

-- an event, what becomes of its step, and which state an opening finds
pub record Happening : Type 0 where
  pub event : Event
  pub fate : Fate
  pub finds_after : Bool  -- what the step in which the node stopped or failed was to store

-- ---- the start

-- a member of configuration 1 that has stored nothing yet
abbrev pub first_durable : List ℕ → Durable
first_durable members = record empty_durable { part = Some (new_part 1 members (base_bytes new_service)) }

-- a node at its start; a spare has no part
abbrev pub durable_at_start : List ℕ → ℕ → Durable
durable_at_start members pid = if is_member nat_eq members pid then first_durable members else empty_durable

-- a node at its start, with all that it keeps
abbrev pub first_node : List ℕ → ℕ → Node
first_node members pid =
    record {
      pid = pid;
      state = record {
        durable = durable_at_start members pid;
        volatile = first_volatile pid;
        service = new_service;
        waiting = [];
        reads = None;
      };
      status = Up;
    }

-- an observer at its start has an empty part of configuration 1
abbrev pub first_observer : List ℕ → ℕ → Node
first_observer members pid =
    record {
      pid = pid;
      state = record {
        durable = first_durable members;
        volatile = first_volatile pid;
        service = new_service;
        waiting = [];
        reads = None;
      };
      status = Up;
    }

-- all nodes, rising by id: the members of configuration 1, and the spares
abbrev pub node_ids : List ℕ → List ℕ → List ℕ
node_ids members spares = fold (insert_key nat_cmp) members spares

-- all nodes at their start
abbrev pub first_world : List ℕ → List ℕ → World
first_world members spares =
    record {
      nodes = map (first_node members) (node_ids members spares);
      messages = [];
      lines = [];
      observers = [];
      members = members;
    }

-- ---- events

-- what a node tells: the pairs of its service, or its ballots
pub data Told : Type 0 where
  ThePairs : Told
  TheBallots : Told

-- what an event does at a node: a step of it, a stop between two steps, an opening, or it tells something
pub data Doing : Type 0 where
  Steps : (x : Input) → Doing
  Stops : Doing
  Opens : Doing
  Tells : (told : Told) → Doing

-- what is done, and at which node
pub record Deed : Type 0 where
  pub pid : ℕ
  pub doing : Doing

-- a message is delivered to its addressee; one that wasn't sent is not
abbrev pub delivery : Option Sent → Option Deed
delivery None = None
delivery (Some m) = Some (record { pid = m.to; doing = Steps (input.Deliver m.from m.message) })

-- what an event does, where these messages were sent; a stop or a failure in a call of a disk awaits the
-- node's next step or opening, and does nothing before it
abbrev pub deed_of : List Sent → What → Option Deed
deed_of messages (what.Tick p) = Some (record { pid = p; doing = Steps input.Tick })
deed_of messages (what.Commands p cs) = Some (record { pid = p; doing = Steps (input.Commands cs) })
deed_of messages (what.Stop p members) = Some (record { pid = p; doing = Steps (input.Stop members) })
deed_of messages (what.Trim p) = Some (record { pid = p; doing = Steps input.TrimNow })
deed_of messages (what.Read p r) = Some (record { pid = p; doing = Steps (input.Read r) })
deed_of messages (what.Deliver i) = delivery (slice_get messages i)
deed_of messages (what.Up p q) = Some (record { pid = p; doing = Steps (input.Up q) })
deed_of messages (what.Down p q) = Some (record { pid = p; doing = Steps (input.Down q) })
deed_of messages (what.Crash p) = Some (record { pid = p; doing = Stops })
deed_of messages (what.CrashAt p call image) = None
deed_of messages (what.Fail p call) = None
deed_of messages (what.Kill p disk) = None
deed_of messages (what.Start p) = Some (record { pid = p; doing = Opens })
deed_of messages (what.Show p) = Some (record { pid = p; doing = Tells ThePairs })
deed_of messages (what.Ballots p) = Some (record { pid = p; doing = Tells TheBallots })

-- the node of this id, if there is one
abbrev pub node_at : List Node → ℕ → Option Node
node_at [] pid = None
node_at (n ∷ nodes) pid = if n.pid == pid then Some n else node_at nodes pid

-- the nodes, with this one in the place of the one of its id
abbrev pub with_node : List Node → Node → List Node
with_node [] m = []
with_node (n ∷ nodes) m = if n.pid == m.pid then m ∷ nodes else n ∷ with_node nodes m

-- messages that a node sends, each to a node
abbrev pub sent_by : ℕ → List (ℕ × Msg) → List Sent
sent_by me sends = map (λ s. record { from = me; to = s.0; message = s.1 }) sends

-- the line of an outcome, if there is one
abbrev pub outcome_lines : ℕ → Option Outcome → List Line
outcome_lines at None = []
outcome_lines at (Some o) = line.Answer at o ∷ []

-- the line of what a client is answered
abbrev pub answer_line : ℕ → ℕ → ℕ → Answer → Line
answer_line pid client seq answer.Done = line.Reply pid client seq answer.Done
answer_line pid client seq (answer.Value value) = line.Reply pid client seq (answer.Value value)
answer_line pid client seq answer.Absent = line.Reply pid client seq answer.Absent
answer_line pid client seq answer.Stale = line.Reply pid client seq answer.Stale
answer_line pid client seq (answer.Dropped cause) = line.Dropped pid client seq cause

-- what a step gives to be reported
abbrev pub lines_of : ℕ → ℕ → Planned → List Line
lines_of at pid p =
    outcome_lines at p.outcome ++ map (λ r. answer_line pid r.client r.seq r.answer) p.replies
    ++ map (λ r. line.Read pid r.client r.seq r.answer) p.read_replies

-- the pairs of a node's service, rising by key
abbrev pub pair_lines : ℕ → Pairs → List Line
pair_lines pid pairs = map (λ x. line.Pair pid x.0 x.1) pairs

-- what a node with this part tells
abbrev pub part_lines : Told → ℕ → State → Part → List Line
part_lines ThePairs pid s p = pair_lines pid s.service.pairs
part_lines TheBallots pid s p = line.Ballots pid s.volatile.own s.volatile.leader p.promised ∷ []

-- what a node tells; one without a part has nothing to tell
abbrev pub told_lines : Told → ℕ → State → Option Part → List Line
told_lines t pid s None = []
told_lines t pid s (Some p) = part_lines t pid s p

-- ---- a server moves

-- a server's step, by whether it votes
abbrev pub plan_as : Kind → ℕ → State → Input → Planned
plan_as Votes me s x = step_plan me s x
plan_as Observes me s x = watch_plan me s x

-- what it sends when it is opened again: an observer sends nothing
abbrev pub sends_as : Kind → ℕ → Durable → List (ℕ × Msg)
sends_as Votes me d = sends_after_restart me d
sends_as Observes me d = []

-- the world with this server in the place of the one of its id and kind
abbrev pub world_with_as : Kind → World → Node → World
world_with_as Votes w n = record w { nodes = with_node w.nodes n }
world_with_as Observes w n = record w { observers = with_node w.observers n }

-- with more messages and lines
abbrev pub world_telling_more : World → List Sent → List Line → World
world_telling_more w sent told = record w { messages = w.messages ++ sent; lines = w.lines ++ told }

-- the world after a server's step that is done
abbrev pub world_stepped_as : Kind → ℕ → World → Node → Planned → World
world_stepped_as k at w n p =
    world_telling_more (world_with_as k w (record n { state = state_after n.state p }))
    (sent_by n.pid p.sends) (lines_of at n.pid p)

-- what is answered where disks have failed so often: proposals, wishes to trim and reads are refused
abbrev pub failed_outcome : ℕ → Input → Option Outcome
failed_outcome count (input.Commands cs) = Some (outcome.Refused (refusal.StorageFailed count))
failed_outcome count (input.Stop members) = Some (outcome.Refused (refusal.StorageFailed count))
failed_outcome count input.TrimNow = Some (outcome.Refused (refusal.StorageFailed count))
failed_outcome count (input.Read r) = Some (outcome.Refused (refusal.StorageFailed count))
failed_outcome count _ = None

-- the world after an input that is answered so, and does nothing else
abbrev pub world_refusing : ℕ → ℕ → World → Input → World
world_refusing at count w x = record w { lines = w.lines ++ outcome_lines at (failed_outcome count x) }

-- what a server's step is to store
abbrev pub stored_as : Kind → Node → Input → Durable
stored_as k n x = durable_after n.state.durable (plan_as k n.pid n.state x).batch

-- the world after a server's step, by its fate
abbrev pub world_by_fate_as : Kind → Fate → ℕ → World → Node → Input → World
world_by_fate_as k Done at w n x = world_stepped_as k at w n (plan_as k n.pid n.state x)
world_by_fate_as k Stopped at w n x = world_with_as k w (record n { status = Down (stored_as k n x) })
world_by_fate_as k (Faulted count) at w n x =
    world_refusing at count (world_with_as k w (record n { status = Failed count (stored_as k n x) })) x

-- the world after a server told something
abbrev pub world_telling : Told → World → Node → World
world_telling t w n = record w { lines = w.lines ++ told_lines t n.pid n.state n.state.durable.part }

-- what happens at a server that is up, where an opening does nothing
abbrev pub world_if_up_as : Kind → Doing → Fate → ℕ → World → Node → World
world_if_up_as k (Steps x) f at w n = world_by_fate_as k f at w n x
world_if_up_as k Stops f at w n = world_with_as k w (record n { status = Down n.state.durable })
world_if_up_as k Opens f at w n = w
world_if_up_as k (Tells t) f at w n = world_telling t w n

-- the world in which a server is opened again, in this state
abbrev pub world_opened_as : Kind → World → Node → State → World
world_opened_as k w n s =
    record (world_with_as k w (record n { state = s; status = Up }))
    { messages = w.messages ++ sent_by n.pid (sends_as k n.pid s.durable) }

-- the opening of a server that is down: unless it is done the server stays down, and waiting clients are lost
abbrev pub world_opening_as : Kind → Fate → World → Node → Durable → World
world_opening_as k Done w n found = world_opened_as k w n (state_after_restart n.pid found)
world_opening_as k Stopped w n found = w
world_opening_as k (Faulted count) w n found = w

-- what happens at a server that is down: only an opening has an effect
abbrev pub world_if_down_as : Kind → Doing → Fate → Bool → Durable → World → Node → World
world_if_down_as k (Steps x) f finds_after after w n = w
world_if_down_as k Stops f finds_after after w n = w
world_if_down_as k Opens f finds_after after w n =
    world_opening_as k f w n (if finds_after then after else n.state.durable)
world_if_down_as k (Tells t) f finds_after after w n = w

-- a server that failed is opened again, and finds this: its clients wait still, and its reads are lost
abbrev pub state_after_reopening : ℕ → State → Durable → State
state_after_reopening me s found = record (state_after_restart me found) { waiting = s.waiting }

-- the opening of a server that failed: where it isn't done, the next one finds what this one could have found
abbrev pub world_reopening_as : Kind → Fate → Durable → World → Node → Durable → World
world_reopening_as k Done after w n found = world_opened_as k w n (state_after_reopening n.pid n.state found)
world_reopening_as k Stopped after w n found = world_with_as k w (record n { status = Down after })
world_reopening_as k (Faulted count) after w n found =
    world_with_as k w (record n { status = Failed count after })

-- what happens at a server that failed: it refuses what is proposed, to trim and to read, a stop takes it
-- down, and it tells its state of before
abbrev pub world_if_failed_as : Kind → Doing → Happening → ℕ → Durable → World → Node → World
world_if_failed_as k (Steps x) h count after w n = world_refusing h.event.line count w x
world_if_failed_as k Stops h count after w n = world_with_as k w (record n { status = Down after })
world_if_failed_as k Opens h count after w n =
    world_reopening_as k h.fate after w n (if h.finds_after then after else n.state.durable)
world_if_failed_as k (Tells t) h count after w n = world_telling t w n

-- what happens at a server, by how it runs
abbrev pub world_by_status_as : Kind → NodeStatus → Doing → Happening → World → Node → World
world_by_status_as k Up d h w n = world_if_up_as k d h.fate h.event.line w n
world_by_status_as k (Down after) d h w n = world_if_down_as k d h.fate h.finds_after after w n
world_by_status_as k (Failed count after) d h w n = world_if_failed_as k d h count after w n

-- ---- the same, of one that votes

abbrev pub world_with_node : World → Node → World
world_with_node w n = record w { nodes = with_node w.nodes n }

abbrev pub world_stepped : ℕ → World → Node → Planned → World
world_stepped at w n p = world_stepped_as Votes at w n p

abbrev pub stored_by : Node → Input → Durable
stored_by n x = stored_as Votes n x

abbrev pub world_by_fate : Fate → ℕ → World → Node → Input → World
world_by_fate f at w n x = world_by_fate_as Votes f at w n x

abbrev pub world_if_up : Doing → Fate → ℕ → World → Node → World
world_if_up d f at w n = world_if_up_as Votes d f at w n

abbrev pub world_opened : World → Node → State → World
world_opened w n s = world_opened_as Votes w n s

abbrev pub world_opening : Fate → World → Node → Durable → World
world_opening f w n found = world_opening_as Votes f w n found

abbrev pub world_if_down : Doing → Fate → Bool → Durable → World → Node → World
world_if_down d f finds_after after w n = world_if_down_as Votes d f finds_after after w n

abbrev pub world_reopening : Fate → Durable → World → Node → Durable → World
world_reopening f after w n found = world_reopening_as Votes f after w n found

abbrev pub world_if_failed : Doing → Happening → ℕ → Durable → World → Node → World
world_if_failed d h count after w n = world_if_failed_as Votes d h count after w n

abbrev pub world_by_status : NodeStatus → Doing → Happening → World → Node → World
world_by_status s d h w n = world_by_status_as Votes s d h w n

-- ---- at a node, or at an observer

-- servers with one more, rising by id
abbrev pub insert_node : List Node → Node → List Node
insert_node [] m = m ∷ []
insert_node (n ∷ nodes) m = if nat_lt m.pid n.pid then m ∷ n ∷ nodes else n ∷ insert_node nodes m

-- an id that no server has is opened: an observer begins
abbrev pub world_beginning : Doing → Fate → ℕ → World → World
world_beginning Opens Done pid w =
    record w { observers = insert_node w.observers (first_observer w.members pid) }
world_beginning d f pid w = w

-- what happens at an observer, or where one may begin
abbrev pub world_at_observer : Option Node → Deed → Happening → World → World
world_at_observer None x h w = world_beginning x.doing h.fate x.pid w
world_at_observer (Some n) x h w = world_by_status_as Observes n.status x.doing h w n

-- what is done at an id that no node has
abbrev pub world_observed : Option Deed → Happening → World → World
world_observed None h w = w
world_observed (Some x) h w = world_at_observer (node_at w.observers x.pid) x h w

-- what happens at a node, if there is one of this id; what happens elsewhere leaves the nodes as they are
abbrev pub world_at_node : Option Node → Doing → Happening → World → World
world_at_node None d h w =
    record (world_observed (deed_of w.messages h.event.what) h w) { nodes = w.nodes; members = w.members }
world_at_node (Some n) d h w = world_by_status n.status d h w n

-- the world after what is done at a node
abbrev pub world_with : Option Deed → Happening → World → World
world_with None h w = w
world_with (Some x) h w = world_at_node (node_at w.nodes x.pid) x.doing h w

-- the world after one happening
abbrev pub world_after : World → Happening → World
world_after w h = world_with (deed_of w.messages h.event.what) h w

-- the world after these happenings
abbrev pub run_of : World → List Happening → World
run_of w [] = w
run_of w (h ∷ hs) = run_of (world_after w h) hs

-- every step of a replay is done
abbrev pub done_event : Event → Happening
done_event e = record { event = e; fate = Done; finds_after = false }

-- the happenings of a replay
abbrev pub all_done : List Event → List Happening
all_done events = map done_event events
