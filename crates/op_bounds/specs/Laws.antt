-- What stays in range over a step, and over a run.
use Rattle.std.specs.Prelude.{◌≤◌, ℕ, List, length, All, IfSome}
use Rattle.op_runs.specs.declared.events.What.{What}
use Rattle.op_runs.specs.declared.events.What.TheVariants as what
use Rattle.op_runs.specs.Possible.{WhatInRange, SparesInRange}
use Rattle.op_types.specs.Limits.{most_part_bytes, most_peer_body}
use Rattle.op_types.specs.declared.messages.Msg.{Msg}
use Rattle.op_msg.specs.Forms.{addressed}
use Rattle.op_msg.specs.Sizes.{carried_size}
use Rattle.op_types.specs.Ranges.{IsPid, IsMember, MembersInRange}
use Rattle.op_types.specs.Changes.{Applies}
use Rattle.op_types.specs.declared.durable.Durable.{Durable}
use Rattle.op_types.specs.declared.events.Input.{Input}
use Rattle.op_record.specs.Ranges.{BatchInRange}
use Rattle.op_protocol.specs.State.{State, Planned, state_after}
use Rattle.op_protocol.specs.Rows.{step_plan}
use Rattle.op_protocol.specs.Watching.{watch_plan}
use Rattle.op_protocol.specs.Starting.{state_after_restart, sends_after_restart}
use Rattle.op_runs.specs.World.{Sent, Node, NodeStatus, Up, Down, Failed, World, Happening, node_ids, first_world, world_after, run_of}
use Rattle.op_bounds.specs.Messages.{AreIds, MembersOf, MsgInRange, NamesConf, SendInRange, ReplyInRange, OutcomeInRange, InputInRange}
use Rattle.op_bounds.specs.States.{DurableOf, IsNamed, StateInRange, ObserverStateInRange}

-- ---- a step

-- what a step plans in this state, in range: its batch applies,
-- it sends to known ids, and leaves such a state
pub record PlanLeaving (Known : ℕ → Type 0) (Left : State → Type 0) (s : State) (p : Planned) : Type 0 where
  pub applies : Applies s.durable p.batch
  pub batch : BatchInRange p.batch
  pub sends : All (SendInRange Known) p.sends
  pub replies : All (ReplyInRange Known) p.replies
  pub read_replies : All (ReplyInRange Known) p.read_replies
  pub outcome : IfSome p.outcome (OutcomeInRange Known)
  pub after : Left (state_after s p)

-- the same, and the state after it is in range
abbrev pub PlanInRange : (ℕ → Type 0) → State → Planned → Type 0
PlanInRange Known s p = PlanLeaving Known (StateInRange Known) s p

-- the same, at an observer
abbrev pub ObserverPlanInRange : (ℕ → Type 0) → State → Planned → Type 0
ObserverPlanInRange Known s p = PlanLeaving Known (ObserverStateInRange Known) s p

-- where these ids are known, each step from a state and an input in range is in range
abbrev pub StepsStayInRange : (ℕ → Type 0) → Type 0
StepsStayInRange Known =
    AreIds Known → (me : ℕ) → Known me → (s : State) → StateInRange Known s
    → (x : Input) → InputInRange Known x
    → PlanInRange Known s (step_plan me s x)

-- and so is each step of an observer
abbrev pub ObserverStepsStayInRange : (ℕ → Type 0) → Type 0
ObserverStepsStayInRange Known =
    AreIds Known → (me : ℕ) → (s : State) → ObserverStateInRange Known s
    → (x : Input) → InputInRange Known x
    → ObserverPlanInRange Known s (watch_plan me s x)

-- ---- an opening

-- a node that is opened, and finds this: its state, and what it sends
pub record OpeningInRange (Known : ℕ → Type 0) (me : ℕ) (d : Durable) : Type 0 where
  pub state : StateInRange Known (state_after_restart me d)
  pub sends : All (SendInRange Known) (sends_after_restart me d)

-- where these ids are known, each opening that finds a durable state in range is in range
abbrev pub OpeningsStayInRange : (ℕ → Type 0) → Type 0
OpeningsStayInRange Known =
    AreIds Known → (me : ℕ) → Known me → (d : Durable) → DurableOf Known d → OpeningInRange Known me d

-- so is an observer that finds one
abbrev pub ObserverOpeningsStayInRange : (ℕ → Type 0) → Type 0
ObserverOpeningsStayInRange Known =
    AreIds Known → (me : ℕ) → (d : Durable) → DurableOf Known d
    → ObserverStateInRange Known (state_after_restart me d)

-- ---- a run

-- a message of the world: from a known id to a known id, in a configuration
pub record SentInRange (Known : ℕ → Type 0) (m : Sent) : Type 0 where
  pub from : Known m.from
  pub to : Known m.to
  pub conf : NamesConf m.message
  pub carries : carried_size m.message.body ≤ most_part_bytes
  pub message : MsgInRange Known m.message

-- what an opening of this node may find
abbrev pub FoundInRange : (ℕ → Type 0) → ℕ → Durable → Type 0
FoundInRange Known me d = DurableOf Known d × IsNamed me d

-- what the next opening of a node that is down, or has failed, may find
abbrev pub StatusInRange : (ℕ → Type 0) → ℕ → NodeStatus → Type 0
StatusInRange Known me Up = Unit {0}
StatusInRange Known me (Down after) = FoundInRange Known me after
StatusInRange Known me (Failed count after) = FoundInRange Known me after

-- a node of a known id
pub record NodeInRange (Known : ℕ → Type 0) (n : Node) : Type 0 where
  pub pid : Known n.pid
  pub state : StateInRange Known n.state
  pub named : IsNamed n.pid n.state.durable
  pub status : StatusInRange Known n.pid n.status

-- what the next opening of an observer that is down, or has failed, may find
abbrev pub ObserverStatusInRange : (ℕ → Type 0) → NodeStatus → Type 0
ObserverStatusInRange Known Up = Unit {0}
ObserverStatusInRange Known (Down after) = DurableOf Known after
ObserverStatusInRange Known (Failed count after) = DurableOf Known after

-- an observer of a known id
pub record ObserverInRange (Known : ℕ → Type 0) (n : Node) : Type 0 where
  pub pid : Known n.pid
  pub state : ObserverStateInRange Known n.state
  pub status : ObserverStatusInRange Known n.status

-- all nodes and observers, the members of the first configuration, and all messages that were ever sent
pub record WorldInRange (Known : ℕ → Type 0) (w : World) : Type 0 where
  pub nodes : All (NodeInRange Known) w.nodes
  pub observers : All (ObserverInRange Known) w.observers
  pub members : MembersOf Known w.members
  pub messages : All (SentInRange Known) w.messages

-- a stop-sign that is proposed names such ids, and who starts is such a one: it may be an observer that
-- begins
abbrev pub WhatNames : (ℕ → Type 0) → (ℕ → Type 0) → What → Type 0
WhatNames Named Starts (what.Stop p members) = All Named members
WhatNames Named Starts (what.Start p) = Starts p
WhatNames Named Starts _ = Unit {0}

-- all of them are known
abbrev pub WhatNamesKnown : (ℕ → Type 0) → What → Type 0
WhatNamesKnown Known w = WhatNames Known Known w

-- a happening whose event is in range, and names known ids
abbrev pub HappeningInRange : (ℕ → Type 0) → Happening → Type 0
HappeningInRange Known h = WhatInRange h.event.what × WhatNamesKnown Known h.event.what

-- members in range, and spares, all known
pub record StartInRange (Known : ℕ → Type 0) (members spares : List ℕ) : Type 0 where
  pub members_are : MembersOf Known members
  pub spares_are : All Known spares

-- they start in range
abbrev pub StartsAreInRange : (ℕ → Type 0) → Type 0
StartsAreInRange Known =
    AreIds Known → (members spares : List ℕ) → StartInRange Known members spares
    → WorldInRange Known (first_world members spares)

-- each happening keeps the world in range
abbrev pub HappeningsStayInRange : (ℕ → Type 0) → Type 0
HappeningsStayInRange Known =
    AreIds Known → (w : World) → WorldInRange Known w → (h : Happening) → HappeningInRange Known h
    → WorldInRange Known (world_after w h)

-- so does each run
abbrev pub RunsStayInRange : (ℕ → Type 0) → Type 0
RunsStayInRange Known =
    AreIds Known → (members spares : List ℕ) → StartInRange Known members spares
    → (happenings : List Happening) → All (HappeningInRange Known) happenings
    → WorldInRange Known (run_of (first_world members spares) happenings)

-- ---- runs of a world

-- where stop-signs name nodes of the world, and nodes alone start, all of a run is in range, and names its
-- nodes alone
abbrev pub RunsOfNodesStayInRange : Type 0
RunsOfNodesStayInRange =
    (members spares : List ℕ) → MembersInRange members → SparesInRange members spares
    → (happenings : List Happening) → All (HappeningInRange (IsMember (node_ids members spares))) happenings
    → WorldInRange (IsMember (node_ids members spares)) (run_of (first_world members spares) happenings)

-- whomever stop-signs name, and whatever observers begin, all of a run is in range
abbrev pub AllRunsStayInRange : Type 0
AllRunsStayInRange =
    (members spares : List ℕ) → MembersInRange members → SparesInRange members spares
    → (happenings : List Happening) → All (λ h. WhatInRange h.event.what) happenings
    → WorldInRange IsPid (run_of (first_world members spares) happenings)

-- ---- frames between servers

-- the body of the frame that brings this from this server to its addressee is no longer than it may be
abbrev pub FitsFrame : ℕ → ℕ × Msg → Type 0
FitsFrame me s = length (addressed.text (me, s.0, s.1)) ≤ most_peer_body

-- where these ids are known, so is that of each message which a step in range sends
abbrev pub StepsFitFrames : (ℕ → Type 0) → Type 0
StepsFitFrames Known =
    AreIds Known → (me : ℕ) → Known me → (s : State) → StateInRange Known s
    → (x : Input) → InputInRange Known x
    → All (FitsFrame me) (step_plan me s x).sends

-- and that of each which an observer sends
abbrev pub ObserverStepsFitFrames : (ℕ → Type 0) → Type 0
ObserverStepsFitFrames Known =
    AreIds Known → (me : ℕ) → Known me → (s : State) → ObserverStateInRange Known s
    → (x : Input) → InputInRange Known x
    → All (FitsFrame me) (watch_plan me s x).sends

-- and that of each which a node sends when it is opened
abbrev pub OpeningsFitFrames : (ℕ → Type 0) → Type 0
OpeningsFitFrames Known =
    AreIds Known → (me : ℕ) → Known me → (d : Durable) → DurableOf Known d
    → All (FitsFrame me) (sends_after_restart me d)

-- whomever stop-signs name, so is that of each message that is ever sent in a run
abbrev pub RunsFitFrames : Type 0
RunsFitFrames =
    (members spares : List ℕ) → MembersInRange members → SparesInRange members spares
    → (happenings : List Happening) → All (λ h. WhatInRange h.event.what) happenings
    → All (λ m. FitsFrame m.from (m.to, m.message)) (run_of (first_world members spares) happenings).messages
