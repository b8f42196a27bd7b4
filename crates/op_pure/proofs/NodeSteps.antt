-- A step of a node, which votes or observes: what it needs, and the world after it.
use Rattle.std.proofs.Common.{◌≡◌, ℕ, Bool, List, [], ◌++◌, map, Option, refl, sym, ap, subst, ◌∙◌, inl}
use Rattle.op_types.specs.Changes.{Applies, durable_after}
use Rattle.op_types.specs.Ranges.{IsMember}
use Rattle.op_types.specs.declared.answers.Outcome.{Outcome}
use Rattle.op_types.specs.declared.answers.Reply.{Reply}
use Rattle.op_types.specs.declared.changes.Change.{Change}
use Rattle.op_types.specs.declared.durable.Durable.{Durable}
use Rattle.op_types.specs.declared.events.Input.{Input}
use Rattle.op_types.specs.declared.given.Given.{Given}
use Rattle.op_types.specs.declared.messages.Msg.{Msg}
use Rattle.op_record.specs.Ranges.{BatchInRange}
use Rattle.op_protocol.specs.State.{State, Planned, state_after}
use Rattle.op_runs.specs.World.{Kind, Votes, Observes, World, Node, NodeStatus, Up, Down, Failed, Fate, Done, Stopped, Faulted, Steps, plan_as, failed_outcome, stored_as, outcome_lines, answer_line, lines_of, world_by_fate_as, world_by_status_as, world_with_as}
use Rattle.op_runs.specs.declared.summary.Line.{Line}
use Rattle.op_runs.specs.declared.summary.Line.TheVariants as said
use Rattle.op_bounds.specs.Messages.{AreIds, InputInRange}
use Rattle.op_bounds.proofs.Observing.{observer_steps_stay}
use Rattle.op_bounds.proofs.Steps.{steps_stay}
use Rattle.op_server.specs.Seats as seats
use Rattle.op_server.specs.Seats.{me_of, state_of, planned_at, IsSame, Admits, Adopts}
use Rattle.op_server.specs.declared.seat.Seat.{Seat}
use Rattle.op_executions.specs.Servers.{ShowsNode, CanDo, ServerInRange}
use Rattle.op_executions.proofs.NodeDone.{becomes, quietly_done, status_done}
use Rattle.op_pure.specs.Nodes.{HasDone, SeatKept, kind_of, node_of, pure_nodes, up_node}
use Rattle.op_pure.specs.declared.node.PureNode.{PureNode}
use Rattle.op_pure.specs.declared.node.Status.TheVariants as status

-- ---- what a step needs

-- what a step is to store is in range, and applies
record StepFits (d : Durable) (p : Planned) : Type 0 where
  pub batch : BatchInRange p.batch
  pub applies : Applies d p.batch

-- so it does from an input in range, at a server in range
fits_as : (k : Kind) (ids : List ℕ) → AreIds (IsMember ids) → (n : Node) → ServerInRange ids k n → (x : Input) → InputInRange (IsMember ids) x → StepFits n.state.durable (plan_as k n.pid n.state x)
fits_as Votes ids are n range x fit = let r = steps_stay (IsMember ids) are n.pid range.pid n.state range.state x fit in record { batch = r.batch; applies = r.applies }
fits_as Observes ids are n range x fit = let r = observer_steps_stay (IsMember ids) are n.pid n.state (range.range).state x fit in record { batch = r.batch; applies = r.applies }

-- ---- the plan

-- the step in the state that is shown
plan_shown : (o : PureNode) (c : Seat) (x : Input) (n : Node) → SeatKept (kind_of o) o.pid c → ShowsNode pure_nodes (up_node o c) n → plan_as (kind_of o) n.pid n.state x ≡ planned_at c x
plan_shown o c x n kept shown =
    ap (λ (p : ℕ). plan_as (kind_of o) p n.state x) (shown.pid ∙ sym kept.me)
    ∙ ap (λ (s : State). plan_as (kind_of o) (me_of c) s x) shown.state.0
    ∙ ap (λ (k : Kind). plan_as k (me_of c) (state_of c) x) (sym kept.kind_is)

-- and in the same one
pub plan_again : (c e : Seat) (x : Input) → IsSame c e → planned_at c x ≡ planned_at e x
plan_again c e x same =
    ap (λ (k : Kind). plan_as k (me_of c) (state_of c) x) (sym same.kind)
    ∙ ap (λ (p : ℕ). plan_as (seats.kind_of e) p (state_of c) x) (sym same.me)
    ∙ ap (λ (s : State). plan_as (seats.kind_of e) (me_of e) s x) (sym same.state)

-- the step of a node that is up fits
step_fits : (o : PureNode) (c : Seat) (x : Input) → CanDo pure_nodes (up_node o c) (Steps x) → StepFits (state_of c).durable (planned_at c x)
step_fits o c x can =
    let n : Node = can.node in
    subst (λ (p : Planned). StepFits (state_of c).durable p) (plan_shown o c x n can.kept can.shown)
    (subst (λ (s : State). StepFits s.durable (plan_as (kind_of o) n.pid n.state x)) can.shown.state.0 (fits_as (kind_of o) can.ids can.are_ids n can.range x can.doing))

pub admits : (o : PureNode) (c : Seat) (x : Input) → CanDo pure_nodes (up_node o c) (Steps x) → Admits c x
admits o c x can = record { sound = can.kept.sound; range = (step_fits o c x can).batch }

-- the same node goes on
kept_on : (o : PureNode) (c e : Seat) → SeatKept (kind_of o) o.pid c → IsSame c e → SeatKept (kind_of o) o.pid e
kept_on o c e kept same = record { kind_is = same.kind ∙ kept.kind_is; me = same.me ∙ kept.me; sound = same.sound }

-- ---- a step in which the node stops or a disk fails

module _ (o : PureNode) (c e : Seat) (x : Input) (batch : List Change) (can : CanDo pure_nodes (up_node o c) (Steps x)) (same : IsSame c e) (is : batch ≡ (planned_at c x).batch) where
  abbrev kind : Kind
  kind = kind_of o

  -- what the step was to store
  to_store : (n : Node) → ShowsNode pure_nodes (up_node o c) n → stored_as kind n x ≡ durable_after (state_of e).durable batch
  to_store n shown =
      ap (λ (d : Durable). durable_after d (plan_as kind n.pid n.state x).batch) (ap (λ (s : State). s.durable) (shown.state.0 ∙ sym same.state))
      ∙ ap (λ (b : List Change). durable_after (state_of e).durable b) (ap (λ (q : Planned). q.batch) (plan_shown o c x n can.kept shown) ∙ sym is)

  applies : Applies (state_of e).durable batch
  applies = subst (λ (s : State). Applies s.durable batch) (sym same.state) (subst (λ (b : List Change). Applies (state_of c).durable b) (sym is) (step_fits o c x can).applies)

  pub stopped_in_step : (finds_after : Bool) (line : ℕ) → HasDone (up_node o c) (Steps x) Stopped finds_after line (node_of o (status.Down (state_of e).durable batch)) [] []
  stopped_in_step finds_after line = record {
    after = λ n shown. (
      record n { status = Down (stored_as kind n x) },
      record { pid = shown.pid; state = (ap (λ (s : State). s.durable) (shown.state.0 ∙ sym same.state), ap (λ (d : Durable). Down d) (to_store n shown)) },
      quietly_done kind n (Steps x) Stopped finds_after line Up shown.state.1 (Down (stored_as kind n x)) (λ w h f b. ap (λ (fate : Fate). world_by_fate_as kind fate h.event.line w n x) f),
    );
    pid = refl;
    observes = refl;
    kept = applies;
  }

  pub failed_in_step : (count line : ℕ) (finds_after : Bool) → HasDone (up_node o c) (Steps x) (Faulted count) finds_after line (node_of o (status.Failed e count batch)) [] (outcome_lines line (failed_outcome count x))
  failed_in_step count line finds_after = record {
    after = λ n shown. (
      record n { status = Failed count (stored_as kind n x) },
      record { pid = shown.pid; state = (shown.state.0 ∙ sym same.state, ap (λ (d : Durable). Failed count d) (to_store n shown)) },
      status_done kind n (Steps x) (Faulted count) finds_after line Up shown.state.1 (Failed count (stored_as kind n x)) (outcome_lines line (failed_outcome count x))
          (λ w h f b at. ap (λ (fate : Fate). world_by_fate_as kind fate h.event.line w n x) f
          ∙ ap (λ (l : ℕ). let v : World = world_with_as kind w (record n { status = Failed count (stored_as kind n x) }) in let z : World = record v { lines = v.lines ++ outcome_lines l (failed_outcome count x) } in z) at),
    );
    pid = refl;
    observes = refl;
    kept = (kept_on o c e can.kept same, applies);
  }

-- ---- a step that is done

abbrev pub told_by : ℕ → ℕ → Option Outcome → List Reply → List Reply → List Line
told_by pid line o replies reads =
    outcome_lines line o ++ map (λ r. answer_line pid r.client r.seq r.answer) replies ++ map (λ r. said.Read pid r.client r.seq r.answer) reads

pub did_step : (o : PureNode) (line : ℕ) (c e f : Seat) (x : Input) (given : Given) (told : List Line) → CanDo pure_nodes (up_node o c) (Steps x) → IsSame c e → Adopts e (planned_at e x) f given
    → told ≡ told_by o.pid line given.outcome given.replies given.read_replies
    → (finds_after : Bool) → HasDone (up_node o c) (Steps x) Done finds_after line (up_node o f) given.sends told
did_step o line c e f x given told can same adopts told_is finds_after = record {
  after = λ n shown.
      let k : Kind = kind_of o in
      let p : Planned = plan_as k n.pid n.state x in
      let q : Planned = planned_at e x in
      let y : Node = record n { state = state_after n.state p } in
      let planned : p ≡ q = plan_shown o c x n can.kept shown ∙ plan_again c e x same in
      let state : state_after n.state p ≡ state_of f =
      ap (λ (s : State). state_after s p) (shown.state.0 ∙ sym same.state) ∙ ap (λ (r : Planned). state_after (state_of e) r) planned ∙ sym adopts.state in (
        y,
        record { pid = shown.pid; state = (state, shown.state.1) },
        record {
          pid = refl;
          stored = inl shown.state.1;
          world = λ w h fate finds at there.
              let lines : lines_of h.event.line n.pid p ≡ told =
              ap (λ (i : ℕ). told_by n.pid i p.outcome p.replies p.read_replies) at
              ∙ ap (λ (i : ℕ). told_by i line p.outcome p.replies p.read_replies) shown.pid
              ∙ ap (λ (r : Planned). told_by o.pid line r.outcome r.replies r.read_replies) planned
              ∙ ap (λ (z : Option Outcome). told_by o.pid line z q.replies q.read_replies) (sym adopts.given.outcome)
              ∙ ap (λ (rs : List Reply). told_by o.pid line given.outcome rs q.read_replies) (sym adopts.given.replies)
              ∙ ap (λ (rs : List Reply). told_by o.pid line given.outcome given.replies rs) (sym adopts.given.read_replies)
              ∙ sym told_is in
              ap (λ (st : NodeStatus). world_by_status_as k st (Steps x) h w n) shown.state.1
              ∙ ap (λ (g : Fate). world_by_fate_as k g h.event.line w n x) fate
              ∙ ap (λ (ls : List Line). becomes k w y p.sends ls) lines
              ∙ ap (λ (ss : List (ℕ × Msg)). becomes k w y ss told) (ap (λ (r : Planned). r.sends) planned ∙ sym adopts.given.sends);
        },
      );
  pid = refl;
  observes = refl;
  kept = record { kind_is = adopts.kind ∙ same.kind ∙ can.kept.kind_is; me = adopts.me ∙ same.me ∙ can.kept.me; sound = adopts.sound };
}
