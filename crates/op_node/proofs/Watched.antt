-- A node that votes stores nothing for an observer that asks it.
use Rattle.std.proofs.Common.{◌≡◌, ℕ, ◌-◌, Bool, true, false, cond, ltb, List, [], Option, Some, None, is_some, take, length-take, ap, ◌∙◌, refl, arith}
use Rattle.std.proofs.lemmas.List.{drop_all}
use Rattle.op_types.specs.Stops.{stop_at_end}
use Rattle.op_types.specs.declared.changes.Change.{Change}
use Rattle.op_types.specs.declared.durable.Joining.{Joining}
use Rattle.op_types.specs.declared.durable.Part.{Part}
use Rattle.op_types.specs.declared.events.Input.{Input}
use Rattle.op_types.specs.declared.events.Input.TheVariants as input
use Rattle.op_types.specs.declared.log.Entry.{Entry}
use Rattle.op_types.specs.declared.messages.Body.{Body}
use Rattle.op_types.specs.declared.messages.Body.TheVariants as body
use Rattle.op_types.specs.declared.messages.Msg.{Msg}
use Rattle.op_types.specs.declared.messages.Watch.{Watch}
use Rattle.op_protocol.specs.State.{State, Planned}
use Rattle.op_protocol.specs.Parts.{part_after, decided_since}
use Rattle.op_protocol.specs.Tick.{remembering}
use Rattle.op_protocol.specs.Configurations.{latest_of, closing_part, closing}
use Rattle.op_protocol.specs.Joining.{brought_to}
use Rattle.op_protocol.specs.Watched.{watch_answers}
use Rattle.op_protocol.specs.Rows.{based_batch, brought_by, planned, step_bringing, step_plan}
use Rattle.op_runs.specs.World.{Kind, Votes, plan_as}
use Rattle.op_node.specs.Nodes.{NodeState, stores}
use Rattle.op_node.proofs.NodeSteps.{stores_nothing, stores_planned}

-- nothing is decided where a part stays
none_since : (p : Part) → decided_since p p ≡ []
none_since p =
    drop_all (p.decided - p.trimmed) (take (p.decided - p.trimmed) p.tail.items)
    (omega (arith, length-take (p.decided - p.trimmed) p.tail.items))

-- nor is a part closed
closes_nothing : (me : ℕ) (o : Option Part) (p : Planned) → p.batch ≡ [] → (closing me o p).batch ≡ []
closes_nothing me None p none = none
closes_nothing me (Some part) p none =
    ap (λ (es : List Entry).
    (cond (is_some (stop_at_end es)) (closing_part me (part_after part p.batch) p) p).batch)
    (ap (λ (b : List Change). decided_since part (part_after part b)) none ∙ none_since part) ∙ none

based_nothing : (o : Option Part) → based_batch o [] ≡ []
based_nothing None = refl
based_nothing (Some p) = refl

module _ (me : ℕ) (s : State) (q conf : ℕ) (w : Watch) where
  abbrev asked : Input
  asked = input.Deliver q (record { conf = conf; body = body.Watch w })

  -- it brings nothing of a closed list
  brings_nothing : brought_by s.durable s.volatile asked ≡ None
  brings_nothing = by (ltb conf (latest_of s.durable)) s.durable.joining
    where
      by : (b : Bool) (j : Option Joining)
          → cond b None (brought_to j s.volatile.pieces conf (body.Watch w)) ≡ None
      by true j = refl
      by false None = refl
      by false (Some j) = refl

  plans_nothing : (step_plan me s asked).batch ≡ []
  plans_nothing =
      ap (λ (o : Option (List Change)). (step_bringing me s asked o).batch) brings_nothing
      ∙ closes_nothing me s.durable.part
      (planned s s.waiting (remembering s.volatile (watch_answers s.durable q conf (body.Watch w))))
      (based_nothing s.durable.part)

-- whether it failed or not
by_count : (n : NodeState) (x : Input) (o : Option ℕ) → n.failed ≡ o
    → (plan_as n.kind n.me n.state x).batch ≡ []
    → stores n x ≡ []
by_count n x None runs none = stores_planned n x runs ∙ none
by_count n x (Some count) failed none = stores_nothing n x count failed

pub stores_no_answer : (n : NodeState) (q : ℕ) (m : Msg) (w : Watch) → n.kind ≡ Votes → m.body ≡ body.Watch w
    → stores n (input.Deliver q m) ≡ []
stores_no_answer n q m w votes is =
    by_count n (input.Deliver q m) n.failed refl
    (ap (λ (k : Kind). (plan_as k n.me n.state (input.Deliver q m)).batch) votes
    ∙ ap (λ (b : Body).
    (step_plan n.me n.state (input.Deliver q (record { conf = m.conf; body = b }))).batch) is
    ∙ plans_nothing n.me n.state q m.conf w)
