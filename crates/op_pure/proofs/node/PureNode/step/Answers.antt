use Rattle.std.proofs.Common.{◌≡◌, Bool, [], Option, refl, sym, ap, subst, ◌∙◌}
use Rattle.op_runs.specs.World.{Fate, Done, Stopped, Faulted, Steps, failed_outcome, outcome_lines}
use Rattle.op_types.specs.declared.answers.Outcome.{Outcome}
use Rattle.op_executions.specs.Servers.{CanDo}
use Rattle.op_executions.specs.declared.server.Done as given
use Rattle.op_pure.specs.Happenings.{fate_of}
use Rattle.op_pure.specs.Nodes.{HasDone, IsUp, node_of, pure_nodes, up_node}
use Rattle.op_pure.specs.declared.node.PureNode.{PureNode}
use Rattle.op_pure.specs.declared.node.Status.{Status}
use Rattle.op_pure.specs.declared.node.Status.TheVariants as status
use Rattle.op_pure.proofs.NodeSteps.{admits, stopped_in_step, failed_in_step}
use Rattle.std.proofs.lemmas.Result.{IfOk-weaker}
use Rattle.op_pure.proofs.NodesDone.{as_fated, only}
use Rattle.op_pure.proofs.node.PureNode.step.Goals as goal

pub returns-in_default : goal.returns-in_default
returns-in_default c =
    let old = c.args.self.now in
    let x = Steps c.args.input in
    IfOk-weaker c.refuse.result (λ r. (fate : Fate) → (finds_after : Bool) → HasDone old x fate finds_after c.args.line old r.sends r.told) (λ r. (finds_after : Bool) → HasDone old x (fate_of c.args.fate) finds_after c.args.line old r.sends r.told)
    (λ r did finds_after. did (fate_of c.args.fate) finds_after) c.refuse.ensures

pub refuse-requires-clause-down : goal.refuse-requires-clause-down
refuse-requires-clause-down c = λ (up : IsUp c.args.self.now). c.in_default.not-Up up.0 up.1

pub step_whole-requires : goal.step_whole-requires
step_whole-requires c =
    let old = c.args.self.now in (old, subst (λ (s : Status). CanDo pure_nodes (node_of old s) (Steps c.args.input)) c.in-Up.is c.requires)

pub returns-in-Done : goal.returns-in-Done
returns-in-Done c =
    let old = c.args.self.now in
    let x = Steps c.args.input in
    let seat = c.in-Up.seat in
    let new = up_node old c.step_whole.new.seat in
    let can = subst (λ (s : Status). CanDo pure_nodes (node_of old s) x) c.in-Up.is c.requires in
    IfOk-weaker c.step_whole.result _ (λ r. (finds_after : Bool) → HasDone old x (fate_of c.args.fate) finds_after c.args.line new r.sends r.told)
    (λ r did finds_after. as_fated old (status.Up seat) x c.args.fate Done finds_after c.args.line new r.sends r.told c.in-Up.is (ap fate_of c.in-Done.is) (did old refl can finds_after)) c.step_whole.ensures

pub to_store-requires : goal.to_store-requires
to_store-requires c =
    let old = c.args.self.now in
    admits old c.in-Up.seat c.args.input (subst (λ (s : Status). CanDo pure_nodes (node_of old s) (Steps c.args.input)) c.in-Up.is c.requires)

pub to_store-requires-in-Faulted : goal.to_store-requires-in-Faulted
to_store-requires-in-Faulted c =
    let old = c.args.self.now in
    admits old c.in-Up.seat c.args.input (subst (λ (s : Status). CanDo pure_nodes (node_of old s) (Steps c.args.input)) c.in-Up.is c.requires)

pub returns-in_ok-batch-in-Stopped : goal.returns-in_ok-batch-in-Stopped
returns-in_ok-batch-in-Stopped c finds_after =
    let old = c.args.self.now in
    let x = Steps c.args.input in
    let line = c.args.line in
    let seat = c.in-Up.seat in
    let new = c.stop.new.self in
    let can = subst (λ (s : Status). CanDo pure_nodes (node_of old s) x) c.in-Up.is c.requires in
    let did = stopped_in_step old seat c.to_store.new.seat c.args.input c.in_ok-batch-in-Stopped.batch can c.to_store.ensures.same c.in_ok-batch-in-Stopped.ensures.batch finds_after line in
    only c.nothing.result old new x (fate_of c.args.fate) finds_after line [] c.nothing.ensures
    (as_fated old (status.Up seat) x c.args.fate Stopped finds_after line new [] [] c.in-Up.is (ap fate_of c.in-Stopped.is)
    (subst (λ (n : PureNode). HasDone (up_node old seat) x Stopped finds_after line n [] []) (sym c.stop.ensures) did))

pub returns-in_ok-batch-in-Faulted : goal.returns-in_ok-batch-in-Faulted
returns-in_ok-batch-in-Faulted c =
    let old = c.args.self.now in
    let x = Steps c.args.input in
    let line = c.args.line in
    let seat = c.in-Up.seat in
    let new = c.fail.new.self in
    let count = c.in-Faulted.count in
    let told = outcome_lines line (failed_outcome count c.args.input) in
    let can = subst (λ (s : Status). CanDo pure_nodes (node_of old s) x) c.in-Up.is c.requires in
    IfOk-weaker c.saying.result (λ r. r ≡ record { sends = []; told = outcome_lines line c.refusal-outcome.result }) (λ r. (finds_after : Bool) → HasDone old x (fate_of c.args.fate) finds_after line new r.sends r.told)
    (λ r is finds_after.
    let did = failed_in_step old seat c.to_store-in-Faulted.new.seat c.args.input c.in_ok-batch-in-Faulted.batch can c.to_store-in-Faulted.ensures.same c.in_ok-batch-in-Faulted.ensures.batch count line finds_after in
    only r old new x (fate_of c.args.fate) finds_after line told (is ∙ ap (λ (o : Option Outcome). let d : given.Done = record { sends = []; told = outcome_lines line o } in d) c.refusal-outcome.ensures)
    (as_fated old (status.Up seat) x c.args.fate (Faulted count) finds_after line new [] told c.in-Up.is (ap fate_of c.in-Faulted.is)
    (subst (λ (n : PureNode). HasDone (up_node old seat) x (Faulted count) finds_after line n [] told) (sym c.fail.ensures) did)))
    c.saying.ensures
