use Rattle.std.proofs.Common.{ℕ, Bool, []}
use Rattle.std.proofs.lemmas.Result.{IfOk-weaker}
use Rattle.op_runs.specs.World.{Fate, Steps, Stops, Opens, Tells}
use Rattle.op_executions.specs.Deeds.{told_of, doing_of}
use Rattle.op_executions.specs.Servers.{IsDoneAt}
use Rattle.op_executions.specs.declared.deed.Doing.TheVariants as variant
use Rattle.op_pure.specs.Happenings.{fate_of}
use Rattle.op_pure.specs.Nodes.{HasDone, pure_nodes}
use Rattle.op_pure.proofs.NodesDone.{did_stop, done_as, only}
use Rattle.op_pure.proofs.node.PureNode.does.Goals as goal

pub returns-in-Steps : goal.returns-in-Steps
returns-in-Steps c =
    let a = c.args in
    let old = a.self.now in
    let new = c.step.new.self in
    let x = c.in-Steps.input in
    IfOk-weaker c.step.result (λ r. (finds_after : Bool) → HasDone old (Steps x) (fate_of a.fate.fate) finds_after a.line new r.sends r.told) (λ r. IsDoneAt pure_nodes a.fate old (doing_of a.doing) a.line new r.sends r.told)
    (λ r did. done_as a.fate old a.doing (variant.Steps x) a.line new r c.in-Steps.is (did a.fate.finds_after)) c.step.ensures

pub returns-in-Stops : goal.returns-in-Stops
returns-in-Stops c =
    let a = c.args in
    let old = a.self.now in
    let new = c.stop.new.self in
    let f = fate_of a.fate.fate in
    done_as a.fate old a.doing variant.Stops a.line new c.nothing.result c.in-Stops.is
    (only c.nothing.result old new Stops f a.fate.finds_after a.line [] c.nothing.ensures (did_stop old new c.new.result f a.fate.finds_after a.line c.new.ensures c.requires.kept c.stop.ensures))

pub returns-in-Opens : goal.returns-in-Opens
returns-in-Opens c =
    let a = c.args in
    let old = a.self.now in
    let new = c.open.new.self in
    IfOk-weaker c.open.result (λ r. (line : ℕ) → HasDone old Opens (fate_of a.fate.fate) a.fate.finds_after line new r.sends r.told) (λ r. IsDoneAt pure_nodes a.fate old (doing_of a.doing) a.line new r.sends r.told)
    (λ r did. done_as a.fate old a.doing variant.Opens a.line new r c.in-Opens.is (did a.line)) c.open.ensures

pub returns-in-Tells : goal.returns-in-Tells
returns-in-Tells c =
    let a = c.args in
    let old = a.self.now in
    let t = told_of c.in-Tells.told in
    IfOk-weaker c.tell.result (λ r. (fate : Fate) → (finds_after : Bool) → (line : ℕ) → HasDone old (Tells t) fate finds_after line old r.sends r.told) (λ r. IsDoneAt pure_nodes a.fate old (doing_of a.doing) a.line old r.sends r.told)
    (λ r did. done_as a.fate old a.doing (variant.Tells c.in-Tells.told) a.line old r c.in-Tells.is (did (fate_of a.fate.fate) a.fate.finds_after a.line)) c.tell.ensures
