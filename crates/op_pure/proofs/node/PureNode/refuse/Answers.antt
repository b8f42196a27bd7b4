use Rattle.std.proofs.Common.{◌≡◌, Bool, [], Option, ap, ◌∙◌}
use Rattle.op_types.specs.declared.answers.Outcome.{Outcome}
use Rattle.op_runs.specs.World.{Fate, Steps, failed_outcome, outcome_lines}
use Rattle.op_executions.specs.declared.server.Done as given
use Rattle.op_pure.specs.Nodes.{HasDone}
use Rattle.std.proofs.lemmas.Result.{IfOk-weaker}
use Rattle.op_pure.proofs.NodesDone.{no_step, only, refused_step}
use Rattle.op_pure.proofs.node.PureNode.refuse.Goals as goal

pub returns-in-Failed : goal.returns-in-Failed
returns-in-Failed c =
    let old = c.args.self.now in
    let x = c.args.input.now in
    let line = c.args.line in
    let f = c.in-Failed in
    let told = outcome_lines line c.refusal.result in
    IfOk-weaker c.saying.result (λ r. r ≡ record { sends = []; told = told }) (λ r. (fate : Fate) → (finds_after : Bool) → HasDone old (Steps x) fate finds_after line old r.sends r.told)
    (λ r is fate finds_after.
    only r old old (Steps x) fate finds_after line (outcome_lines line (failed_outcome f.count x)) (is ∙ ap (λ (o : Option Outcome). let d : given.Done = record { sends = []; told = outcome_lines line o } in d) c.refusal.ensures)
    (refused_step old f.field-0 f.count f.field-2 x fate finds_after line c.requires.kept f.is))
    c.saying.ensures

pub returns-in_default : goal.returns-in_default
returns-in_default c fate finds_after =
    let old = c.args.self.now in
    only c.nothing.result old old (Steps c.args.input.now) fate finds_after c.args.line [] c.nothing.ensures
    (no_step old c.args.input.now fate finds_after c.args.line c.requires.kept c.requires.down c.in_default.not-Failed)
