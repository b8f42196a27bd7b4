use Rattle.std.proofs.Common.{ℕ, List, sym, ap, ◌∙◌}
use Rattle.std.specs.Prelude.{◌++◌, map}
use Rattle.op_runs.specs.World.{outcome_lines, answer_line}
use Rattle.op_runs.specs.declared.summary.Line.{Line}
use Rattle.op_runs.specs.declared.summary.Line.TheVariants as said
use Rattle.op_pure.proofs.NodeSteps.{admits, did_step, told_by}
use Rattle.op_pure.proofs.node.step_whole.Goals as goal

pub plan-requires : goal.plan-requires
plan-requires c = admits c.requires.0 c.args.seat.now c.args.input c.requires.1

pub returns : goal.returns
returns c n me can finds_after =
    let g = c.adopt-sends.result in
    let told = c.in_ok-push_step_lines.ensures
    ∙ ap (λ (before : List Line). before ++ outcome_lines c.args.line g.outcome ++ map (λ r. answer_line c.args.pid r.client r.seq r.answer) g.replies ++ map (λ r. said.Read c.args.pid r.client r.seq r.answer) g.read_replies) c.new-told.ensures
    ∙ ap (λ (p : ℕ). told_by p c.args.line g.outcome g.replies g.read_replies) (sym me) in
    did_step n c.args.line c.args.seat.now c.plan.new.self c.adopt-sends.new.self c.args.input g c.push_step_lines.new.lines can
    c.plan.ensures.same (c.adopt-sends.ensures c.args.input c.in_ok-plan.ensures.plans) told finds_after
