use Rattle.std.proofs.Common.{◌≡◌, ◌∷◌, ◌++◌, [], ℕ, refl, ap, ◌∙◌}
use Rattle.op_types.specs.declared.answers.Answer.{Answer}
use Rattle.op_types.specs.declared.answers.Answer.TheVariants as answer
use Rattle.op_types.specs.declared.answers.Cause.{Cause}
use Rattle.op_runs.specs.declared.summary.Line.{Line}
use Rattle.op_runs.specs.declared.summary.Line.TheVariants as line
use Rattle.op_runs.specs.World.{answer_line}
use Rattle.op_executions.proofs.telling.push_answer.Goals as goal

-- what isn't given up is replied
replied : (pid client seq : ℕ) (a : Answer) → ((cause : Cause) → a ≡ answer.Dropped cause → ⊥) → line.Reply pid client seq a ≡ answer_line pid client seq a
replied pid client seq answer.Done kept = refl
replied pid client seq (answer.Value value) kept = refl
replied pid client seq answer.Absent kept = refl
replied pid client seq answer.Stale kept = refl
replied pid client seq (answer.Dropped cause) kept = absurd (kept cause refl)

pub returns : goal.returns
returns c =
    let r = c.args.reply in
    c.in_ok-push-2.ensures.ok ∙ ap (λ (l : Line). c.args.lines.now ++ l ∷ []) (replied c.args.pid r.client r.seq r.answer c.in_default.not-Dropped)
