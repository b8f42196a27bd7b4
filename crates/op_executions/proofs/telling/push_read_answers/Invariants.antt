use Rattle.std.proofs.Common.{◌≡◌, ◌++◌, map}
use Rattle.std.specs.Vec.Iter.{into_iter_items}
use Rattle.op_runs.specs.declared.summary.Line.TheVariants as line
use Rattle.op_executions.proofs.telling.push_read_answers.Given as goal

abbrev pub invariant-replies : goal.invariant-replies
invariant-replies l =
    l.lines ++ map (λ r. line.Read l.pid r.client r.seq r.answer) (into_iter_items l.reply-iterator) ≡ l.initial.lines ++ map (λ r. line.Read l.pid r.client r.seq r.answer) l.fn.replies
