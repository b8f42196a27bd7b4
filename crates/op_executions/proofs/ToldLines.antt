-- What a node tells of its state.
use Rattle.std.proofs.Common.{◌≡◌, ℕ, List, Result, Ok, Err, sym, ap, ◌∙◌}
use Rattle.std.specs.Prelude.{IfOk}
use Rattle.op_runs.specs.declared.summary.Line.{Line}
use Rattle.op_protocol.specs.State.{State}
use Rattle.op_runs.specs.World.{Told, told_lines}
use Rattle.op_executions.specs.Deeds.{told_of}
use Rattle.op_executions.specs.declared.deed.Told as said

-- the lines of what was read of some state are those of the state that it was read of
pub lines_of_state : {A E : Type 0} (r : Result (List Line) E) (told : said.Told) (t : Told) (me : ℕ) (read : A) (reads : State → A) (s : State) → told_of told ≡ t → read ≡ reads s
    → IfOk r (λ lines. (s : State) → read ≡ reads s → lines ≡ told_lines t me s s.durable.part)
    → IfOk r (λ lines. lines ≡ told_lines (told_of told) me s s.durable.part)
lines_of_state (Ok lines) told t me read reads s is here all = all s here ∙ ap (λ (u : Told). told_lines u me s s.durable.part) (sym is)
lines_of_state (Err e) told t me read reads s is here all = tt
